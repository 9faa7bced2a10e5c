use Rattle.std.proofs.Common.{Ok, map, take}
use Rattle.std.specs.List.{flat_map}
use Rattle.figures.specs.View.{line_seen}
use Rattle.page.specs.Writes.{Wrote}
use Rattle.statements.specs.Texts.{journal_line}
use Rattle.statements.proofs.writing.show.Given as goal

abbrev pub invariant-loop-line : goal.invariant-loop-line
invariant-loop-line g l = Wrote l.initial.page l.page (Ok tt) (flat_map journal_line (map line_seen (take l.line-index l.line-items)))
