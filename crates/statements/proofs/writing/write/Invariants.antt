use Rattle.events.specs.Lines.{lines}
use Rattle.events.specs.LinesLeft.{lines_left}
use Rattle.statements.proofs.Going.{Going}
use Rattle.statements.proofs.writing.write.Given as goal

abbrev pub invariant-loop-line : goal.invariant-loop-line
invariant-loop-line g l = Going g.T.Tariff.meaning l.initial.account l.account l.initial.page l.page (lines l.text) (lines_left l.line-iterator)
