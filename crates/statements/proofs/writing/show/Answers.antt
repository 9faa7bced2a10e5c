use Rattle.std.proofs.Common.{ap, rules}
use Rattle.figures.specs.View.{line_seen}
use Rattle.figures.specs.declared.line.Line.{Line}
use Rattle.account.specs.State.{state_of}
use Rattle.statements.specs.Texts.{journal_line, sums_line}
use Rattle.page.proofs.Steps.{risen, spelled_as, item_stopped}
use Rattle.statements.proofs.writing.show.Goals as goal

pub returns-in_err-journal : goal.returns-in_err-journal
returns-in_err-journal g c =
    let s = state_of c.args.account.now in
    let written = spelled_as (ap (λ (l : Line). journal_line (line_seen l)) c.line-item.is) c.in_err-journal.ensures in
    risen c.from_residual.ensures.0
    (spelled_as (search rules) (item_stopped journal_line line_seen _ c.loop-line.line-index _ c.loop-line-test.true (sums_line s.balance s.due) c.loop-line.invariant written))
