use Rattle.page.proofs.Drafts.{◌then◌}
use Rattle.statements.proofs.drafts.journal.Goals as goal

pub returns : goal.returns
returns c =
    c.text.ensures.after
    then c.figure.ensures.after
    then (rw c.letter.ensures at c.text-2.ensures.after)
    then c.row.ensures
    then c.push.ensures.after
    then c.cents.ensures.after
    then c.push-2.ensures.after
