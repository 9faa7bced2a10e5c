use Rattle.std.proofs.Common.{to_z-of_z}
use Rattle.page.proofs.Drafts.{◌then◌}
use Rattle.statements.proofs.drafts.answer_line.Goals as goal

pub returns : goal.returns
returns c =
    (rw c.layer_letter.ensures at c.text.ensures.after)
    then (rw c.from.ensures at c.figure.ensures.after)
    then c.push.ensures.after
    then (rw (to_z-of_z c.ranges.value) at c.cents.ensures.after)
    then c.push-2.ensures.after
