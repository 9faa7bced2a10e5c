use Rattle.page.proofs.Drafts.{◌then◌}
use Rattle.statements.proofs.drafts.sums.Goals as goal

pub returns : goal.returns
returns c =
    c.text.ensures.after
    then c.cents.ensures.after
    then c.push.ensures.after
    then c.cents-2.ensures.after
    then c.push-2.ensures.after
