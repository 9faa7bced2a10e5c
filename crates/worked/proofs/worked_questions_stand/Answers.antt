use Rattle.std.proofs.Common.{refl}
use Rattle.rules.specs.Sharing.{whole}
use Rattle.rules.specs.Laid.{rewritten, corrected}
use Rattle.rules.specs.Questions.{asked}
use Rattle.worked.proofs.worked_questions_stand.Goals as goal

pub returns : goal.returns
unfolding whole rewritten corrected asked
returns c = record { limits = refl; spans = refl; orders = refl }
