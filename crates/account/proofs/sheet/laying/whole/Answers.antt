use Rattle.std.proofs.Common.{refl}
use Rattle.rules.specs.Sharing.{whole}
use Rattle.account.proofs.sheet.laying.whole.Goals as goal

pub returns : goal.returns
unfolding whole
returns c = refl
