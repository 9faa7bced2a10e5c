use Rattle.std.proofs.Common.{◌*◌, ◌/◌, ap}
use Rattle.rules.specs.Sharing.{brought}
use Rattle.account.proofs.sums.bills.Spreading.brought.Goals as goal

pub returns : goal.returns
unfolding brought
returns c = ap (λ x. c.args.self.cents.0 * x / c.args.self.bills.count) c.min.ensures
