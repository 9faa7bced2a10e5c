use Rattle.std.proofs.Common.{ap, add-one, arith}
use Rattle.rules.specs.Sharing.{brought}
use Rattle.rules.proofs.Shares.{brought_more}
use Rattle.account.proofs.sums.bills.Spreading.instalment.Goals as goal

pub overflow_sub-result : goal.overflow_sub-result
overflow_sub-result c =
    let s = c.args.self in
    omega (arith, brought_more s.cents.0 s.bills.count c.args.b, ap (brought s.cents.0 s.bills.count) (add-one c.args.b), c.brought.ensures, c.brought-2.ensures)
