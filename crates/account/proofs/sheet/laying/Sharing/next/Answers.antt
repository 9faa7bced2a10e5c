use Rattle.std.proofs.Common.{ap, arith}
use Rattle.rules.specs.Subject.{day_units, peak_units}
use Rattle.rules.specs.Sharing.{whole}
use Rattle.rules.proofs.Shares.{whole_more}
use Rattle.account.proofs.sheet.Weights.{weighed_more, weighed_same}
use Rattle.account.proofs.sheet.laying.Sharing.next.Goals as goal

pub wholes-self-requires : goal.wholes-self-requires
wholes-self-requires g c = weighed_same (g.M.Method.meaning c.args.m.now) 120 _ _ _ _ c.plus-self.ensures.0 c.plus-self.ensures.1 (weighed_more (g.M.Method.meaning c.args.m.now) 119 _ _ _ _ c.requires.before c.weigh.ensures.light)

pub overflow_sub-result : goal.overflow_sub-result
overflow_sub-result g c =
    let m = g.M.Method.meaning c.args.m.now in
    let N = m.upper day_units in
    omega (arith, c.requires.wholes.day, c.wholes-self.ensures.day, ap (whole N m.lower) c.plus-self.ensures.0, whole_more N m.lower c.args.self.now.weights.day c.weigh.result.day)

pub overflow_sub-result-2 : goal.overflow_sub-result-2
overflow_sub-result-2 g c =
    let m = g.M.Method.meaning c.args.m.now in
    let N = m.upper peak_units in
    omega (arith, c.requires.wholes.peak, c.wholes-self.ensures.peak, ap (whole N m.lower) c.plus-self.ensures.1, whole_more N m.lower c.args.self.now.weights.peak c.weigh.result.peak)
