use Rattle.std.proofs.Common.{◌≡◌, ℕ, ◌+◌, ap, ◌∙◌, arith}
use Rattle.rules.specs.Subject.{day_units, peak_units, day_weight, peak_weight}
use Rattle.rules.specs.Sharing.{whole, share}
use Rattle.rules.proofs.Shares.{whole_none}
use Rattle.figures.specs.View.{period_seen}
use Rattle.account.proofs.sheet.laying.alone.Goals as goal

-- before the first row nothing is shared
whole_first : (N D w : ℕ) → whole N D w ≡ share N D 0 w
whole_first N D w =
    let e : 0 + w ≡ w = omega arith in
    omega (arith, whole_none N D, ap (whole N D) e)

pub returns-clause-day : goal.returns-clause-day
returns-clause-day g c =
    let m = g.M.Method.meaning c.args.m.now in
    c.wholes.ensures.day ∙ ap (whole (m.upper day_units) m.lower) c.weigh.ensures.day ∙ whole_first (m.upper day_units) m.lower (day_weight m (period_seen c.args.row.now))

pub returns-clause-peak : goal.returns-clause-peak
returns-clause-peak g c =
    let m = g.M.Method.meaning c.args.m.now in
    c.wholes.ensures.peak ∙ ap (whole (m.upper peak_units) m.lower) c.weigh.ensures.peak ∙ whole_first (m.upper peak_units) m.lower (peak_weight m (period_seen c.args.row.now))
