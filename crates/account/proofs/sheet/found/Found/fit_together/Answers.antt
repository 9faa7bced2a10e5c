use Rattle.std.proofs.Common.{◌≡◌, ℕ, ◌+◌, ◌≤◌, true, false, leb, ◌&&◌, length, sym, ap, ap₂, ◌∙◌, arith}
use Rattle.std.proofs.lemmas.Bool.{and_parts, and_from, leb-true, le-leb}
use Rattle.rules.specs.Subject.{Period, Method, day_units, peak_units, day_weight, peak_weight}
use Rattle.rules.specs.Sharing.{whole, share}
use Rattle.rules.specs.Laid.{laid, with_standing, rewritten, corrected}
use Rattle.rules.specs.Questions.{shares_fit, all_fit}
use Rattle.rules.proofs.Shares.{whole_more}
use Rattle.method.specs.Uses.{finding_of}
use Rattle.figures.specs.View.{period_seen}
use Rattle.account.specs.Rows.{periods, span_start}
use Rattle.account.proofs.sheet.Asked.{left_at, fitting, fitting_first, fitting_in, fitting_out, fitting_all}
use Rattle.account.proofs.sheet.Weights.{weighed_none, weighed_more, weighed_most, weighed_same}
use Rattle.account.proofs.sheet.Covered.{covered_by_sort, few_covered, asked_covered}
use Rattle.account.proofs.sheet.found.Found.fit_together.Goals as goal
use Rattle.account.proofs.sheet.found.Found.fit_together.Goals.{then-rewrites_sort, else-rewrites_sort}

-- no share is more than the whole that the rows so far get with it
fits_under : (m : Method) (V W : ℕ) (p : Period) → whole (m.upper day_units) m.lower (V + day_weight m p) ≤ 1000000 → whole (m.upper peak_units) m.lower (W + peak_weight m p) ≤ 1000000 → true ≡ shares_fit (with_standing (laid m V W p) p)
fits_under m V W p a b =
    let s : ℕ = share (m.upper day_units) m.lower V (day_weight m p) in
    let k : ℕ = share (m.upper peak_units) m.lower W (peak_weight m p) in
    sym (and_from (leb s 1000000) (leb k 1000000) (le-leb s 1000000 (omega arith)) (le-leb k 1000000 (omega arith)))

pub loop-row-init : goal.loop-row-init
loop-row-init g c = record {
  fitting = λ a b. fitting_first (finding_of c.args.self.now.finding) (span_start (finding_of c.args.self.now.finding) (length c.args.self.now.rows.now)) (g.M.Method.meaning c.args.m.now) c.covered-rows.result.now;
  weighed = weighed_none (g.M.Method.meaning c.args.m.now);
}

pub plus-weights-requires : goal.plus-weights-requires
plus-weights-requires g c =
    let few = few_covered (finding_of c.args.self.now.finding) c.args.self.now.rows.now in
    let n = ap length c.covered-rows.ensures in
    let sum = weighed_more (g.M.Method.meaning c.args.m.now) c.loop-row.row-index _ _ _ _ c.loop-row.invariant.weighed c.weigh.ensures.light in
    (omega (arith, sum.day, c.loop-row-test.true), omega (arith, sum.peak, c.loop-row-test.true))

pub loop-row-preserved : goal.loop-row-preserved
loop-row-preserved g c =
    let f = finding_of c.args.self.now.finding in
    let m = g.M.Method.meaning c.args.m.now in
    let all = c.args.self.now.rows.now in
    let from = span_start f (length all) in
    let rows = c.covered-rows.result.now in
    let i = c.loop-row.row-index in
    let V = c.loop-row.weights.day in
    let W = c.loop-row.weights.peak in
    let x = c.row-item.result in
    let p = period_seen x in
    let here = left_at rows i x c.loop-row-test.true c.row-item.is in
    elim c.if-rewrites_sort.branch [
      | then-rewrites_sort w ↦
          let e = fitting_in f from m rows i V W x here (covered_by_sort f all rows i p true c.covered-rows.ensures c.loop-row-test.true (sym w.if-rewrites_sort.true ∙ c.rewrites_sort.ensures)) in
          let a = ap (λ q. q.day) w.weights-is ∙ w.plus-weights.ensures.0 in
          let b = ap (λ q. q.peak) w.weights-is ∙ w.plus-weights.ensures.1 in
          let day : c.if-rewrites_sort.weights.day ≡ V + day_weight m p = a ∙ ap (λ z. V + z) w.weigh.ensures.day in
          let peak : c.if-rewrites_sort.weights.peak ≡ W + peak_weight m p = b ∙ ap (λ z. W + z) w.weigh.ensures.peak in
          record {
            fitting = λ h k.
                let h' : whole (m.upper day_units) m.lower (V + day_weight m p) ≤ 1000000 = omega (arith, ap (whole (m.upper day_units) m.lower) day) in
                let k' : whole (m.upper peak_units) m.lower (W + peak_weight m p) ≤ 1000000 = omega (arith, ap (whole (m.upper peak_units) m.lower) peak) in
                ap₂ (λ v w. fitting f from m rows (i + 1) v w) day peak
                ∙ ap (λ b. b && fitting f from m rows (i + 1) (V + day_weight m p) (W + peak_weight m p)) (fits_under m V W p h' k')
                ∙ sym e
                ∙ c.loop-row.invariant.fitting (omega (arith, whole_more (m.upper day_units) m.lower V (day_weight m p))) (omega (arith, whole_more (m.upper peak_units) m.lower W (peak_weight m p)));
            weighed = weighed_same m (i + 1) _ _ _ _ a b (weighed_more m i V W _ _ c.loop-row.invariant.weighed w.weigh.ensures.light);
          }
      | else-rewrites_sort w ↦
          let e = fitting_out f from m rows i V W x here (covered_by_sort f all rows i p false c.covered-rows.ensures c.loop-row-test.true (sym w.if-rewrites_sort.false ∙ c.rewrites_sort.ensures)) in
          let day : c.if-rewrites_sort.weights.day ≡ V = ap (λ q. q.day) w.weights-is in
          let peak : c.if-rewrites_sort.weights.peak ≡ W = ap (λ q. q.peak) w.weights-is in
          record {
            fitting = λ h k.
                ap₂ (λ v w. fitting f from m rows (i + 1) v w) day peak
                ∙ sym e
                ∙ c.loop-row.invariant.fitting (omega (arith, ap (whole (m.upper day_units) m.lower) day)) (omega (arith, ap (whole (m.upper peak_units) m.lower) peak));
            weighed = weighed_same m (i + 1) _ _ _ _ day peak (weighed_most m i V W (i + 1) (omega arith) c.loop-row.invariant.weighed);
          }
    ]

pub wholes_fit-requires : goal.wholes_fit-requires
wholes_fit-requires g c =
    let few = few_covered (finding_of c.args.self.now.finding) c.args.self.now.rows.now in
    let all = c.args.self.now.few in
    weighed_most (g.M.Method.meaning c.args.m.now) c.loop-row.row-index _ _ 120 (omega (arith, ap length c.covered-rows.ensures)) c.loop-row.invariant.weighed

pub returns : goal.returns
unfolding fitting
returns g c h =
    let f = finding_of c.args.self.now.finding in
    let m = g.M.Method.meaning c.args.m.now in
    let all = c.args.self.now.rows.now in
    let from = span_start f (length all) in
    let both = and_parts _ _ (sym c.wholes_fit.ensures ∙ h) in
    ap all_fit (asked_covered f all m)
    ∙ sym (ap (λ xs. all_fit (rewritten f from (corrected f m from 0 0 (periods xs)))) c.covered-rows.ensures)
    ∙ sym (c.loop-row.invariant.fitting (leb-true _ 1000000 both.0) (leb-true _ 1000000 both.1))
    ∙ fitting_all f from m c.covered-rows.result.now c.loop-row.row-index c.loop-row.weights.day c.loop-row.weights.peak c.loop-row-test.false
