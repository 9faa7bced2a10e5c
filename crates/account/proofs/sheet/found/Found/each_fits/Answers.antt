use Rattle.std.proofs.Common.{◌≡◌, ◌+◌, true, false, ◌&&◌, length, sym, ap, ap₂, ◌∙◌, subst, arith}
use Rattle.method.specs.Uses.{finding_of}
use Rattle.rules.specs.Subject.{day_units, peak_units, day_weight, peak_weight}
use Rattle.rules.specs.Laid.{laid, with_standing, rewrites, rewritten, corrected}
use Rattle.rules.specs.Questions.{shares_fit, all_fit}
use Rattle.figures.specs.View.{period_seen}
use Rattle.rules.proofs.Shares.{whole_none}
use Rattle.account.specs.Rows.{periods, span_start, pair_fits}
use Rattle.account.specs.Weighing.{Whole}
use Rattle.account.proofs.sheet.Asked.{left_at, fitting, fitting_first, fitting_in, fitting_out, fitting_all}
use Rattle.account.proofs.sheet.Weights.{weighed_none, weighed_more, weighed_most, weighed_same}
use Rattle.account.proofs.sheet.Covered.{covered_by_sort, few_covered, asked_covered}
use Rattle.account.proofs.sheet.found.Found.each_fits.Goals as goal
use Rattle.account.proofs.sheet.found.Found.each_fits.Goals.{then-rewrites_sort+else-not-fit, else-rewrites_sort}

pub loop-row-init : goal.loop-row-init
loop-row-init g c =
    let f = finding_of c.args.self.now.finding in
    let m = g.M.Method.meaning c.args.m.now in
    record {
      fitting = fitting_first f (span_start f (length c.args.self.now.rows.now)) m c.covered-rows.result.now;
      weighed = weighed_none m;
      wholes = record { day = sym (whole_none (m.upper day_units) m.lower); peak = sym (whole_none (m.upper peak_units) m.lower) };
    }

pub next-shares-requires-clause-before : goal.next-shares-requires-clause-before
next-shares-requires-clause-before g c =
    let few = few_covered (finding_of c.args.self.now.finding) c.args.self.now.rows.now in
    let all = c.args.self.now.few in
    weighed_most (g.M.Method.meaning c.args.m.now) c.loop-row.row-index _ _ 119 (omega (arith, ap length c.covered-rows.ensures, c.loop-row-test.true)) c.loop-row.invariant.weighed

pub returns-then-not-fit : goal.returns-then-not-fit
unfolding fitting
returns-then-not-fit g c =
    let f = finding_of c.args.self.now.finding in
    let m = g.M.Method.meaning c.args.m.now in
    let all = c.args.self.now.rows.now in
    let from = span_start f (length all) in
    let rows = c.covered-rows.result.now in
    let i = c.loop-row.row-index in
    let V = c.loop-row.sharing.weights.day in
    let W = c.loop-row.sharing.weights.peak in
    let x = c.row-item.result in
    let p = period_seen x in
    let within : rewrites f (from + i) p ≡ true = covered_by_sort f all rows i p true c.covered-rows.ensures c.loop-row-test.true (sym c.if-rewrites_sort.true ∙ c.rewrites_sort.ensures) in
    let e = fitting_in f from m rows i V W x (left_at rows i x c.loop-row-test.true c.row-item.is) within in
    let no : false ≡ shares_fit (with_standing (laid m V W p) p) = sym c.if-not-fit.true ∙ c.fit.ensures ∙ ap₂ pair_fits c.next-shares.ensures.day c.next-shares.ensures.peak in
    ap (λ b. b && fitting f from m rows (i + 1) (V + day_weight m p) (W + peak_weight m p)) no
    ∙ sym e
    ∙ c.loop-row.invariant.fitting
    ∙ ap (λ xs. all_fit (rewritten f from (corrected f m from 0 0 (periods xs)))) c.covered-rows.ensures
    ∙ ap all_fit (sym (asked_covered f all m))

pub loop-row-preserved : goal.loop-row-preserved
loop-row-preserved g c =
    let f = finding_of c.args.self.now.finding in
    let m = g.M.Method.meaning c.args.m.now in
    let all = c.args.self.now.rows.now in
    let from = span_start f (length all) in
    let rows = c.covered-rows.result.now in
    let i = c.loop-row.row-index in
    let V = c.loop-row.sharing.weights.day in
    let W = c.loop-row.sharing.weights.peak in
    let x = c.row-item.result in
    let p = period_seen x in
    let here = left_at rows i x c.loop-row-test.true c.row-item.is in
    elim c.if-rewrites_sort.branch [
      | then-rewrites_sort+else-not-fit w ↦
          let n = w.next-shares.ensures in
          let e = fitting_in f from m rows i V W x here (covered_by_sort f all rows i p true c.covered-rows.ensures c.loop-row-test.true (sym w.if-rewrites_sort.true ∙ c.rewrites_sort.ensures)) in
          let day : c.if-rewrites_sort.sharing.weights.day ≡ V + day_weight m p = ap (λ s. s.weights.day) w.sharing-is ∙ n.day_more in
          let peak : c.if-rewrites_sort.sharing.weights.peak ≡ W + peak_weight m p = ap (λ s. s.weights.peak) w.sharing-is ∙ n.peak_more in
          let yes : true ≡ shares_fit (with_standing (laid m V W p) p) = sym w.if-not-fit.false ∙ w.fit.ensures ∙ ap₂ pair_fits n.day n.peak in
          record {
            fitting = ap₂ (λ v w. fitting f from m rows (i + 1) v w) day peak ∙ ap (λ b. b && fitting f from m rows (i + 1) (V + day_weight m p) (W + peak_weight m p)) yes ∙ sym e ∙ c.loop-row.invariant.fitting;
            weighed = weighed_same m (i + 1) _ _ _ _ day peak (weighed_more m i V W _ _ c.loop-row.invariant.weighed n.light);
            wholes = subst (Whole m) (sym w.sharing-is) n.wholes;
          }
      | else-rewrites_sort w ↦
          let e = fitting_out f from m rows i V W x here (covered_by_sort f all rows i p false c.covered-rows.ensures c.loop-row-test.true (sym w.if-rewrites_sort.false ∙ c.rewrites_sort.ensures)) in
          let day : c.if-rewrites_sort.sharing.weights.day ≡ V = ap (λ s. s.weights.day) w.sharing-is in
          let peak : c.if-rewrites_sort.sharing.weights.peak ≡ W = ap (λ s. s.weights.peak) w.sharing-is in
          record {
            fitting = ap₂ (λ v w. fitting f from m rows (i + 1) v w) day peak ∙ sym e ∙ c.loop-row.invariant.fitting;
            weighed = weighed_same m (i + 1) _ _ _ _ day peak (weighed_most m i V W (i + 1) (omega arith) c.loop-row.invariant.weighed);
            wholes = subst (Whole m) (sym w.sharing-is) c.loop-row.invariant.wholes;
          }
    ]

pub returns : goal.returns
unfolding fitting
returns g c =
    let f = finding_of c.args.self.now.finding in
    let m = g.M.Method.meaning c.args.m.now in
    let all = c.args.self.now.rows.now in
    let from = span_start f (length all) in
    sym (fitting_all f from m c.covered-rows.result.now c.loop-row.row-index c.loop-row.sharing.weights.day c.loop-row.sharing.weights.peak c.loop-row-test.false)
    ∙ c.loop-row.invariant.fitting
    ∙ ap (λ xs. all_fit (rewritten f from (corrected f m from 0 0 (periods xs)))) c.covered-rows.ensures
    ∙ ap all_fit (sym (asked_covered f all m))
