-- How many rows a correction rewrites. Assumes nothing.
use Rattle.std.proofs.Common.{◌≡◌, ℕ, suc, ◌+◌, ◌-◌, ◌<◌, ◌≤◌, max, true, false, cond, ◌&&◌, eqb, leb, List, [], ◌∷◌, ◌++◌, length, refl, ap, ◌∙◌, sym, arith}
use Rattle.std.proofs.lemmas.Bool.{cond_both, leb-true, leb-false, ltb-true, eqb-true, and_parts, and_from, le-leb, false≢true}
use Rattle.rules.specs.Subject.{Period, is_estimated, unmetered, Cause, absent, under, over, stopped, altered, Side, consumer, supplier, Finding, Method, day_weight, peak_weight}
use Rattle.rules.specs.Laid.{run_on, run_past, in_span, rewrites_sort, rewrites, rewritten, corrected}
use Rattle.account.specs.Few.{may_stand, six_at_most}
use Rattle.rules.specs.Questions.{size, of_sort, every, sort_fits, sorts_right, row_is, has_day, span_right}
use Rattle.rules.proofs.Units.{or_then}

-- a row more
pub six_push : (n : ℕ) (ps : List Period) (q : Period) → six_at_most n ps ≡ true → may_stand (run_past n ps) q ≡ true → six_at_most n (ps ++ (q ∷ [])) ≡ true
six_push n [] q s h = and_from _ _ h refl
six_push n (p ∷ ps) q s h = let six = and_parts (may_stand n p) _ s in and_from (may_stand n p) _ six.0 (six_push (run_on n p) ps q six.1 h)

-- a correction leaves the sorts as they are
pub six_corrected : (f : Finding) (m : Method) (n row V W : ℕ) (ps : List Period) → six_at_most n ps ≡ true → six_at_most n (corrected f m row V W ps) ≡ true
unfolding corrected
six_corrected f m n row V W [] s = refl
six_corrected f m n row V W (p ∷ ps) s =
    let six = and_parts (may_stand n p) _ s in
    cond_both (rewrites f row p) _ _ (λ qs. six_at_most n qs ≡ true)
    (λ e. and_from (may_stand n p) _ six.0 (six_corrected f m (run_on n p) (suc row) (V + day_weight m p) (W + peak_weight m p) ps six.1))
    (λ e. and_from (may_stand n p) _ six.0 (six_corrected f m (run_on n p) (suc row) V W ps six.1))

-- no more than the rows of its span that are not before the row given
span_few : (f : Finding) (row : ℕ) (ps : List Period) → length (rewritten f row ps) ≤ f.last + 1 - max row f.first
unfolding rewritten
span_few f row [] = omega arith
span_few f row (p ∷ ps) =
    let rest = span_few f (suc row) ps in
    cond_both (rewrites f row p) (p ∷ rewritten f (suc row) ps) (rewritten f (suc row) ps) (λ (qs : List Period). length qs ≤ f.last + 1 - max row f.first)
    (λ e.
    let s = and_parts (leb f.first row) (leb row f.last) (and_parts (in_span f row) _ e).0 in
    omega (arith, rest, leb-true _ _ s.0, leb-true _ _ s.1))
    (λ e. omega (arith, rest))

module _ (f : Finding) (c : f.cause ≡ absent) where
  -- an estimated row has fewer than six unmetered ones before it
  pub before_six : (n row : ℕ) (p : Period) → may_stand n p ≡ true → rewrites f row p ≡ true → n < 6
  before_six n row p h e = ltb-true n 6 (or_then (is_estimated p.sort) _ h (ap (λ k. rewrites_sort k p.sort) (sym c) ∙ (and_parts (in_span f row) _ e).1))

  -- in its span, where n unmetered rows stand before
  span_six : (row n : ℕ) (ps : List Period) → f.first ≤ row → every (sort_fits f) row ps ≡ true → six_at_most n ps ≡ true → length (rewritten f row ps) ≤ 6 - n
  unfolding rewritten
  span_six row n [] a right s = omega arith
  span_six row n (p ∷ ps) a right s =
      let parts = and_parts (sort_fits f row p) _ right in
      let six = and_parts (may_stand n p) _ s in
      elim (leb row f.last) as (λ b. leb row f.last ≡ b → length (rewritten f row (p ∷ ps)) ≤ 6 - n) [
        | true ↦ λ k.
            let u : unmetered p ≡ true = ap (λ x. of_sort x p.sort) (sym c) ∙ or_then (in_span f row) _ parts.0 (and_from _ _ (le-leb f.first row a) k) in
            let more : run_on n p ≡ n + 1 = ap (λ b. cond b (n + 1) 0) u in
            let rest = span_six (suc row) (run_on n p) ps (omega arith) parts.1 six.1 in
            cond_both (rewrites f row p) (p ∷ rewritten f (suc row) ps) (rewritten f (suc row) ps) (λ (qs : List Period). length qs ≤ 6 - n)
            (λ e. omega (arith, rest, more, before_six n row p six.0 e))
            (λ e. omega (arith, rest, more))
        | false ↦ λ k. omega (arith, span_few f row (p ∷ ps), leb-false row f.last k)
      ] refl

  -- and wherever it begins
  absent_six : (row n : ℕ) (ps : List Period) → every (sort_fits f) row ps ≡ true → six_at_most n ps ≡ true → length (rewritten f row ps) ≤ 6
  unfolding rewritten
  absent_six row n [] right s = omega arith
  absent_six row n (p ∷ ps) right s =
      elim (leb f.first row) as (λ b. leb f.first row ≡ b → length (rewritten f row (p ∷ ps)) ≤ 6) [
        | true ↦ λ k. omega (arith, span_six row n (p ∷ ps) (leb-true _ _ k) right s)
        | false ↦ λ k.
            cond_both (rewrites f row p) (p ∷ rewritten f (suc row) ps) (rewritten f (suc row) ps) (λ (qs : List Period). length qs ≤ 6)
            (λ e. absurd (false≢true (sym k ∙ (and_parts (leb f.first row) _ (and_parts (in_span f row) _ e).0).0)))
            (λ e. absent_six (suc row) (run_on n p) ps (and_parts (sort_fits f row p) _ right).1 (and_parts (may_stand n p) _ s).1)
      ] refl

-- where no more than twelve rows are in the span
rows_sized : (f : Finding) (ps : List Period) → size f ≤ 12 → length (rewritten f 0 ps) ≤ 12
rows_sized f ps h = omega (arith, span_few f 0 ps, h)

rows_by : (c : Cause) (s : Side) (f : Finding) (ps : List Period) → f.cause ≡ c → span_right c s f ps ≡ true → every (sort_fits f) 0 ps ≡ true → six_at_most 0 ps ≡ true → length (rewritten f 0 ps) ≤ 12
rows_by absent s f ps c e right h = omega (arith, absent_six f c 0 0 ps right h)
rows_by under consumer f ps c e right h = rows_sized f ps (omega (arith, eqb-true (size f) 1 (and_parts _ _ e).0))
rows_by under supplier f ps c e right h = rows_sized f ps (omega (arith, leb-true (size f) 3 (and_parts _ _ e).0))
rows_by over s f ps c e right h = rows_sized f ps (leb-true (size f) 12 (and_parts f.ascertained _ e).1)
rows_by stopped s f ps c e right h = rows_sized f ps (leb-true (size f) 12 (and_parts _ _ e).0)
rows_by altered s f ps c e right h =
    rows_sized f ps (cond_both f.ascertained (leb (size f) 12) (eqb (size f) 3 && row_is (has_day f.notice) ps (f.last + 1)) (λ b. b ≡ true → size f ≤ 12)
    (λ a. leb-true (size f) 12)
    (λ a k. omega (arith, eqb-true (size f) 3 (and_parts _ _ k).0)) e)

-- a correction that passed these questions rewrites few rows
pub rows_few : (f : Finding) (ps : List Period) → sorts_right f ps ≡ true → span_right f.cause f.side f ps ≡ true → six_at_most 0 ps ≡ true → length (rewritten f 0 ps) ≤ 12
rows_few f ps right e h = rows_by f.cause f.side f ps refl e (and_parts _ _ right).0 h
