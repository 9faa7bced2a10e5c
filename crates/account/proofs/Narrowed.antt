-- Of a run, only the first six rows can be estimated: so a correction for an absent reading may stop after them. Assumes nothing.
use Rattle.std.proofs.Common.{◌≡◌, ℕ, suc, ◌+◌, ◌≤◌, true, false, cond, ◌&&◌, leb, List, [], ◌∷◌, refl, ap, ap₂, ◌∙◌, sym, arith}
use Rattle.std.specs.Prelude.{⊤}
use Rattle.std.proofs.lemmas.Bool.{cond-true, cond-false, leb-true, leb-false, le-leb, and_parts, and_from, and_left, and_right, false_from_ne_true}
use Rattle.rules.specs.Subject.{Period, unmetered, absent, Finding, Method, day_weight, peak_weight}
use Rattle.rules.specs.Laid.{run_on, laid, with_standing, in_span, rewrites_sort, rewrites, rewritten, corrected}
use Rattle.rules.specs.Questions.{of_sort, every, sort_fits, all_fit}
use Rattle.rules.proofs.Units.{or_then}
use Rattle.account.specs.Few.{may_stand, six_at_most}
use Rattle.account.proofs.Spans.{before_six}

-- two findings rewrite the same of the periods ps, which begin at the row given
abbrev pub Alike : (f g : Finding) → (row : ℕ) → List Period → Type 0
Alike f g row [] = ⊤
Alike f g row (p ∷ ps) = (rewrites f row p ≡ rewrites g row p) × Alike f g (suc row) ps

pub rewritten_alike : (f g : Finding) (row : ℕ) (ps : List Period) → Alike f g row ps → rewritten f row ps ≡ rewritten g row ps
unfolding rewritten
rewritten_alike f g row [] same = refl
rewritten_alike f g row (p ∷ ps) same = ap₂ (λ b qs. cond b (p ∷ qs) qs) same.0 (rewritten_alike f g (suc row) ps same.1)

module _ (m : Method) where
  -- the rows that are rewritten, as they are then
  abbrev laid_down : Finding → (row V W : ℕ) → List Period → List Period
  laid_down f row V W ps = rewritten f row (corrected f m row V W ps)

  laid_down_next : (f : Finding) (row V W : ℕ) (p : Period) (ps : List Period) →
      laid_down f row V W (p ∷ ps) ≡ cond (rewrites f row p) (with_standing (laid m V W p) p ∷ laid_down f (suc row) (V + day_weight m p) (W + peak_weight m p) ps) (laid_down f (suc row) V W ps)
  unfolding rewritten corrected
  laid_down_next f row V W p ps =
      let q : Period = with_standing (laid m V W p) p in
      let qs = corrected f m (suc row) (V + day_weight m p) (W + peak_weight m p) ps in
      let rs = corrected f m (suc row) V W ps in
      elim (rewrites f row p) as (λ b. rewrites f row p ≡ b → rewritten f row (cond b (q ∷ qs) (p ∷ rs)) ≡ cond b (q ∷ rewritten f (suc row) qs) (rewritten f (suc row) rs)) [
        | true ↦ λ e. cond-true (rewrites f row p) _ _ e
        | false ↦ λ e. cond-false (rewrites f row p) _ _ e
      ] refl

  laid_down_alike : (f g : Finding) (row V W : ℕ) (ps : List Period) → Alike f g row ps → laid_down f row V W ps ≡ laid_down g row V W ps
  unfolding rewritten corrected
  laid_down_alike f g row V W [] same = refl
  laid_down_alike f g row V W (p ∷ ps) same =
      let q : Period = with_standing (laid m V W p) p in
      laid_down_next f row V W p ps
      ∙ ap (λ b. cond b (q ∷ laid_down f (suc row) (V + day_weight m p) (W + peak_weight m p) ps) (laid_down f (suc row) V W ps)) same.0
      ∙ ap₂ (λ xs ys. cond (rewrites g row p) (q ∷ xs) ys) (laid_down_alike f g (suc row) (V + day_weight m p) (W + peak_weight m p) ps same.1) (laid_down_alike f g (suc row) V W ps same.1)
      ∙ sym (laid_down_next g row V W p ps)

  pub fit_alike : (f g : Finding) (ps : List Period) → Alike f g 0 ps → all_fit (rewritten f 0 (corrected f m 0 0 0 ps)) ≡ all_fit (rewritten g 0 (corrected g m 0 0 0 ps))
  fit_alike f g ps same = ap all_fit (laid_down_alike f g 0 0 0 ps same)

-- over the first six rows of its span alone
abbrev pub first_six : Finding → Finding
first_six f = record f { last = f.first + 5 }

module _ (f : Finding) (c : f.cause ≡ absent) (long : f.first + 5 ≤ f.last) where
  -- where a row of the span has as many unmetered ones before it in its run as in the span
  row_alike : (row n : ℕ) (p : Period) → may_stand n p ≡ true → (row ≤ f.last → row ≤ f.first + n) → rewrites (first_six f) row p ≡ rewrites f row p
  row_alike row n p stands deep =
      elim (leb row (f.first + 5)) as (λ b. leb row (f.first + 5) ≡ b → rewrites (first_six f) row p ≡ rewrites f row p) [
        | true ↦ λ k. ap (λ b. (leb f.first row && b) && rewrites_sort f.cause p.sort) (k ∙ sym (le-leb row f.last (omega (arith, leb-true _ _ k, long))))
        | false ↦ λ k.
            and_left _ _ (and_right (leb f.first row) _ k)
            ∙ sym (false_from_ne_true (rewrites f row p) (λ e.
            let within = leb-true row f.last (and_parts (leb f.first row) _ (and_parts (in_span f row) _ e).0).1 in
            absurd (omega (arith, leb-false _ _ k, deep within, before_six f c n row p stands e))))
      ] refl

  pub all_alike : (row n : ℕ) (ps : List Period) → (row ≤ f.last → row ≤ f.first + n) → every (sort_fits f) row ps ≡ true → six_at_most n ps ≡ true → Alike (first_six f) f row ps
  all_alike row n [] deep right six = tt
  all_alike row n (p ∷ ps) deep right six =
      let parts = and_parts (sort_fits f row p) _ right in
      let stands = and_parts (may_stand n p) _ six in
      let next : suc row ≤ f.last → suc row ≤ f.first + run_on n p = λ h.
      elim (leb f.first row) as (λ b. leb f.first row ≡ b → suc row ≤ f.first + run_on n p) [
        | true ↦ λ k.
            let u : unmetered p ≡ true = ap (λ x. of_sort x p.sort) (sym c) ∙ or_then (in_span f row) _ parts.0 (and_from _ _ k (le-leb row f.last (omega (arith, h)))) in
            let more : run_on n p ≡ n + 1 = ap (λ b. cond b (n + 1) 0) u in
            omega (arith, deep (omega (arith, h)), more)
        | false ↦ λ k. omega (arith, leb-false _ _ k)
      ] refl in
      (row_alike row n p stands.0 deep, all_alike (suc row) (run_on n p) ps next parts.1 stands.1)
