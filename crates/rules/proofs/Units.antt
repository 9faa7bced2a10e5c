-- No energy is charged from a run's seventh period on. Assumes nothing.
use Rattle.std.proofs.Common.{◌≡◌, ℕ, suc, ◌+◌, ◌≤◌, Bool, true, false, not, ◌||◌, List, [], ◌∷◌, ◌++◌, refl, ap, ◌∙◌, subst, arith}
use Rattle.std.proofs.lemmas.Bool.{cond_both, leb-false, and_parts, false≢true}
use Rattle.rules.specs.Subject.{zeros, no_energy, estimated, Period, unmetered, Tariff, Cause, absent, under, over, stopped, altered, Finding, Method, day_weight, peak_weight, Call, take, hand_back, bill, estimate, correct, pay, Opening}
use Rattle.rules.specs.Laid.{next_day, run_on, run_past, run, is_late, laid, with_standing, blank, without_reading, in_span, rewrites_sort, rewrites, corrected}
use Rattle.rules.specs.Questions.{of_sort, every, asked}
use Rattle.rules.specs.Given.{billed}
use Rattle.rules.specs.Law.{Every, NoneFromSeventh}
use Rattle.rules.proofs.Runs.{Passed}
use Rattle.rules.proofs.Holds.{answers}

-- from a run's seventh on a period is without energy, and stays so
abbrev Blank : Period → Type 0
Blank p = (p.sort ≡ no_energy) × (p.standing ≡ zeros)

abbrev Sealed : ℕ → List Period → Type 0
Sealed n [] = Unit
Sealed n (p ∷ ps) = (unmetered p ≡ true → 6 ≤ n → Blank p) × Sealed (run_on n p) ps

sealed_push : (n : ℕ) (ps : List Period) (q : Period) → Sealed n ps → (unmetered q ≡ true → 6 ≤ run_past n ps → Blank q) → Sealed n (ps ++ (q ∷ []))
sealed_push n [] q s h = (h, tt)
sealed_push n (p ∷ ps) q s h = (s.0, sealed_push (run_on n p) ps q s.1 h)

sealed_unmetered : (first last : ℕ) (m : Method) (ps : List Period) → unmetered (without_reading first last m ps) ≡ true → 6 ≤ run ps → Blank (without_reading first last m ps)
unfolding without_reading
sealed_unmetered first last m ps =
    let p = blank first last estimated in
    cond_both (is_late ps) (blank first last no_energy) (with_standing (laid m 0 0 p) p) (λ q. unmetered q ≡ true → 6 ≤ run ps → Blank q)
    (λ e u h. (refl, refl))
    (λ e u h. absurd (omega (arith, h, leb-false 6 (run ps) e)))

-- no correction rewrites a period without energy
clash : (c : Cause) → of_sort c no_energy ≡ true → rewrites_sort c no_energy ≡ true → ⊥
clash absent h k = false≢true k
clash under h k = false≢true h
clash over h k = false≢true h
clash stopped h k = false≢true h
clash altered h k = false≢true h

pub or_then : (a b : Bool) → (not a || b) ≡ true → a ≡ true → b ≡ true
or_then true b h e = h
or_then false b h e = absurd (false≢true e)

never : (f : Finding) (row : ℕ) (p : Period) → (not (in_span f row) || of_sort f.cause p.sort) ≡ true → rewrites f row p ≡ true → p.sort ≡ no_energy → ⊥
never f row p h e n =
    let parts = and_parts (in_span f row) (rewrites_sort f.cause p.sort) e in
    clash f.cause (subst (λ s. of_sort f.cause s ≡ true) n (or_then (in_span f row) _ h parts.0)) (subst (λ s. rewrites_sort f.cause s ≡ true) n parts.1)

sealed_corrected : (f : Finding) (m : Method) (n row V W : ℕ) (ps : List Period) → every (λ row p. not (in_span f row) || of_sort f.cause p.sort) row ps ≡ true → Sealed n ps → Sealed n (corrected f m row V W ps)
unfolding corrected
sealed_corrected f m n row V W [] right s = tt
sealed_corrected f m n row V W (p ∷ ps) right s =
    let parts = and_parts (not (in_span f row) || of_sort f.cause p.sort) _ right in
    let q = with_standing (laid m V W p) p in
    let V' = V + day_weight m p in
    let W' = W + peak_weight m p in
    cond_both (rewrites f row p) (q ∷ corrected f m (suc row) V' W' ps) (p ∷ corrected f m (suc row) V W ps) (Sealed n)
    (λ e. (λ u h. absurd (never f row p parts.0 e (s.0 u h).0), sealed_corrected f m (run_on n p) (suc row) V' W' ps parts.1 s.1))
    (λ e. (s.0, sealed_corrected f m (run_on n p) (suc row) V W ps parts.1 s.1))

all_sealed : (o : Opening) (calls : List Call) → Every (Passed o) calls → Sealed 0 (billed o calls)
unfolding billed asked
all_sealed o [] h = tt
all_sealed o (take now length ∷ before) h = all_sealed o before h.1
all_sealed o (hand_back hold ∷ before) h = all_sealed o before h.1
all_sealed o (bill hold last r ∷ before) h = sealed_push 0 (billed o before) _ (all_sealed o before h.1) (λ u k. absurd (false≢true u))
all_sealed o (estimate hold last m ∷ before) h =
    sealed_push 0 (billed o before) _ (all_sealed o before h.1) (sealed_unmetered (next_day o.day (billed o before)) last m (billed o before))
all_sealed o (correct hold f m ∷ before) h =
    let six = (answers o (correct hold f m) before h.0).1.1.1.0 in
    sealed_corrected f m 0 0 0 0 (billed o before) (and_parts _ _ six).0 (all_sealed o before h.1)
all_sealed o (pay hold cents ∷ before) h = all_sealed o before h.1

none_from : (t : Tariff) (n : ℕ) (ps : List Period) → Sealed n ps → NoneFromSeventh t n ps
none_from t n [] s = tt
none_from t n (p ∷ ps) s =
    (λ u h. ap (t.energy p.last) (s.0 u h).1 ∙ (let k : t.energy p.last zeros ≤ 0 = t.energy_limit p.last zeros in omega arith), none_from t (run_on n p) ps s.1)

pub none_from_seventh : (t : Tariff) (o : Opening) (calls : List Call) → Every (Passed o) calls → NoneFromSeventh t 0 (billed o calls)
none_from_seventh t o calls h = none_from t 0 (billed o calls) (all_sealed o calls h)
