-- The periods that accepted calls give follow one another. Assumes nothing.
use Rattle.std.proofs.Common.{◌≡◌, ℕ, suc, ◌+◌, ◌-◌, leb, true, List, [], ◌∷◌, ◌++◌, refl}
use Rattle.std.proofs.lemmas.Bool.{cond_both, leb-true, and_parts}
use Rattle.rules.specs.Subject.{longest, Period, days, Finding, Method, day_weight, peak_weight, estimated, no_energy, Call, take, hand_back, bill, estimate, correct, pay, Opening}
use Rattle.rules.specs.Laid.{next_day, is_late, laid, with_standing, metered, blank, without_reading, rewrites, corrected}
use Rattle.rules.specs.Questions.{is_term, asked}
use Rattle.rules.specs.Given.{billed}
use Rattle.rules.specs.Law.{Every, InOrder}
use Rattle.rules.proofs.Runs.{Passed}
use Rattle.rules.proofs.Holds.{answers}

order_push : (day : ℕ) (ps : List Period) (p : Period) → InOrder day ps → p.first ≡ next_day day ps → is_term p.first p.last ≡ true → InOrder day (ps ++ (p ∷ []))
order_push day [] p h e t =
    let parts = and_parts (leb p.first p.last) (leb (p.last + 1 - p.first) longest) t in
    (e, leb-true p.first p.last parts.0, leb-true (days p) longest parts.1, tt)
order_push day (q ∷ ps) p h e t = (h.0, h.1, h.2, order_push (q.last + 1) ps p h.3 e t)

order_unmetered : (o : Opening) (last : ℕ) (m : Method) (ps : List Period) → InOrder o.day ps → is_term (next_day o.day ps) last ≡ true → InOrder o.day (ps ++ (without_reading (next_day o.day ps) last m ps ∷ []))
unfolding without_reading
order_unmetered o last m ps h t =
    let p = blank (next_day o.day ps) last estimated in
    let q = blank (next_day o.day ps) last no_energy in
    cond_both (is_late ps) q (with_standing (laid m 0 0 p) p) (λ (x : Period). InOrder o.day (ps ++ (x ∷ [])))
    (λ e. order_push o.day ps q h refl t)
    (λ e. order_push o.day ps (with_standing (laid m 0 0 p) p) h refl t)

-- a correction leaves the days as they are
order_corrected : (f : Finding) (m : Method) (row V W day : ℕ) (ps : List Period) → InOrder day ps → InOrder day (corrected f m row V W ps)
unfolding corrected
order_corrected f m row V W day [] h = tt
order_corrected f m row V W day (p ∷ ps) h =
    cond_both (rewrites f row p) _ _ (InOrder day)
    (λ e. (h.0, h.1, h.2, order_corrected f m (suc row) (V + day_weight m p) (W + peak_weight m p) (p.last + 1) ps h.3))
    (λ e. (h.0, h.1, h.2, order_corrected f m (suc row) V W (p.last + 1) ps h.3))

pub in_order : (o : Opening) (calls : List Call) → Every (Passed o) calls → InOrder o.day (billed o calls)
unfolding billed asked
in_order o [] h = tt
in_order o (take now length ∷ before) h = in_order o before h.1
in_order o (hand_back hold ∷ before) h = in_order o before h.1
in_order o (bill hold last r ∷ before) h =
    let ps = billed o before in
    order_push o.day ps (metered (next_day o.day ps) last r) (in_order o before h.1) refl (answers o (bill hold last r) before h.0).1.1.1.0
in_order o (estimate hold last m ∷ before) h =
    order_unmetered o last m (billed o before) (in_order o before h.1) (answers o (estimate hold last m) before h.0).1.1.1.0
in_order o (correct hold f m ∷ before) h = order_corrected f m 0 0 0 o.day (billed o before) (in_order o before h.1)
in_order o (pay hold cents ∷ before) h = in_order o before h.1
