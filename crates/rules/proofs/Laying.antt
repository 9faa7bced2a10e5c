-- What each call lays down. Assumes nothing.
use Rattle.std.proofs.Common.{◌≡◌, ℕ, zero, suc, ◌+◌, ◌-◌, ◌<◌, ◌≤◌, Bool, true, false, cond, not, ◌&&◌, ◌||◌, eqb, leb, List, [], ◌∷◌, ◌++◌, map, length, take as leading, drop, slice_get, inl, inr, sym, refl, ap, ◌∙◌, ap₂, subst, arith}
use Rattle.std.specs.Prelude.{filter}
use Rattle.std.proofs.lemmas.Bool.{cond_both, cond-true, cond-false, leb-true, leb-false, le-leb, lt-leb, eqb-false, and_from, and_left, and_right, cases_lt, cases_Bool}
use Rattle.std.proofs.lemmas.List.{length-map, length_push}
use Rattle.rules.specs.Subject.{Register, day_units, peak_units, units, Sort, estimated, no_energy, Period, days, is_estimated, Cause, absent, under, over, stopped, altered, Finding, Method, weight_of, day_weight, peak_weight, Call, take, hand_back, bill, estimate, correct, pay, Opening}
use Rattle.rules.specs.Sharing.{share, shares, Shared}
use Rattle.rules.specs.Laid.{next_day, run_on, run_past, run, laid, with_standing, blank, is_late, without_reading, in_span, rewrites_sort, rewrites, rewritten, corrected}
use Rattle.rules.specs.Questions.{is_absent, row_is}
use Rattle.rules.specs.Given.{billed}
use Rattle.rules.specs.Law.{Every}
use Rattle.rules.specs.Laying.{estimates_since_bill, Unmetered, laid_anew, without_standing, ByMethod, CorrectedBy, Lays, lays_for, StandsAsLaid}
use Rattle.rules.proofs.Shares.{sharing_rule}

taken_none : (n : ℕ) → ◌≡◌ {A = List Period} (leading n []) []
taken_none zero = refl
taken_none (suc n) = refl

module _ (f : Finding) (m : Method) where
  -- of the rows rewritten, something that the head's row gives and the rest gives
  abbrev Told : {X : Type 0} → (Period → X) → (V W row : ℕ) → List Period → List X → Type 0
  Told g V W row ps xs = map g (rewritten f row (corrected f m row V W ps)) ≡ xs

  told_more : {X : Type 0} (g : Period → X) (row V W : ℕ) (p : Period) (ps : List Period) (hits misses : List X) →
      (rewrites f row p ≡ true → Told g (V + day_weight m p) (W + peak_weight m p) (suc row) ps hits) →
      (rewrites f row p ≡ false → Told g V W (suc row) ps misses) →
      Told g V W row (p ∷ ps) (cond (rewrites f row p) (g (with_standing (laid m V W p) p) ∷ hits) misses)
  unfolding rewritten corrected
  told_more g row V W p ps hits misses y n =
      let b = rewrites f row p in
      let q = with_standing (laid m V W p) p in
      let more = corrected f m (suc row) (V + day_weight m p) (W + peak_weight m p) ps in
      let less = corrected f m (suc row) V W ps in
      cond_both b (q ∷ more) (p ∷ less) (λ new. map g (rewritten f row new) ≡ cond b (g q ∷ hits) misses)
      (λ e. ap (map g) (cond-true b (q ∷ rewritten f (suc row) more) (rewritten f (suc row) more) e) ∙ ap (λ xs. g q ∷ xs) (y e) ∙ sym (cond-true b (g q ∷ hits) misses e))
      (λ e. ap (map g) (cond-false b (p ∷ rewritten f (suc row) less) (rewritten f (suc row) less) e) ∙ n e ∙ sym (cond-false b (g q ∷ hits) misses e))

  -- a function of the rows rewritten before
  of_rewritten : {X : Type 0} (h : List Period → List X) (row : ℕ) (p : Period) (ps : List Period) →
      cond (rewrites f row p) (h (p ∷ rewritten f (suc row) ps)) (h (rewritten f (suc row) ps)) ≡ h (rewritten f row (p ∷ ps))
  unfolding rewritten
  of_rewritten h row p ps =
      let b = rewrites f row p in
      let r = rewritten f (suc row) ps in
      cond_both b (p ∷ r) r (λ rs. cond b (h (p ∷ r)) (h r) ≡ h rs) (λ e. cond-true b (h (p ∷ r)) (h r) e) (λ e. cond-false b (h (p ∷ r)) (h r) e)

  -- of one of the two registers: the weights before, and the share
  abbrev before_of : Register → (V W : ℕ) → ℕ
  before_of day_units V W = V
  before_of peak_units V W = W

  share_laid : (k : Register) (V W : ℕ) (p : Period) → units k (laid m V W p) ≡ share (m.upper k) m.lower (before_of k V W) (weight_of m k p)
  share_laid day_units V W p = refl
  share_laid peak_units V W p = refl

  weight_more : (k : Register) (V W : ℕ) (p : Period) → before_of k (V + day_weight m p) (W + peak_weight m p) ≡ before_of k V W + weight_of m k p
  weight_more day_units V W p = refl
  weight_more peak_units V W p = refl

  units_laid : (k : Register) (row V W : ℕ) (ps : List Period) →
      Told (λ p. units k p.standing) V W row ps (shares (m.upper k) m.lower (before_of k V W) (map (weight_of m k) (rewritten f row ps)))
  unfolding rewritten corrected
  units_laid k row V W [] = refl
  units_laid k row V W (p ∷ ps) =
      let gives : ℕ → List Period → List ℕ = λ v rs. shares (m.upper k) m.lower v (map (weight_of m k) rs) in
      let rest = rewritten f (suc row) ps in
      told_more (λ p. units k p.standing) row V W p ps _ _
      (λ e. units_laid k (suc row) (V + day_weight m p) (W + peak_weight m p) ps ∙ ap (λ v. gives v rest) (weight_more k V W p))
      (λ e. units_laid k (suc row) V W ps)
      ∙ ap (λ s. cond (rewrites f row p) (s ∷ gives (before_of k V W + weight_of m k p) rest) (gives (before_of k V W) rest)) (share_laid k V W p)
      ∙ of_rewritten (gives (before_of k V W)) row p ps

  demand_laid : (row V W : ℕ) (ps : List Period) → Told (λ p. p.standing.demand) V W row ps (map (λ p. m.demand (days p) p.recorded) (rewritten f row ps))
  unfolding rewritten corrected
  demand_laid row V W [] = refl
  demand_laid row V W (p ∷ ps) =
      told_more (λ p. p.standing.demand) row V W p ps _ _ (λ e. demand_laid (suc row) (V + day_weight m p) (W + peak_weight m p) ps) (λ e. demand_laid (suc row) V W ps)
      ∙ of_rewritten (map (λ p. m.demand (days p) p.recorded)) row p ps

  all_kept : (row V W : ℕ) (ps : List Period) → map without_standing (corrected f m row V W ps) ≡ map without_standing ps
  unfolding corrected
  all_kept row V W [] = refl
  all_kept row V W (p ∷ ps) =
      cond_both (rewrites f row p) _ _ (λ new. map without_standing new ≡ without_standing p ∷ map without_standing ps)
      (λ e. ap (λ qs. without_standing p ∷ qs) (all_kept (suc row) (V + day_weight m p) (W + peak_weight m p) ps))
      (λ e. ap (λ qs. without_standing p ∷ qs) (all_kept (suc row) V W ps))

  -- which sorts are rewritten
  sorts_said : (c : Cause) (s : Sort) → rewrites_sort c s ≡ (not (is_absent c) || is_estimated s)
  sorts_said absent s = refl
  sorts_said under s = refl
  sorts_said over s = refl
  sorts_said stopped s = refl
  sorts_said altered s = refl

  abbrev anew : Period → Bool
  anew p = not (is_absent f.cause) || is_estimated p.sort

  rewritten_past : (row : ℕ) (ps : List Period) → f.last < row → rewritten f row ps ≡ []
  unfolding rewritten
  rewritten_past row [] h = refl
  rewritten_past row (p ∷ ps) h =
      cond-false (rewrites f row p) _ _ (and_left _ _ (and_right _ _ (lt-leb row f.last h))) ∙ rewritten_past (suc row) ps (omega (arith, h))

  rewritten_within : (n row : ℕ) (ps : List Period) → f.first ≤ row → n ≡ f.last + 1 - row → rewritten f row ps ≡ filter anew (leading n ps)
  unfolding rewritten
  rewritten_within zero row ps h e = rewritten_past row ps (omega (arith, e))
  rewritten_within (suc n) row [] h e = refl
  rewritten_within (suc n) row (p ∷ ps) h e =
      let spanned : in_span f row ≡ true = and_from _ _ (le-leb f.first row h) (le-leb row f.last (omega (arith, e))) in
      ap₂ (λ a b. cond (a && b) (p ∷ rewritten f (suc row) ps) (rewritten f (suc row) ps)) spanned (sorts_said f.cause p.sort)
      ∙ ap (λ xs. cond (anew p) (p ∷ xs) xs) (rewritten_within n (suc row) ps (omega (arith, h)) (omega (arith, e)))

  rewritten_from : (k row : ℕ) (ps : List Period) → row + k ≡ f.first → rewritten f row ps ≡ filter anew (leading (f.last + 1 - f.first) (drop k ps))
  unfolding rewritten
  rewritten_from zero row ps e = rewritten_within (f.last + 1 - f.first) row ps (omega (arith, e)) (omega (arith, e))
  rewritten_from (suc k) row [] e = sym (ap (filter anew) (taken_none (f.last + 1 - f.first)))
  rewritten_from (suc k) row (p ∷ ps) e =
      cond-false (rewrites f row p) _ _ (and_left _ _ (and_left _ _ (lt-leb f.first row (omega (arith, e))))) ∙ rewritten_from k (suc row) ps (omega (arith, e))

  pub rewritten_anew : (ps : List Period) → rewritten f 0 ps ≡ laid_anew f ps
  rewritten_anew ps = rewritten_from f.first 0 ps (omega arith)

  -- a row that is not one of them stays as it is
  untouched_at : (base V W row i : ℕ) (ps : List Period) → base + i ≡ row →
      ((leb f.first row && leb row f.last) && (not (is_absent f.cause) || row_is (λ p. is_estimated p.sort) ps i)) ≡ false →
      slice_get (corrected f m base V W ps) i ≡ slice_get ps i
  unfolding corrected
  untouched_at base V W row i [] e h = refl
  untouched_at base V W row zero (p ∷ ps) e h =
      let at : row ≡ base = omega (arith, e) in
      let out : rewrites f base p ≡ false = ap (λ b. in_span f base && b) (sorts_said f.cause p.sort) ∙ subst (λ n. ((leb f.first n && leb n f.last) && anew p) ≡ false) at h in
      ap (λ qs. slice_get qs 0) (cond-false (rewrites f base p) _ _ out)
  untouched_at base V W row (suc i) (p ∷ ps) e h =
      cond_both (rewrites f base p) _ _ (λ new. slice_get new (suc i) ≡ slice_get ps i)
      (λ y. untouched_at (suc base) (V + day_weight m p) (W + peak_weight m p) row i ps (omega (arith, e)) h)
      (λ n. untouched_at (suc base) V W row i ps (omega (arith, e)) h)

  none_before : (k : Register) → before_of k 0 0 ≡ 0
  none_before day_units = refl
  none_before peak_units = refl

  units_anew : (k : Register) (ps : List Period) → shares (m.upper k) m.lower 0 (map (weight_of m k) (laid_anew f ps)) ≡ map (λ p. units k p.standing) (laid_anew f (corrected f m 0 0 0 ps))
  units_anew k ps =
      sym (
      ap (map (λ p. units k p.standing)) (sym (rewritten_anew (corrected f m 0 0 0 ps)))
      ∙ units_laid k 0 0 0 ps
      ∙ ap₂ (λ v rs. shares (m.upper k) m.lower v (map (weight_of m k) rs)) (none_before k) (rewritten_anew ps))

  pub corrected_lays : (ps : List Period) → CorrectedBy f m ps (corrected f m 0 0 0 ps)
  corrected_lays ps =
      record {
        anew = record {
          shared = λ k.
              let weights = map (weight_of m k) (laid_anew f ps) in
              subst (Shared (m.upper k) m.lower weights) (units_anew k ps) (sharing_rule (m.upper k) m.lower weights m.lower_least);
          demands =
              ap (map (λ p. p.standing.demand)) (sym (rewritten_anew (corrected f m 0 0 0 ps)))
              ∙ demand_laid 0 0 0 ps
              ∙ ap (map (λ p. m.demand (days p) p.recorded)) (rewritten_anew ps);
        };
        kept = all_kept 0 0 0 ps;
        others = λ row h. untouched_at 0 0 0 row row ps (omega arith) h;
      }

share_alone : (m : Method) (k : Register) (p : Period) → shares (m.upper k) m.lower 0 (weight_of m k p ∷ []) ≡ units k (laid m 0 0 p) ∷ []
share_alone m day_units p = refl
share_alone m peak_units p = refl

-- an estimated period has its method's share alone
alone : (first last : ℕ) (m : Method) → let p = blank first last estimated in let q = with_standing (laid m 0 0 p) p in ByMethod m (q ∷ []) (q ∷ [])
alone first last m =
    let p = blank first last estimated in
    record {
      shared = λ k. subst (Shared (m.upper k) m.lower (weight_of m k p ∷ [])) (share_alone m k p) (sharing_rule (m.upper k) m.lower (weight_of m k p ∷ []) m.lower_least);
      demands = refl;
    }

run_push : (n : ℕ) (ps : List Period) (p : Period) → run_past n (ps ++ (p ∷ [])) ≡ run_on (run_past n ps) p
run_push n [] p = refl
run_push n (q ∷ ps) p = run_push (run_on n q) ps p

run_without_reading : (first last : ℕ) (m : Method) (ps : List Period) (n : ℕ) → run_on n (without_reading first last m ps) ≡ n + 1
unfolding without_reading
run_without_reading first last m ps n =
    let p = blank first last estimated in
    cond_both (is_late ps) (blank first last no_energy) (with_standing (laid m 0 0 p) p) (λ q. run_on n q ≡ n + 1) (λ e. refl) (λ e. refl)

-- a run rests on sorts alone
run_kept : (n : ℕ) (ps : List Period) → run_past n (map without_standing ps) ≡ run_past n ps
run_kept n [] = refl
run_kept n (p ∷ ps) = run_kept (run_on n p) ps

run_corrected : (f : Finding) (m : Method) (ps : List Period) → run (corrected f m 0 0 0 ps) ≡ run ps
run_corrected f m ps = sym (run_kept 0 (corrected f m 0 0 0 ps)) ∙ ap (run_past 0) (all_kept f m 0 0 0 ps) ∙ run_kept 0 ps

-- the run at the end of the periods is the estimates since the last bill
run_counted : (o : Opening) (calls : List Call) → run (billed o calls) ≡ estimates_since_bill calls
unfolding billed
run_counted o [] = refl
run_counted o (take now length ∷ before) = run_counted o before
run_counted o (hand_back hold ∷ before) = run_counted o before
run_counted o (bill hold last r ∷ before) = run_push 0 (billed o before) _
run_counted o (estimate hold last m ∷ before) =
    run_push 0 (billed o before) _ ∙ run_without_reading _ last m (billed o before) (run (billed o before)) ∙ ap (λ n. n + 1) (run_counted o before)
run_counted o (correct hold f m ∷ before) = run_corrected f m (billed o before) ∙ run_counted o before
run_counted o (pay hold cents ∷ before) = run_counted o before

unmetered_last : (first until n : ℕ) (m : Method) (ps : List Period) → run ps ≡ n → Unmetered first until n m ps (ps ++ (without_reading first until m ps ∷ []))
unfolding without_reading
unmetered_last first until n m ps e =
    let p = blank first until estimated in
    cond_both (is_late ps) (blank first until no_energy) (with_standing (laid m 0 0 p) p) (λ q. Unmetered first until n m ps (ps ++ (q ∷ [])))
    (λ late. record {
      period = blank first until no_energy;
      added = refl;
      begins = refl;
      ends = refl;
      recorded = refl;
      six = λ few. absurd (omega (arith, few, e, leb-true 6 (run ps) late));
      seventh = λ many. (refl, refl);
    })
    (λ soon. record {
      period = with_standing (laid m 0 0 p) p;
      added = refl;
      begins = refl;
      ends = refl;
      recorded = refl;
      six = λ few. (refl, alone first until m);
      seventh = λ many. absurd (omega (arith, many, e, leb-false 6 (run ps) soon));
    })

pub lays_down : (o : Opening) (c : Call) (before : List Call) → Lays o c before
unfolding billed
lays_down o (take now length) before = refl
lays_down o (hand_back hold) before = refl
lays_down o (bill hold last r) before = refl
lays_down o (estimate hold last m) before = unmetered_last (next_day o.day (billed o before)) last _ m (billed o before) (run_counted o before)
lays_down o (correct hold f m) before = corrected_lays f m (billed o before)
lays_down o (pay hold cents) before = refl

pub all_lay : (o : Opening) (calls : List Call) → Every (Lays o) calls
all_lay o [] = tt
all_lay o (c ∷ before) = (lays_down o c before, all_lay o before)

-- a row that is added changes no other
push_at : (ps : List Period) (q : Period) (row : ℕ) → (row ≡ length ps → ⊥) → slice_get (ps ++ (q ∷ [])) row ≡ slice_get ps row
push_at [] q zero h = absurd (h refl)
push_at [] q (suc row) h = refl
push_at (p ∷ ps) q zero h = refl
push_at (p ∷ ps) q (suc row) h = push_at ps q row (λ e. h (ap suc e))

pub length-corrected : (f : Finding) (m : Method) (ps : List Period) → length (corrected f m 0 0 0 ps) ≡ length ps
length-corrected f m ps =
    sym (length-map (corrected f m 0 0 0 ps) without_standing) ∙ ap length (all_kept f m 0 0 0 ps) ∙ length-map ps without_standing

fewer : (row : ℕ) (ps : List Period) (q : Period) → row < length (ps ++ (q ∷ [])) → eqb row (length ps) ≡ false → row < length ps
fewer row ps q h e = let long = length_push ps q in let other = eqb-false row (length ps) e in elim (cases_lt row (length ps)) [ inl y ↦ y | inr y ↦ absurd (other (omega (arith, h, long, y))) ]

-- where a call lays none down for a row, the row was there before it and is as it was
left_as : (o : Opening) (c : Call) (before : List Call) (row : ℕ) → row < length (billed o (c ∷ before)) → lays_for o c before row ≡ false →
    (row < length (billed o before)) × (slice_get (billed o (c ∷ before)) row ≡ slice_get (billed o before) row)
unfolding billed
left_as o (take now length) before row h e = (h, refl)
left_as o (hand_back hold) before row h e = (h, refl)
left_as o (bill hold last r) before row h e = (fewer row (billed o before) _ h e, push_at (billed o before) _ row (eqb-false row _ e))
left_as o (estimate hold last m) before row h e = (fewer row (billed o before) _ h e, push_at (billed o before) _ row (eqb-false row _ e))
left_as o (correct hold f m) before row h e =
    (subst (λ n. row < n) (length-corrected f m (billed o before)) h, untouched_at f m 0 0 0 row row (billed o before) (omega arith) e)
left_as o (pay hold cents) before row h e = (h, refl)

pub stand_all : (o : Opening) (calls : List Call) (row : ℕ) → row < length (billed o calls) → StandsAsLaid o calls row
unfolding billed
stand_all o [] row h = absurd (omega (arith, h))
stand_all o (c ∷ before) row h =
    elim (cases_Bool (lays_for o c before row)) [
      | inl e ↦ record { later = []; call = c; before = before; split = refl; lays = e; since = tt; stands = refl }
      | inr e ↦
          let left = left_as o c before row h e in
          let s = stand_all o before row left.0 in
          record {
            later = c ∷ s.later;
            call = s.call;
            before = s.before;
            split = ap (λ cs. c ∷ cs) s.split;
            lays = s.lays;
            since = (subst (λ cs. lays_for o c cs row ≡ false) s.split e, s.since);
            stands = left.1 ∙ s.stands;
          }
    ]
