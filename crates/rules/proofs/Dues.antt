-- The amount due and the coming instalments. Assumes nothing.
use Rattle.std.proofs.Common.{◌≡◌, ℕ, zero, suc, ◌+◌, ◌-◌, ◌<◌, ◌≤◌, Bool, true, false, cond, ◌&&◌, ◌||◌, eqb, ltb, leb, List, [], ◌∷◌, ◌++◌, map, length, ℤ, pos, negsuc, ◌+ℤ◌, ◌-ℤ◌, nat_abs, sym, refl, ap, ◌∙◌, subst, ap₂, arith}
use lib.Signed.{lt_z}
use Rattle.std.proofs.lemmas.Bool.{cond_both, cond-true, cond-false, ltb-true, ltb-false, leb-true, leb-false, lt-ltb, le-ltb, eqb-true, and_parts, and_from, and_right, false≢true}
use Rattle.std.proofs.lemmas.Int.{ints}
use Rattle.std.proofs.lemmas.List.{length_push}
use Rattle.rules.specs.Subject.{Period, Tariff, Cause, absent, under, over, stopped, altered, Side, consumer, supplier, Finding, Call, take, hand_back, bill, estimate, correct, pay, Opening}
use Rattle.rules.specs.Sharing.{sum_of, brought, instalment}
use Rattle.rules.specs.Laid.{corrected}
use Rattle.rules.specs.Questions.{size, bills_of, bills, span_right, row_is, has_day, asked}
use Rattle.rules.specs.Given.{billed}
use Rattle.rules.specs.Shown.{row_of, Instalment, State}
use Rattle.rules.specs.Owed.{charged, Undercharge, undercharge, undercharges, not_yet_due, brings, bringing, instalments}
use Rattle.rules.specs.Journal.{cents_of}
use Rattle.rules.specs.Law.{Every}
use Rattle.rules.specs.Machine.{empty, first_cents, moved_up, spread, posts, bill_row, effect}
use Rattle.rules.proofs.Shares.{brought_none, brought_of_none, brought_more, brought_all, brought_late, brought_whole}
use Rattle.rules.proofs.Runs.{ran, rows_ran, Passed}
use Rattle.rules.proofs.Holds.{answers}
use Rattle.rules.proofs.Journal.{posts_changes, cents_changes}

due_next : (t : Tariff) (o : Opening) (b : ℕ) (calls : List Call) → not_yet_due t o b calls ≡ brings t o b calls + not_yet_due t o (suc b) calls
unfolding undercharges
due_next t o b [] = refl
due_next t o b (take now length ∷ before) = due_next t o b before
due_next t o b (hand_back hold ∷ before) = due_next t o b before
due_next t o b (bill hold last r ∷ before) = due_next t o (suc b) before
due_next t o b (estimate hold last m ∷ before) = due_next t o (suc b) before
due_next t o b (correct hold f m ∷ before) =
    let u = undercharge t o (correct hold f m) before in
    omega (arith, due_next t o b before, brought_more u (bills f) b, brought_all u (bills f) (suc b))
due_next t o b (pay hold cents ∷ before) = due_next t o b before

-- no undercharge is spread over more than twelve bills
pub bills_limit : (c : Cause) (s : Side) (f : Finding) (ps : List Period) → span_right c s f ps ≡ true → bills_of c (size f) ≤ 12
bills_limit absent s f ps h = omega arith
bills_limit under consumer f ps h = omega (arith, eqb-true (size f) 1 (and_parts (eqb (size f) 1) (row_is (has_day f.notice) ps f.first) h).0)
bills_limit under supplier f ps h = omega (arith, leb-true (size f) 3 (and_parts (leb (size f) 3) (row_is (has_day f.notice) ps f.first) h).0)
bills_limit over s f ps h = omega (arith, leb-true (size f) 12 (and_parts f.ascertained (leb (size f) 12) h).1)
bills_limit stopped s f ps h = omega (arith, leb-true (size f) 12 (and_parts (leb (size f) 12) (f.ascertained || row_is (has_day f.notice) ps f.first) h).0)
bills_limit altered s f ps h = omega arith

-- but over one at least
bills_some : (c : Cause) (rows : ℕ) → 1 ≤ rows → 1 ≤ bills_of c rows
bills_some absent rows h = omega arith
bills_some under rows h = h
bills_some over rows h = h
bills_some stopped rows h = h
bills_some altered rows h = omega arith

-- from the thirteenth bill on nothing more comes
none_late : (g : Undercharge → ℕ) → ((u : Undercharge) → 1 ≤ u.over → u.over ≤ u.since → g u ≡ 0) → (t : Tariff) (o : Opening) (b : ℕ) (calls : List Call) → Every (Passed o) calls → 12 ≤ b → sum_of g (undercharges t o b calls) ≡ 0
unfolding undercharges asked
none_late g z t o b [] h k = refl
none_late g z t o b (take now length ∷ before) h k = none_late g z t o b before h.1 k
none_late g z t o b (hand_back hold ∷ before) h k = none_late g z t o b before h.1 k
none_late g z t o b (bill hold last r ∷ before) h k = none_late g z t o (suc b) before h.1 (omega arith)
none_late g z t o b (estimate hold last m ∷ before) h k = none_late g z t o (suc b) before h.1 (omega arith)
none_late g z t o b (correct hold f m ∷ before) h k =
    let yes = answers o (correct hold f m) before h.0 in
    let few : bills f ≤ 12 = bills_limit f.cause f.side f (billed o before) yes.1.1.1.1.0 in
    let span : f.first ≤ f.last = leb-true f.first f.last (and_parts (leb f.first f.last) _ yes.1.1.0).0 in
    let some : 1 ≤ bills f = bills_some f.cause (size f) (omega arith) in
    let none = z (record { cents = undercharge t o (correct hold f m) before; over = bills f; since = b }) some (omega arith) in
    omega (arith, none, none_late g z t o b before h.1 k)
none_late g z t o b (pay hold cents ∷ before) h k = none_late g z t o b before h.1 k

brings_late : (t : Tariff) (o : Opening) (b : ℕ) (calls : List Call) → Every (Passed o) calls → 12 ≤ b → brings t o b calls ≡ 0
brings_late = none_late _ (λ u some h. omega (arith, brought_late u.cents u.over u.since h))

bringing_late : (t : Tariff) (o : Opening) (b : ℕ) (calls : List Call) → Every (Passed o) calls → 12 ≤ b → bringing t o b calls ≡ 0
bringing_late = none_late _ (λ u some h. cond-false {A = ℕ} _ 1 0 (and_right (ltb 0 u.cents) _ (le-ltb u.since u.over h)))

not_due_late : (t : Tariff) (o : Opening) (b : ℕ) (calls : List Call) → Every (Passed o) calls → 12 ≤ b → not_yet_due t o b calls ≡ 0
not_due_late = none_late _ (λ u some h. omega (arith, brought_whole u.cents u.over u.since some h))

-- what is not yet due comes with the next bills, or after them
comes_later : (t : Tariff) (o : Opening) (n b : ℕ) (calls : List Call) → not_yet_due t o b calls ≡ sum_of (λ i. i.cents) (instalments t o n b calls) + not_yet_due t o (b + n) calls
unfolding instalments
comes_later t o zero b calls = let e : b ≡ b + 0 = omega arith in omega (arith, ap (λ k. not_yet_due t o k calls) e)
comes_later t o (suc n) b calls =
    let e : suc b + n ≡ b + suc n = omega arith in
    omega (arith, due_next t o b calls, comes_later t o n (suc b) calls, ap (λ k. not_yet_due t o k calls) e)

pub comes_in_twelve : (t : Tariff) (o : Opening) (calls : List Call) → Every (Passed o) calls → not_yet_due t o 0 calls ≡ sum_of (λ i. i.cents) (instalments t o 12 0 calls)
comes_in_twelve t o calls h = omega (arith, comes_later t o 12 0 calls, not_due_late t o 12 calls h (omega arith))

abbrev placing : (cents count : ℕ) → Instalment
placing cents count = record { cents = cents; count = count }

-- the places of the coming instalments, from place b on
abbrev Placed : Tariff → Opening → List Call → (b : ℕ) → List Instalment → Type 0
Placed t o calls b [] = Unit
Placed t o calls b (i ∷ is) = (i.cents ≡ brings t o b calls) × (i.count ≡ bringing t o b calls) × Placed t o calls (suc b) is

pub placed_list : (t : Tariff) (o : Opening) (calls : List Call) (n b : ℕ) (is : List Instalment) → length is ≡ n → Placed t o calls b is → is ≡ instalments t o n b calls
unfolding instalments
placed_list t o calls zero b [] h p = refl
placed_list t o calls zero b (i ∷ is) h p = absurd (omega arith)
placed_list t o calls (suc n) b [] h p = absurd (omega arith)
placed_list t o calls (suc n) b (i ∷ is) h p =
    ap₂ (λ (x : Instalment) (xs : List Instalment). x ∷ xs) (ap₂ placing p.0 p.1) (placed_list t o calls n (suc b) is (omega arith) p.2)

-- the calls that bring nothing and spread nothing
placed_same : (t : Tariff) (o : Opening) (calls calls' : List Call) → ((b : ℕ) → brings t o b calls ≡ brings t o b calls') → ((b : ℕ) → bringing t o b calls ≡ bringing t o b calls') → (b : ℕ) (is : List Instalment) → Placed t o calls b is → Placed t o calls' b is
placed_same t o calls calls' e k b [] h = tt
placed_same t o calls calls' e k b (i ∷ is) h = (h.0 ∙ e b, h.1 ∙ k b, placed_same t o calls calls' e k (suc b) is h.2)

-- the others move up, and the last becomes empty
placed_up : (t : Tariff) (o : Opening) (calls calls' : List Call) → ((b : ℕ) → brings t o (suc b) calls ≡ brings t o b calls') → ((b : ℕ) → bringing t o (suc b) calls ≡ bringing t o b calls') → (b : ℕ) (is : List Instalment) → brings t o (suc b + length is) calls ≡ 0 → bringing t o (suc b + length is) calls ≡ 0 → Placed t o calls (suc b) is → Placed t o calls' b (is ++ (empty ∷ []))
placed_up t o calls calls' e k b [] last last' h =
    let here : suc b ≡ suc b + 0 = omega arith in
    (sym (sym (e b) ∙ ap (λ n. brings t o n calls) here ∙ last), sym (sym (k b) ∙ ap (λ n. bringing t o n calls) here ∙ last'), tt)
placed_up t o calls calls' e k b (i ∷ is) last last' h =
    let next : suc (suc b) + length is ≡ suc b + suc (length is) = omega arith in
    (h.0 ∙ e b, h.1 ∙ k b, placed_up t o calls calls' e k (suc b) is (ap (λ n. brings t o n calls) next ∙ last) (ap (λ n. bringing t o n calls) next ∙ last') h.2)

-- an undercharge is spread
spread_one : (u n b : ℕ) (i : Instalment) (old : ℕ) → i.cents ≡ old → (cond {A = Instalment} (leb (suc b) n) (record { cents = i.cents + instalment u n (suc b); count = i.count + 1 }) i).cents ≡ (brought u n (suc b) - brought u n b) + old
spread_one u n b i old e =
    cond_both (leb (suc b) n) (record { cents = i.cents + instalment u n (suc b); count = i.count + 1 }) i (λ x. x.cents ≡ (brought u n (suc b) - brought u n b) + old)
    (λ h. let k : suc b - 1 ≡ b = omega arith in omega (arith, ap (brought u n) k))
    (λ h. let late : n ≤ b = omega (arith, leb-false (suc b) n h) in omega (arith, brought_late u n b late))

-- its count
counted_one : (u n b : ℕ) (i : Instalment) (old : ℕ) → 0 < u → i.count ≡ old → (cond {A = Instalment} (leb (suc b) n) (record { cents = i.cents + instalment u n (suc b); count = i.count + 1 }) i).count ≡ cond (ltb 0 u && ltb b n) 1 0 + old
counted_one u n b i old h e =
    cond_both (leb (suc b) n) (record { cents = i.cents + instalment u n (suc b); count = i.count + 1 }) i (λ x. x.count ≡ cond (ltb 0 u && ltb b n) 1 0 + old)
    (λ k. omega (arith, cond-true {A = ℕ} (ltb 0 u && ltb b n) 1 0 (and_from (ltb 0 u) _ (lt-ltb 0 u h) k)))
    (λ k. omega (arith, cond-false {A = ℕ} (ltb 0 u && ltb b n) 1 0 (and_right (ltb 0 u) _ k)))

placed_spread : (t : Tariff) (o : Opening) (calls calls' : List Call) (u n : ℕ) → 0 < u → ((b : ℕ) → (brought u n (suc b) - brought u n b) + brings t o b calls ≡ brings t o b calls') → ((b : ℕ) → cond (ltb 0 u && ltb b n) 1 0 + bringing t o b calls ≡ bringing t o b calls') → (b : ℕ) (is : List Instalment) → Placed t o calls b is → Placed t o calls' b (spread u n (suc b) is)
unfolding spread
placed_spread t o calls calls' u n above e k b [] h = tt
placed_spread t o calls calls' u n above e k b (i ∷ is) h =
    (spread_one u n b i (brings t o b calls) h.0 ∙ e b, counted_one u n b i (bringing t o b calls) above h.1 ∙ k b, placed_spread t o calls calls' u n above e k (suc b) is h.2)

length-spread : (u n j : ℕ) (is : List Instalment) → length (spread u n j is) ≡ length is
unfolding spread
length-spread u n j [] = refl
length-spread u n j (i ∷ is) = ap suc (length-spread u n (suc j) is)

-- the lines' sum against the undercharge
sum_over : (x : ℤ) (old new : ℕ) → x +ℤ pos old ≡ pos new → lt_z (pos 0) x ≡ true → (nat_abs x ≡ new - old) × (old ≤ new) × (0 < new - old)
sum_over (pos n) old new e h = (omega (arith, ints), omega (arith, ints), omega (arith, ints, ltb-true 0 n h))
sum_over (negsuc n) old new e h = absurd (false≢true h)

sum_under : (x : ℤ) (old new : ℕ) → x +ℤ pos old ≡ pos new → lt_z (pos 0) x ≡ false → new - old ≡ 0
sum_under (pos n) old new e h = omega (arith, ints, ltb-false 0 n h)
sum_under (negsuc n) old new e h = omega (arith, ints)

-- what is kept of the amount due
pub record Kept (t : Tariff) (o : Opening) (calls : List Call) (s : State) : Type 0 where
  pub due : s.due ≡ s.balance -ℤ pos (not_yet_due t o 0 calls)
  pub twelve : length s.coming ≡ 12
  pub placed : Placed t o calls 0 s.coming

-- a bill or an estimate
moved : (t : Tariff) (o : Opening) (calls calls' : List Call) → ((b : ℕ) → brings t o (suc b) calls ≡ brings t o b calls') → ((b : ℕ) → bringing t o (suc b) calls ≡ bringing t o b calls') → brings t o 12 calls ≡ 0 → bringing t o 12 calls ≡ 0 → (is : List Instalment) → length is ≡ 12 → Placed t o calls 0 is → (first_cents is ≡ brings t o 0 calls) × (length (moved_up is) ≡ 12) × Placed t o calls' 0 (moved_up is)
moved t o calls calls' e k last last' [] n h = absurd (omega arith)
moved t o calls calls' e k last last' (i ∷ is) n h =
    let end : 1 + length is ≡ 12 = omega arith in
    (h.0, length_push is empty ∙ omega arith, placed_up t o calls calls' e k 0 is (ap (λ j. brings t o j calls) end ∙ last) (ap (λ j. bringing t o j calls) end ∙ last') h.2)

kept_bill : (t : Tariff) (o : Opening) (calls calls' : List Call) (s : State) (hold : ℕ) (p : Period) → ((b : ℕ) → brings t o (suc b) calls ≡ brings t o b calls') → ((b : ℕ) → bringing t o (suc b) calls ≡ bringing t o b calls') → not_yet_due t o 1 calls ≡ not_yet_due t o 0 calls' → brings t o 12 calls ≡ 0 → bringing t o 12 calls ≡ 0 → Kept t o calls s → Kept t o calls' (bill_row t s hold p)
kept_bill t o calls calls' s hold p e n d last last' k =
    let up = moved t o calls calls' e n last last' s.coming k.twelve k.placed in
    record { due = omega (arith, ints, due_next t o 0 calls, up.0, k.due); twelve = up.1; placed = up.2 }

-- a correction
due_correct : (b : Bool) (x due balance : ℤ) (old new n later later' : ℕ) → x +ℤ pos old ≡ pos new → lt_z (pos 0) x ≡ b → later' ≡ ((new - old) - brought (new - old) n 0) + later → due ≡ balance -ℤ pos later → cond b due (due +ℤ x) ≡ (balance +ℤ x) -ℤ pos later'
due_correct true x due balance old new n later later' e h l d = omega (arith, ints, (sum_over x old new e h).1, brought_none (new - old) n)
due_correct false x due balance old new n later later' e h l d = omega (arith, ints, sum_under x old new e h)

twelve_correct : (b : Bool) (u n : ℕ) (is : List Instalment) → length is ≡ 12 → length (cond b (spread u n 1 is) is) ≡ 12
twelve_correct true u n is h = length-spread u n 1 is ∙ h
twelve_correct false u n is h = h

placed_correct : (t : Tariff) (o : Opening) (calls calls' : List Call) (b : Bool) (x : ℤ) (old new n : ℕ) → x +ℤ pos old ≡ pos new → lt_z (pos 0) x ≡ b → ((k : ℕ) → brings t o k calls' ≡ (brought (new - old) n (suc k) - brought (new - old) n k) + brings t o k calls) → ((k : ℕ) → bringing t o k calls' ≡ cond (ltb 0 (new - old) && ltb k n) 1 0 + bringing t o k calls) → (is : List Instalment) → Placed t o calls 0 is → Placed t o calls' 0 (cond b (spread (nat_abs x) n 1 is) is)
placed_correct t o calls calls' true x old new n e h g c is k =
    let u = sum_over x old new e h in
    subst (λ v. Placed t o calls' 0 (spread v n 1 is)) (sym u.0) (placed_spread t o calls calls' (new - old) n u.2 (λ b. sym (g b)) (λ b. sym (c b)) 0 is k)
placed_correct t o calls calls' false x old new n e h g c is k =
    let u : new - old ≡ 0 = sum_under x old new e h in
    placed_same t o calls calls'
    (λ b. sym (g b ∙ ap (λ v. (brought v n (suc b) - brought v n b) + brings t o b calls) u ∙ omega (arith, brought_of_none n (suc b))))
    (λ b. sym (c b ∙ ap (λ v. cond (ltb 0 v && ltb b n) 1 0 + bringing t o b calls) u ∙ omega arith)) 0 is k

kept_step : (t : Tariff) (o : Opening) (c : Call) (before : List Call) (s : State) → Every (Passed o) before → s.rows ≡ map (row_of t) (billed o before) → Kept t o before s → Kept t o (c ∷ before) (effect t o s c)
unfolding effect undercharges billed
kept_step t o (take now length) before s h rs k = record { due = k.due; twelve = k.twelve; placed = placed_same t o before (take now length ∷ before) (λ b. refl) (λ b. refl) 0 s.coming k.placed }
kept_step t o (hand_back hold) before s h rs k = record { due = k.due; twelve = k.twelve; placed = placed_same t o before (hand_back hold ∷ before) (λ b. refl) (λ b. refl) 0 s.coming k.placed }
kept_step t o (bill hold last r) before s h rs k = kept_bill t o before (bill hold last r ∷ before) s hold _ (λ b. refl) (λ b. refl) refl (brings_late t o 12 before h (omega arith)) (bringing_late t o 12 before h (omega arith)) k
kept_step t o (estimate hold last m) before s h rs k = kept_bill t o before (estimate hold last m ∷ before) s hold _ (λ b. refl) (λ b. refl) refl (brings_late t o 12 before h (omega arith)) (bringing_late t o 12 before h (omega arith)) k
kept_step t o (correct hold f m) before s h rs k =
    let ps = billed o before in
    let calls = correct hold f m ∷ before in
    let x = cents_of (posts t f m hold 0 0 0 s.rows) in
    let old = charged t ps in
    let new = charged t (corrected f m 0 0 0 ps) in
    let e : x +ℤ pos old ≡ pos new =
    ap (λ rs. cents_of (posts t f m hold 0 0 0 rs) +ℤ pos old) rs
    ∙ ap (λ ls. cents_of ls +ℤ pos old) (posts_changes t f m hold 0 0 0 ps)
    ∙ cents_changes t f m hold 0 0 0 ps in
    record {
      due = due_correct (lt_z (pos 0) x) x s.due s.balance old new (bills f) (not_yet_due t o 0 before) (not_yet_due t o 0 calls) e refl refl k.due;
      twelve = twelve_correct (lt_z (pos 0) x) (nat_abs x) (bills f) s.coming k.twelve;
      placed = placed_correct t o before calls (lt_z (pos 0) x) x old new (bills f) e refl (λ b. refl) (λ b. refl) s.coming k.placed;
    }
kept_step t o (pay hold cents) before s h rs k = record { due = omega (arith, ints, k.due); twelve = k.twelve; placed = placed_same t o before (pay hold cents ∷ before) (λ b. refl) (λ b. refl) 0 s.coming k.placed }

pub kept_ran : (t : Tariff) (o : Opening) (calls : List Call) → Every (Passed o) calls → Kept t o calls (ran t o calls)
unfolding ran undercharges
kept_ran t o [] h = record { due = refl; twelve = refl; placed = (refl, refl, (refl, refl, (refl, refl, (refl, refl, (refl, refl, (refl, refl, (refl, refl, (refl, refl, (refl, refl, (refl, refl, (refl, refl, (refl, refl, tt)))))))))))) }
kept_ran t o (c ∷ before) h = kept_step t o c before (ran t o before) h.1 (rows_ran t o before) (kept_ran t o before h.1)
