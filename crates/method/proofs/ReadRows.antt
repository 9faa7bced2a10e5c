-- The rows that accepted calls give keep the limits of a read row, so their sorts tell which were read. Assumes nothing.
use Rattle.std.proofs.Common.{◌≡◌, ℕ, zero, suc, ◌+◌, true, ◌&&◌, eqb, List, [], ◌∷◌, ◌++◌, length, take, drop, refl, ap, ap₂}
use Rattle.std.proofs.lemmas.Bool.{cond_both, and_parts, and_from}
use Rattle.rules.specs.Subject.{Registers, estimated, no_energy, Period, is_read, Finding, Method, day_weight, peak_weight, Call, take as taken, hand_back, bill, estimate, correct, pay, Opening}
use Rattle.rules.specs.Laid.{next_day, is_late, laid, with_standing, blank, metered, without_reading, rewrites, corrected}
use Rattle.rules.specs.Questions.{is_day, is_reading, is_term, every, asked}
use Rattle.rules.specs.Given.{accepted, billed}
use Rattle.rules.specs.Law.{Every}
use Rattle.rules.proofs.Journal.{Each}
use Rattle.rules.proofs.Runs.{Passed, accepted_passed}
use Rattle.rules.proofs.Holds.{answers}
use Rattle.method.specs.Three.{three_from, is_read_row, all_read}
use Rattle.method.specs.ReadRows.{SortsTellWhatWasRead}

-- whether it was read is its sort alone
abbrev BySort : Period → Type 0
BySort p = is_read_row p ≡ is_read p.sort

by_sort_metered : (first last : ℕ) (r : Registers) → is_reading r ≡ true → is_term first last ≡ true → BySort (metered first last r)
by_sort_metered first last r reading term = and_from (true && is_reading r) (is_term first last) reading term

by_sort_unmetered : (first last : ℕ) (m : Method) (ps : List Period) → BySort (without_reading first last m ps)
unfolding without_reading
by_sort_unmetered first last m ps =
    let p = blank first last estimated in
    cond_both (is_late ps) (blank first last no_energy) (with_standing (laid m 0 0 p) p) BySort (λ e. refl) (λ e. refl)

each_push : (ps : List Period) (q : Period) → Each BySort ps → BySort q → Each BySort (ps ++ (q ∷ []))
each_push [] q all h = (h, tt)
each_push (p ∷ ps) q all h = (all.0, each_push ps q all.1 h)

-- a correction keeps the sort, the recorded registers and the days of every row
each_corrected : (f : Finding) (m : Method) (row V W : ℕ) (ps : List Period) → Each BySort ps → Each BySort (corrected f m row V W ps)
unfolding corrected
each_corrected f m row V W [] all = tt
each_corrected f m row V W (p ∷ ps) all =
    let V' = V + day_weight m p in
    let W' = W + peak_weight m p in
    cond_both (rewrites f row p) (with_standing (laid m V W p) p ∷ corrected f m (suc row) V' W' ps) (p ∷ corrected f m (suc row) V W ps) (Each BySort)
    (λ e. (all.0, each_corrected f m (suc row) V' W' ps all.1))
    (λ e. (all.0, each_corrected f m (suc row) V W ps all.1))

each_billed : (o : Opening) (calls : List Call) → Every (Passed o) calls → Each BySort (billed o calls)
unfolding billed asked
each_billed o [] h = tt
each_billed o (taken now span ∷ before) h = each_billed o before h.1
each_billed o (hand_back hold ∷ before) h = each_billed o before h.1
each_billed o (bill hold last r ∷ before) h =
    let yes = answers o (bill hold last r) before h.0 in
    each_push (billed o before) _ (each_billed o before h.1)
    (by_sort_metered (next_day o.day (billed o before)) last r (and_parts (is_day last) (is_reading r) yes.1.0).1 yes.1.1.1.0)
each_billed o (estimate hold last m ∷ before) h =
    each_push (billed o before) _ (each_billed o before h.1) (by_sort_unmetered (next_day o.day (billed o before)) last m (billed o before))
each_billed o (correct hold f m ∷ before) h = each_corrected f m 0 0 0 (billed o before) (each_billed o before h.1)
each_billed o (pay hold cents ∷ before) h = each_billed o before h.1

each_drop : (n : ℕ) (ps : List Period) → Each BySort ps → Each BySort (drop n ps)
each_drop zero ps all = all
each_drop (suc n) [] all = tt
each_drop (suc n) (p ∷ ps) all = each_drop n ps all.1

each_take : (n : ℕ) (ps : List Period) → Each BySort ps → Each BySort (take n ps)
each_take zero ps all = tt
each_take (suc n) [] all = tt
each_take (suc n) (p ∷ ps) all = (all.0, each_take n ps all.1)

all_by_sort : (row : ℕ) (ps : List Period) → Each BySort ps → all_read ps ≡ every (λ row p. is_read p.sort) row ps
all_by_sort row [] all = refl
all_by_sort row (p ∷ ps) all = ap₂ (λ a b. a && b) all.0 (all_by_sort (suc row) ps all.1)

pub sorts_tell : SortsTellWhatWasRead
sorts_tell o h f =
    let calls = accepted o h in
    let all = each_take 3 (drop f (billed o calls)) (each_drop f (billed o calls) (each_billed o calls (accepted_passed o h))) in
    ap (λ b. eqb (length (three_from f (billed o calls))) 3 && b) (all_by_sort 0 (three_from f (billed o calls)) all)
