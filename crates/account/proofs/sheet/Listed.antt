-- The rows that a correction rewrites, counted. Assumes nothing.
use Rattle.std.proofs.Common.{◌≡◌, ℕ, suc, ◌+◌, ◌<◌, ◌≤◌, Bool, true, false, cond, List, [], ◌∷◌, length, refl, sym, ap, ◌∙◌, arith}
use Rattle.std.specs.List.{filter}
use Rattle.rules.specs.Subject.{Finding}
use Rattle.rules.specs.Laid.{in_span, rewrites_sort, rewrites, rewritten}
use Rattle.figures.specs.View.{period_seen}
use Rattle.figures.specs.declared.row.Row.{Row}
use Rattle.account.specs.Rows.{periods, span_start, covered}
use Rattle.account.proofs.sheet.Beside.{rewrites_inside}
use Rattle.account.proofs.sheet.Covered.{covered_inside, rewritten_covered}

-- rows that are all in the span
rewritten_inside : (f : Finding) (i : ℕ) (rows : List Row) → ((k : ℕ) → k < length rows → in_span f (i + k) ≡ true) → length (filter (λ r. rewrites_sort f.cause (period_seen r).sort) rows) ≡ length (rewritten f i (periods rows))
unfolding rewritten
rewritten_inside f i [] inside = refl
rewritten_inside f i (r ∷ rows) inside =
    let p = period_seen r in
    let xs = filter (λ r. rewrites_sort f.cause (period_seen r).sort) rows in
    let ps = rewritten f (suc i) (periods rows) in
    let here : i + 0 ≡ i = omega arith in
    let next : (k : ℕ) → suc i + k ≡ i + suc k = λ k. omega arith in
    let e : rewrites f i p ≡ rewrites_sort f.cause p.sort = rewrites_inside f i p (ap (in_span f) (sym here) ∙ inside 0 (omega arith)) in
    let rest : length xs ≡ length ps = rewritten_inside f (suc i) rows (λ k h. ap (in_span f) (next k) ∙ inside (suc k) (omega arith)) in
    let both : (b : Bool) → length (cond b (r ∷ xs) xs) ≡ length (cond b (p ∷ ps) ps) = λ b. elim b as (λ b. length (cond b (r ∷ xs) xs) ≡ length (cond b (p ∷ ps) ps)) [ true ↦ ap suc rest | false ↦ rest ] in
    both (rewrites_sort f.cause p.sort) ∙ ap (λ b. length (cond b (p ∷ ps) ps)) (sym e)

pub rewritten_listed : (f : Finding) (rows : List Row) → length (filter (λ r. rewrites_sort f.cause (period_seen r).sort) (covered f rows)) ≡ length (rewritten f 0 (periods rows))
rewritten_listed f rows = rewritten_inside f (span_start f (length rows)) (covered f rows) (covered_inside f rows) ∙ ap length (sym (rewritten_covered f rows))

pub rewritten_few : (f : Finding) (i : ℕ) (rows : List Row) → length (rewritten f i (periods rows)) ≤ length rows
unfolding rewritten
rewritten_few f i [] = omega arith
rewritten_few f i (r ∷ rows) =
    let ps = rewritten f (suc i) (periods rows) in
    let few = rewritten_few f (suc i) rows in
    elim (rewrites f i (period_seen r)) as (λ b. length (cond b (period_seen r ∷ ps) ps) ≤ suc (length rows)) [ true ↦ omega (arith, few) | false ↦ omega (arith, few) ]
