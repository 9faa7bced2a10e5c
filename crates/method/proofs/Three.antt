-- The first three of the rows from a row on, as the code reads them. Assumes nothing.
use Rattle.std.proofs.Common.{◌≡◌, ℕ, ◌+◌, ◌<◌, ◌≤◌, true, false, ◌&&◌, List, [], ◌∷◌, map, length, get_or, take, drop, sym, ap, ◌∙◌, arith, length-drop, length-take, ne_eqb}
use lib.ListN.{length-map}
use Rattle.std.proofs.lemmas.List.{drop-map}
use Rattle.std.proofs.lemmas.Bool.{lt-ltb, cond-true}
use Rattle.rules.specs.Subject.{day_units, peak_units, Period}
use Rattle.rules.specs.Questions.{first_no}
use Rattle.figures.specs.declared.row.Row.{Row}
use Rattle.figures.specs.View.{period_seen}
use Rattle.method.specs.declared.three_rows.ThreeRows.{ThreeRows}
use Rattle.method.specs.Three.{three_from, all_read, are_three, units_of}
use Rattle.method.specs.Making.{previous_asked}
use Rattle.method.specs.Reckoned.{Reckoned}

front : (ys : List Row) (a b c : Row) → 3 ≤ length ys → a ≡ get_or ys 0 a → b ≡ get_or ys 1 b → c ≡ get_or ys 2 c → take 3 (map period_seen ys) ≡ period_seen a ∷ period_seen b ∷ period_seen c ∷ []
front [] a b c h p q r = absurd (omega arith)
front (x ∷ []) a b c h p q r = absurd (omega arith)
front (x ∷ y ∷ []) a b c h p q r = absurd (omega arith)
front (x ∷ y ∷ z ∷ zs) a b c h p q r = cc

pub three_are : (xs ys : List Row) (f : ℕ) (a b c : Row) → ys ≡ drop f xs → 3 ≤ length ys → a ≡ get_or ys 0 a → b ≡ get_or ys 1 b → c ≡ get_or ys 2 c → three_from f (map period_seen xs) ≡ period_seen a ∷ period_seen b ∷ period_seen c ∷ []
three_are xs ys f a b c e h p q r =
    ap (take 3) (drop-map period_seen f xs ∙ ap (map period_seen) (sym e)) ∙ front ys a b c h p q r

pub not_three : (xs : List Row) (f : ℕ) → length xs < f + 3 → are_three (three_from f (map period_seen xs)) ≡ false
not_three xs f h =
    let ps = map period_seen xs in
    let few : length (three_from f ps) < 3 = simp (length-take, length-drop, length-map) (omega arith) in
    ap (λ three. three && all_read (three_from f ps)) (ne_eqb (length (three_from f ps)) 3 (λ e. omega arith))

-- three rows that were read, and have units, pass the questions of the previous three
pub with_units : (t : ThreeRows) (f : ℕ) (ps : List Period) → are_three (three_from f ps) ≡ true → Reckoned t (three_from f ps) → 0 < t.day.0 + t.peak.0 → first_no (previous_asked f ps) ≡ 0
with_units t f ps are r some =
    let three = three_from f ps in
    let units : 0 < units_of day_units three + units_of peak_units three = omega (arith, r.day, r.peak) in
    cond-true (are_three three) _ _ are ∙ cond-true _ 0 17 (lt-ltb 0 (units_of day_units three + units_of peak_units three) units)
