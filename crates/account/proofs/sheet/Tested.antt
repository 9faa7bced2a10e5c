-- Tests of each row, and of one. Assumes nothing.
use Rattle.std.proofs.Common.{◌+◌, ◌-◌, ◌≢◌, ◌==◌, not, ◌&&◌, ◌||◌, ap₂, min, ltb, true, Option, Some, None, Bor, MatchOption, ◌≡◌, ℕ, zero, suc, ◌<◌, ◌≤◌, Bool, false, List, [], ◌∷◌, length, get_or, sym, refl, ap, ◌∙◌, arith}
use Rattle.std.proofs.lemmas.Bool.{ltb-true, ltb-false, lt-ltb, eq-eqb, ne_eqb}
use Rattle.rules.specs.Subject.{Period, Finding, unmetered}
use Rattle.std.specs.Slice.{IsItemAt}
use Rattle.rules.specs.Questions.{row_is, every, not_left_out}
use Rattle.figures.specs.View.{period_seen}
use Rattle.figures.specs.declared.row.Row.{Row}
use Rattle.account.specs.Rows.{periods}

pub row_there : (q : Period → Bool) (rows : List Row) (i : ℕ) (x : Row) → i < length rows → x ≡ get_or rows i x → row_is q (periods rows) i ≡ q (period_seen x)
row_there q [] i x h read = absurd (omega arith)
row_there q (r ∷ rows) zero x h read = ap (λ (y : Row). q (period_seen y)) (sym read)
row_there q (r ∷ rows) (suc i) x h read = row_there q rows i x (omega arith) read

pub row_past : (q : Period → Bool) (rows : List Row) (i : ℕ) → length rows ≤ i → row_is q (periods rows) i ≡ false
row_past q [] i h = refl
row_past q (r ∷ rows) zero h = absurd (omega arith)
row_past q (r ∷ rows) (suc i) h = row_past q rows i (omega arith)

-- a row that was looked up, and asked where it is there
pub row_asked : (q : Period → Bool) (rows : List Row) (i : ℕ) (got : Option (Bor Row)) (r : Bool) → IsItemAt rows i got → MatchOption got (r ≡ false) (λ x. r ≡ q (period_seen x.now)) → r ≡ row_is q (periods rows) i
row_asked q rows i None r found asked = asked ∙ sym (row_past q rows i (ltb-false i (length rows) (sym found.0)))
row_asked q rows i (Some x) r found asked = asked ∙ sym (row_there q rows i x.now (ltb-true i (length rows) (sym found.0)) found.1)

-- beyond the sheet every row is alike
beyond : (q : Period → Bool) (rows : List Row) (i j : ℕ) → i ≡ min j (length rows) + 1 → (b : Bool) → ltb (length rows) j ≡ b → row_is q (periods rows) i ≡ row_is q (periods rows) (j + 1)
beyond q rows i j e true h =
    let far = ltb-true (length rows) j h in
    row_past q rows i (omega arith) ∙ sym (row_past q rows (j + 1) (omega arith))
beyond q rows i j e false h =
    let near = ltb-false (length rows) j h in
    let same : i ≡ j + 1 = omega arith in
    ap (row_is q (periods rows)) same

pub row_beyond : (q : Period → Bool) (rows : List Row) (i j : ℕ) → i ≡ min j (length rows) + 1 → row_is q (periods rows) i ≡ row_is q (periods rows) (j + 1)
row_beyond q rows i j e = beyond q rows i j e (ltb (length rows) j) refl

kept : (b : Bool) → (b && true) ≡ b
kept true = refl
kept false = refl

-- a test of one row, asked of every row
module _ (e : ℕ → Bool) (t : Period → Bool) where
  never : (i : ℕ) (ps : List Period) → ((row : ℕ) → i ≤ row → e row ≡ false) → every (λ row p. not (e row) || not (t p)) i ps ≡ true
  never i [] h = refl
  never i (p ∷ ps) h = ap (λ b. (not b || not (t p)) && every (λ row p. not (e row) || not (t p)) (suc i) ps) (h i (omega arith)) ∙ never (suc i) ps (λ row k. h row (omega arith))

  only : (i d : ℕ) (ps : List Period) → e (i + d) ≡ true → ((row : ℕ) → row ≢ i + d → e row ≡ false) → every (λ row p. not (e row) || not (t p)) i ps ≡ not (row_is t ps d)
  only i d [] a h = refl
  only i zero (p ∷ ps) a h =
      let here : i ≡ i + 0 = omega arith in
      ap (λ b. (not b || not (t p)) && every (λ row p. not (e row) || not (t p)) (suc i) ps) (ap e here ∙ a)
      ∙ ap (λ b. not (t p) && b) (never (suc i) ps (λ row k. h row (omega arith)))
      ∙ kept (not (t p))
  only i (suc d) (p ∷ ps) a h =
      let next : suc i + d ≡ i + suc d = omega arith in
      ap (λ b. (not b || not (t p)) && every (λ row p. not (e row) || not (t p)) (suc i) ps) (h i (omega arith))
      ∙ only (suc i) d ps (ap e next ∙ a) (λ row k. h row (λ q. k (q ∙ sym next)))

-- two such tests
apart : (a b u : Bool) → (not (a || b) || not u) ≡ ((not a || not u) && (not b || not u))
apart true true true = refl
apart true true false = refl
apart true false true = refl
apart true false false = refl
apart false true true = refl
apart false true false = refl
apart false false true = refl
apart false false false = refl

crossed : (a b c d : Bool) → ((a && b) && (c && d)) ≡ ((a && c) && (b && d))
crossed false b c d = refl
crossed true true c d = refl
crossed true false false d = refl
crossed true false true d = refl

every_apart : (e k : ℕ → Bool) (t : Period → Bool) (i : ℕ) (ps : List Period) → every (λ row p. not (e row || k row) || not (t p)) i ps ≡ (every (λ row p. not (e row) || not (t p)) i ps && every (λ row p. not (k row) || not (t p)) i ps)
every_apart e k t i [] = refl
every_apart e k t i (p ∷ ps) = ap₂ (λ a b. a && b) (apart (e i) (k i) (t p)) (every_apart e k t (suc i) ps) ∙ crossed (not (e i) || not (t p)) (not (k i) || not (t p)) (every (λ row q. not (e row) || not (t q)) (suc i) ps) (every (λ row q. not (k row) || not (t q)) (suc i) ps)

before_tested : (first : ℕ) (ps : List Period) → every (λ row p. not (row + 1 == first) || not (unmetered p)) 0 ps ≡ not (ltb 0 first && row_is unmetered ps (first - 1))
before_tested zero ps = never (λ row. row + 1 == 0) unmetered 0 ps (λ row h. ne_eqb (row + 1) 0 (λ e. absurd (omega arith)))
before_tested (suc row) ps =
    let last : suc row - 1 ≡ row = omega arith in
    only (λ i. i + 1 == suc row) unmetered 0 row ps (eq-eqb (0 + row + 1) (suc row) (omega arith)) (λ i h. ne_eqb (i + 1) (suc row) (λ e. h (omega arith)))
    ∙ ap (λ k. not (row_is unmetered ps k)) (sym last)
    ∙ ap (λ b. not (b && row_is unmetered ps (suc row - 1))) (sym (lt-ltb 0 (suc row) (omega arith)))

pub left_out_tested : (f : Finding) (ps : List Period) → every (not_left_out f) 0 ps ≡ (not (ltb 0 f.first && row_is unmetered ps (f.first - 1)) && not (row_is unmetered ps (f.last + 1)))
left_out_tested f ps =
    every_apart (λ row. row + 1 == f.first) (λ row. row == f.last + 1) unmetered 0 ps
    ∙ ap₂ (λ a b. a && b) (before_tested f.first ps)
    (only (λ row. row == f.last + 1) unmetered 0 (f.last + 1) ps (eq-eqb (0 + (f.last + 1)) (f.last + 1) (omega arith)) (λ i h. ne_eqb i (f.last + 1) (λ e. h (omega arith))))
