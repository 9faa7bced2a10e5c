-- The spans and methods of each cause: what the questions answer at the edges of its rule, and what was worked out.
-- Of the read rows, row 3 has days 30 to 39.
use Rattle.std.specs.Prelude.{◌≡◌, ℕ, ◌+◌, true, false, ◌&&◌, List, [], ◌∷◌, ◌++◌, map, Result, ◌==◌}
use Rattle.rules.specs.Subject.{Period, Cause, absent, under, over, stopped, altered, consumer, supplier, Finding, Method, estimate, correct}
use Rattle.rules.specs.Laid.{metered}
use Rattle.method.specs.Made.{test_made, category_made, contract_made, later_made}
use Rattle.worked.specs.Asked.{units, asked_by, tens, unread, found}

-- a method that serves the cause, and fits a span up to this row
abbrev pub fitting : Cause → (last : ℕ) → List Period → Result Method ℕ
fitting absent last ps = later_made (last + 1) ps
fitting under last ps = test_made 600 1000
fitting over last ps = test_made 1000 600
fitting stopped last ps = later_made (last + 1) ps
fitting altered last ps = contract_made 10 50 90 40 0

abbrev pub span : List Period → Finding → ℕ
span ps f = asked_by ps (correct 1 f) (fitting f.cause f.last ps)

abbrev pub spans : List Finding → List ℕ
spans fs = map (span (tens 17 0)) fs

-- seven unmetered rows, 1 to 7, of which the last has no energy, between read ones
abbrev pub between : List Period
between = tens 1 0 ++ unread 7 1 ++ tens 3 8

-- two rows, the first read at so many day units and the second at so many peak units, where the meter showed 3
-- and the test meter 4
abbrev pub shared : (day peak : ℕ) → ℕ
shared day peak =
    asked_by (metered 0 9 (units day 0 0) ∷ metered 10 19 (units 0 peak 0) ∷ [])
    (correct 1 (found under supplier 0 false 0 1)) (test_made 3 4)

-- the same method, but fit for row 1 alone
abbrev pub for_row_1 : Method → Method
for_row_1 m = record m { fits = λ u first last. first == 1 && last == 1 }

abbrev pub table : List (List ℕ × List ℕ)
table =
    -- 7: reported by the consumer, the row that holds the notice day
    (spans (map (λ n. found under consumer n false 3 3) (29 ∷ 30 ∷ 39 ∷ 40 ∷ [])), 7 ∷ 0 ∷ 0 ∷ 7 ∷ [])
    ∷ (spans (found under consumer 30 false 3 4 ∷ []), 7 ∷ [])
    -- found by the supplier, one to three rows, of which the first holds it
    ∷ (spans (map (λ n. found under supplier n false 3 5) (29 ∷ 30 ∷ 39 ∷ 40 ∷ [])), 7 ∷ 0 ∷ 0 ∷ 7 ∷ [])
    ∷ (spans (found under supplier 30 false 3 3 ∷ found under supplier 30 false 3 6 ∷ []), 0 ∷ 7 ∷ [])
    -- over, ascertained and at most twelve rows
    ∷ (
      spans (found over consumer 0 true 1 12 ∷ found over consumer 0 true 1 13 ∷ found over consumer 10 false 1 1 ∷ []),
      0 ∷ 7 ∷ 7 ∷ [],
    )
    -- stopped, at most twelve rows; if not ascertained the first holds the notice day
    ∷ (spans (found stopped consumer 0 true 1 12 ∷ found stopped consumer 0 true 1 13 ∷ []), 0 ∷ 7 ∷ [])
    ∷ (spans (map (λ n. found stopped consumer n false 3 5) (30 ∷ 39 ∷ 40 ∷ 59 ∷ [])), 0 ∷ 0 ∷ 7 ∷ 7 ∷ [])
    -- altered, at most twelve rows if ascertained; else the three rows just before the one that holds the notice day
    ∷ (spans (found altered consumer 0 true 1 12 ∷ found altered consumer 0 true 1 13 ∷ []), 0 ∷ 7 ∷ [])
    ∷ (spans (map (λ n. found altered consumer n false 3 5) (59 ∷ 60 ∷ 69 ∷ 70 ∷ [])), 7 ∷ 0 ∷ 0 ∷ 7 ∷ [])
    ∷ (spans (found altered consumer 50 false 3 4 ∷ found altered consumer 70 false 3 6 ∷ []), 7 ∷ 7 ∷ [])
    -- absent, the whole run, and the row after it was read; 6: none of it is left out, and no row of it was read
    ∷ (
      map (span between) (found absent consumer 0 false 1 7 ∷ found absent consumer 0 false 2 7 ∷ found absent consumer 0 false 0 7 ∷ []),
      0 ∷ 6 ∷ 6 ∷ [],
    )
    ∷ (asked_by (tens 1 0 ++ unread 6 1) (correct 1 (found absent consumer 0 false 1 6)) (contract_made 10 50 90 40 0) ∷ [], 7 ∷ [])
    -- 8: the method serves the cause, and fits
    ∷ (
      map (asked_by (tens 9 0) (correct 1 (found under consumer 30 false 3 3)))
          (test_made 600 1000 ∷ test_made 1000 600 ∷ contract_made 10 50 90 40 0 ∷ []),
      0 ∷ 8 ∷ 8 ∷ [],
    )
    ∷ (
      map (asked_by (tens 9 0) (correct 1 (found stopped consumer 30 false 3 3))) (later_made 4 (tens 9 0) ∷ later_made 5 (tens 9 0) ∷ []),
      0 ∷ 8 ∷ [],
    )
    -- so does that of an estimate, which is asked for its row; from the seventh unmetered one on it is not asked
    ∷ (map (asked_by [] (estimate 1 29)) (category_made 300 20 5 ∷ contract_made 10 50 90 40 0 ∷ []), 0 ∷ 8 ∷ [])
    ∷ (map (λ n. asked_by (tens n 0) (λ m. estimate 1 29 (for_row_1 m)) (category_made 300 20 5)) (0 ∷ 1 ∷ 2 ∷ []), 8 ∷ 0 ∷ 8 ∷ [])
    ∷ (map (λ n. asked_by (unread n 1) (estimate 1 89) (contract_made 10 50 90 40 0)) (5 ∷ 6 ∷ []), 8 ∷ 0 ∷ [])
    -- 9: no share over 1,000,000, of day or of peak units, in any row; here 3 units become 4
    ∷ (map (shared 750000) (750000 ∷ 750001 ∷ []), 0 ∷ 9 ∷ [])
    ∷ (shared 750001 0 ∷ [], 9 ∷ [])
    -- nor of an estimate, but from the seventh on: here 60 days, and then 50, at 1,000,000 for 30
    ∷ (map (λ n. asked_by (unread n 1) (estimate 1 119) (category_made 1000000 0 5)) (5 ∷ 6 ∷ []), 9 ∷ 0 ∷ []) ∷ []

abbrev pub WorkedSpans : Type 0
WorkedSpans = map (λ c. c.0) table ≡ map (λ c. c.1) table
