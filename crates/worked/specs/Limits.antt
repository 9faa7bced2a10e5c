-- Limits of figures and of room: what the questions answer at each and just past it, and what was worked out.
use Rattle.std.specs.Prelude.{◌≡◌, ℕ, ◌+◌, ◌*◌, false, List, [], ◌∷◌, map}
use Rattle.rules.specs.Subject.{under, supplier, take, bill, correct, pay}
use Rattle.rules.specs.Questions.{question, first_no, opening_asked}
use Rattle.method.specs.Made.{test_made}
use Rattle.worked.specs.Asked.{units, room, books, asked, asked_in, tens, found}

abbrev pub table : List (List ℕ × List ℕ)
table =
    -- 2: units at most 1,000,000, a demand at most 10,000
    (
      map (λ r. asked [] (bill 1 29 r)) (units 1000000 1000000 10000 ∷ units 1000001 0 0 ∷ units 0 1000001 0 ∷ units 0 0 10001 ∷ []),
      0 ∷ 2 ∷ 2 ∷ 2 ∷ [],
    )
    -- the last day of all, for a bill and for an opening
    ∷ (
      map (λ n. question (record (room 9 9) { day = 18240 }) (books 0 []) (bill 1 n (units 0 0 0))) (18262 ∷ 18263 ∷ []),
      0 ∷ 2 ∷ [],
    )
    ∷ (map (λ n. first_no (opening_asked n)) (18262 ∷ 18263 ∷ []), 0 ∷ 2 ∷ [])
    -- a payment of 1 to 10^12 cents
    ∷ (map (λ n. asked [] (pay 1 n)) (0 ∷ 1 ∷ 1000000000000 ∷ 1000000000001 ∷ []), 2 ∷ 0 ∷ 0 ∷ 2 ∷ [])
    -- a take for 1 to 86,400 seconds, at second 10^12 at the latest
    ∷ (map (λ n. asked [] (take 110 n)) (0 ∷ 1 ∷ 86400 ∷ 86401 ∷ []), 2 ∷ 0 ∷ 0 ∷ 2 ∷ [])
    ∷ (map (λ n. asked [] (take n 1)) (1000000000000 ∷ 1000000000001 ∷ []), 0 ∷ 2 ∷ [])
    -- 3: a row more, where memory has room for 2 rows, and for more than 120
    ∷ (map (λ n. question (room 2 9) (books 0 (tens n 0)) (bill 1 (10 * n + 9) (units 0 0 0))) (1 ∷ 2 ∷ []), 0 ∷ 3 ∷ [])
    ∷ (map (λ n. question (room 130 9) (books 0 (tens n 0)) (bill 1 (10 * n + 9) (units 0 0 0))) (119 ∷ 120 ∷ []), 0 ∷ 3 ∷ [])
    -- 10: a line more, where memory has room for 5 lines, and for more than 1,024
    ∷ (map (λ n. question (room 9 5) (books n []) (pay 1 1)) (4 ∷ 5 ∷ []), 0 ∷ 10 ∷ [])
    ∷ (map (λ n. question (room 9 5) (books n []) (bill 1 9 (units 0 0 0))) (4 ∷ 5 ∷ []), 0 ∷ 10 ∷ [])
    ∷ (map (λ n. question (room 9 1030) (books n []) (pay 1 1)) (1023 ∷ 1024 ∷ []), 0 ∷ 10 ∷ [])
    -- and a line for each row that a correction rewrites, here three
    ∷ (
      map (λ n. asked_in (room 9 5) n (tens 3 0) (correct 1 (found under supplier 0 false 0 2)) (test_made 600 1000)) (2 ∷ 3 ∷ []),
      0 ∷ 10 ∷ [],
    )
    -- 12: the last hold of all
    ∷ (
      map (λ n. question (room 9 9) (record (books 0 []) { granted = n }) (take 110 1)) (4294967294 ∷ 4294967295 ∷ []),
      0 ∷ 12 ∷ [],
    ) ∷ []

abbrev pub WorkedLimits : Type 0
WorkedLimits = map (λ c. c.0) table ≡ map (λ c. c.1) table
