-- The order of the questions: a call that is wrong in everything is mended in one thing after another, and each time the next
-- question refuses it.
use Rattle.std.specs.Prelude.{◌≡◌, ℕ, false, List, [], ◌∷◌, map}
use Rattle.rules.specs.Subject.{Period, estimated, under, consumer, take, hand_back, bill, estimate, correct, pay}
use Rattle.rules.specs.Laid.{metered, blank}
use Rattle.rules.specs.Questions.{question}
use Rattle.method.specs.Made.{test_made, category_made, contract_made}
use Rattle.worked.specs.Asked.{units, room, books, asked, asked_in, tens, found}

-- a row more after row 0, with room for this many rows and lines, of which one is used
abbrev pub billing : (sheet journal hold last : ℕ) → ℕ
billing sheet journal hold last = question (room sheet journal) (books 1 (tens 1 0)) (bill hold last (units 0 0 0))

-- by a method that does not serve estimates and would give 24,000 units a day, by one that would give too many, by one that fits
abbrev pub by_contract : (sheet hold last : ℕ) → ℕ
by_contract sheet hold last = asked_in (room sheet 1) 1 (tens 1 0) (estimate hold last) (contract_made 1000 100 100 100 0)

abbrev pub by_category : (journal figure : ℕ) → ℕ
by_category journal figure = asked_in (room 2 journal) 1 (tens 1 0) (estimate 1 69) (category_made figure 0 5)

-- a row of 60 days, an unmetered one, and one that was read
abbrev pub three : List Period
three = metered 0 59 (units 100 0 0) ∷ blank 60 69 estimated ∷ metered 70 79 (units 100 0 0) ∷ []

-- an under-registering meter by a method that serves altered ones alone and gives row 0 too many units
abbrev pub altered_by : (hold notice first last : ℕ) → ℕ
altered_by hold notice first last =
    asked_in (room 9 3) 3 three (correct hold (found under consumer notice false first last)) (contract_made 1000 100 100 100 0)

-- the same finding, of row 0, by a test meter: the meter showed one figure, the test meter the other
abbrev pub tested_by : (journal shown tested : ℕ) → ℕ
tested_by journal shown tested =
    asked_in (room 9 journal) 3 three (correct 1 (found under consumer 0 false 0 0)) (test_made shown tested)

abbrev pub taking : (granted now length : ℕ) → ℕ
taking granted now length = question (room 9 9) (record (books 0 []) { granted = granted }) (take now length)

abbrev pub paying : (journal hold cents : ℕ) → ℕ
paying journal hold cents = question (room 9 journal) (books 1 []) (pay hold cents)

abbrev pub table : List (List ℕ × List ℕ)
table =
    (asked [] (hand_back 2) ∷ asked [] (hand_back 1) ∷ [], 1 ∷ 0 ∷ [])
    ∷ (taking 4294967295 109 0 ∷ taking 4294967295 109 1 ∷ taking 4294967295 110 1 ∷ taking 1 110 1 ∷ [], 2 ∷ 11 ∷ 12 ∷ 0 ∷ [])
    ∷ (paying 1 2 0 ∷ paying 1 1 0 ∷ paying 1 1 1 ∷ paying 2 1 1 ∷ [], 1 ∷ 2 ∷ 10 ∷ 0 ∷ [])
    -- a day past the last, no place for a row, a day that is billed
    ∷ (
      billing 1 1 2 18263 ∷ billing 1 1 1 18263 ∷ billing 1 1 1 9 ∷ billing 2 1 1 9 ∷ billing 2 1 1 19 ∷ billing 2 2 1 19 ∷ [],
      1 ∷ 2 ∷ 3 ∷ 4 ∷ 10 ∷ 0 ∷ [],
    )
    ∷ (
      by_contract 1 2 18263 ∷ by_contract 1 1 18263 ∷ by_contract 1 1 9 ∷ by_contract 2 1 9 ∷ by_contract 2 1 69 ∷ [],
      1 ∷ 2 ∷ 3 ∷ 4 ∷ 8 ∷ [],
    )
    ∷ (by_category 1 1000000 ∷ by_category 1 300 ∷ by_category 2 300 ∷ [], 9 ∷ 10 ∷ 0 ∷ [])
    -- rows that are not billed or stand in no order, an unmetered row, a row without the notice day
    ∷ (
      altered_by 2 18263 1 3 ∷ altered_by 1 18263 1 3 ∷ altered_by 1 0 1 3 ∷ altered_by 1 0 2 1 ∷ altered_by 1 0 1 2
          ∷ altered_by 1 0 2 2 ∷ altered_by 1 0 0 0 ∷ [],
      1 ∷ 2 ∷ 5 ∷ 5 ∷ 6 ∷ 7 ∷ 8 ∷ [],
    )
    ∷ (tested_by 3 1 1000000 ∷ tested_by 3 600 1000 ∷ tested_by 4 600 1000 ∷ [], 9 ∷ 10 ∷ 0 ∷ []) ∷ []

abbrev pub WorkedOrders : Type 0
WorkedOrders = map (λ c. c.0) table ≡ map (λ c. c.1) table
