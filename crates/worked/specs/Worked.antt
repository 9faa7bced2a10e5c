-- Cases worked out by hand, beside what the definitions give. Assumes nothing.
use Rattle.std.specs.Prelude.{◌≡◌, ℕ, true, cond, List, [], ◌∷◌, map, length, replicate, Ok, Err, Result}
use Rattle.rules.specs.Subject.{Registers, Period, charge_on, estimated, no_energy, Cause, absent, under, over, stopped, altered, consumer, supplier, Finding, correcting, Method, Call, take, bill, correct, Opening}
use Rattle.rules.specs.Sharing.{sum_of, whole, shares, instalment}
use Rattle.rules.specs.Laid.{metered, blank, run, rewritten, corrected}
use Rattle.rules.specs.Questions.{question, bills, sorts_right}
use Rattle.rules.specs.Given.{given}
use Rattle.rules.specs.Shown.{Instalment}
use Rattle.rules.specs.Owed.{instalments}
use Rattle.rules.specs.Machine.{opened}
use Rattle.tariff.specs.Hotel.{hotel_1}
use Rattle.method.specs.Made.{test_made, contract_made, previous_made}

-- registers of day units alone, and a row that was read at them
abbrev pub day_only : ℕ → Registers
day_only units = record { day = units; peak = 0; demand = 0 }

abbrev pub read_row : (first last units : ℕ) → Period
read_row first last units = metered first last (day_only units)

-- three rows of 100 units
abbrev pub hundreds : List Period
hundreds = read_row 0 29 100 ∷ read_row 30 59 100 ∷ read_row 60 89 100 ∷ []

abbrev pub hundred_each : List ℕ
hundred_each = 100 ∷ 100 ∷ 100 ∷ []

-- three rows of 900 units in 91 days, and then rows of 30 and 31 days
abbrev pub stopped_after : List Period
stopped_after = read_row 0 29 300 ∷ read_row 30 59 300 ∷ read_row 60 90 300 ∷ read_row 91 120 0 ∷ read_row 121 151 0 ∷ []

-- two unmetered rows between read ones
abbrev pub unmetered_between : List Period
unmetered_between = read_row 0 29 100 ∷ blank 30 59 estimated ∷ blank 60 89 no_energy ∷ read_row 90 119 100 ∷ []

abbrev pub finding : Cause → (first last : ℕ) → Finding
finding cause first last = record { cause = cause; side = consumer; notice = 0; ascertained = true; first = first; last = last }

-- the number by which a method is refused, or 0 and what it gives
abbrev pub by : Result Method ℕ → (Method → List ℕ) → List ℕ
by (Ok m) gives = 0 ∷ gives m
by (Err n) gives = n ∷ []

-- the day units and demands of the rows that a correction leaves
abbrev pub day_units_left : Finding → List Period → Method → List ℕ
day_units_left f ps m = map (λ p. p.standing.day) (rewritten f 0 (corrected f m 0 0 0 ps))

abbrev pub demands_left : Finding → List Period → Method → List ℕ
demands_left f ps m = map (λ p. p.standing.demand) (rewritten f 0 (corrected f m 0 0 0 ps))

abbrev pub fits_over : Method → List ℕ
fits_over m = cond (m.fits (correcting over) 0 0) 1 0 ∷ []

-- an account opened on day 0 and held under hold 1; the number by which a bill up to the last day is refused, or 0
abbrev pub opening : Opening
opening = record { day = 0; sheet = 120; journal = 1024 }

abbrev pub billed_to : (last : ℕ) → List ℕ
billed_to last = question opening (given opening (take 0 10 ∷ [])) (bill 1 last (day_only 0)) ∷ []

-- the same account held for ten seconds from second 100 on; the number by which a take is refused, or 0
abbrev pub taken_at : (now : ℕ) → ℕ
taken_at now = question opening (given opening (take 100 10 ∷ [])) (take now 1)

-- three rows of 100 units are corrected together, and then the first of them anew
abbrev pub twice_under : Method → Method → List Call
twice_under m n =
    correct 1 (finding under 0 0) n
    ∷ correct 1 (record (finding under 0 2) { side = supplier }) m
    ∷ bill 1 89 (day_only 100) ∷ bill 1 59 (day_only 100) ∷ bill 1 29 (day_only 100) ∷ take 0 10 ∷ []

-- what the coming bills bring of both
abbrev pub coming : Result Method ℕ → Result Method ℕ → List Instalment
coming (Ok m) (Ok n) = instalments (hotel_1 10) opening 12 0 (twice_under m n)
coming m n = []

-- what the definitions give, and what was worked out
abbrev pub table : List (List ℕ × List ℕ)
table =
    -- the meter showed 1,025 and the test meter 1,000: exactly 2.5 per cent, no fault yet
    (by (test_made 1025 1000) (λ m. []), 15 ∷ [])
    -- at 1,026 it fits an over-registering meter, and 513 units become 500
    ∷ (by (test_made 1026 1000) fits_over, 0 ∷ 1 ∷ [])
    ∷ (by (test_made 1026 1000) (day_units_left (finding over 0 0) (read_row 0 29 513 ∷ [])), 0 ∷ 500 ∷ [])
    -- a meter that showed nothing
    ∷ (by (test_made 0 1000) (λ m. []), 14 ∷ [])
    -- 100, 100 and 100 units at 600 for 1,000
    ∷ (by (test_made 600 1000) (day_units_left (finding under 0 2) hundreds), 0 ∷ 166 ∷ 167 ∷ 167 ∷ [])
    -- and the sum of them, beside that of the periods each rounded alone
    ∷ (sum_of (λ s. s) (shares 1000 600 0 hundred_each) ∷ sum_of (whole 1000 600) hundred_each ∷ [], 500 ∷ 498 ∷ [])
    -- the previous three with 900 units in 91 days, over rows of 30 and 31 days
    ∷ (by (previous_made 0 stopped_after) (day_units_left (finding stopped 3 4) stopped_after), 0 ∷ 296 ∷ 307 ∷ [])
    -- H-1 with 100 units, at 10 and at 11 kVA contract demand
    ∷ (charge_on (hotel_1 10) 0 (day_only 100) ∷ [], 117000 ∷ [])
    ∷ (charge_on (hotel_1 11) 0 (day_only 100) ∷ [], 137000 ∷ [])
    -- 1,000 cents over 3 bills
    ∷ (map (instalment 1000 3) (1 ∷ 2 ∷ 3 ∷ []), 333 ∷ 333 ∷ 334 ∷ [])
    -- a contract demand of 10 kVA at 50, 90 and 40 per cent, nothing of it in the peak, for 30 days
    ∷ (by (contract_made 10 50 90 40 0) (day_units_left (finding altered 0 0) (read_row 0 29 0 ∷ [])), 0 ∷ 1296 ∷ [])
    ∷ (by (contract_made 10 50 90 40 0) (demands_left (finding altered 0 0) (read_row 0 29 0 ∷ [])), 0 ∷ 5 ∷ [])
    -- rows of 100 and of 101 days
    ∷ (billed_to 99, 0 ∷ [])
    ∷ (billed_to 100, 4 ∷ [])
    -- a hold of ten seconds from second 100 on: at 109 it still stands, at 110 it is taken over
    ∷ (taken_at 109 ∷ taken_at 110 ∷ [], 11 ∷ 0 ∷ [])
    -- the second row begins on the day after the first ends
    ∷ (map (λ p. p.first) (given opening (bill 1 59 (day_only 0) ∷ bill 1 29 (day_only 0) ∷ take 0 10 ∷ [])).periods, 0 ∷ 30 ∷ [])
    -- over how many bills each cause spreads what three rows come to
    ∷ (map (λ c. bills (finding c 0 2)) (absent ∷ under ∷ over ∷ stopped ∷ altered ∷ []), 6 ∷ 3 ∷ 3 ∷ 3 ∷ 1 ∷ [])
    -- of two unmetered rows between read ones none may be left out, before or after
    ∷ (map (λ f. cond (sorts_right f unmetered_between) 1 0) (finding absent 1 2 ∷ finding absent 1 1 ∷ finding absent 2 2 ∷ []), 1 ∷ 0 ∷ 0 ∷ [])
    -- a correction rewrites the first and the last row of its span, and no row beside it
    ∷ (map (λ p. p.first) (rewritten (finding over 1 2) 0 stopped_after), 30 ∷ 60 ∷ [])
    -- a run begins anew after a read row
    ∷ (run unmetered_between ∷ run (read_row 0 0 0 ∷ blank 1 1 estimated ∷ read_row 2 2 0 ∷ blank 3 3 no_energy ∷ []) ∷ [], 0 ∷ 1 ∷ [])
    -- 200 units more at 1,140 cents are 228,000 over three bills, and then 200 units for 166 are 38,760 over one
    ∷ (map (λ i. i.cents) (coming (test_made 600 1000) (test_made 500 1000)), 114760 ∷ 76000 ∷ 76000 ∷ replicate 9 0)
    ∷ (map (λ i. i.count) (coming (test_made 600 1000) (test_made 500 1000)), 2 ∷ 1 ∷ 1 ∷ replicate 9 0)
    -- an account begins with twelve coming bills
    ∷ (length opened.coming ∷ [], 12 ∷ []) ∷ []

abbrev pub WorkedFigures : Type 0
WorkedFigures = map (λ c. c.0) table ≡ map (λ c. c.1) table
