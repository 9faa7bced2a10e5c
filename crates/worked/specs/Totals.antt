-- The totals of a journal, worked out by hand. Assumes nothing.
use Rattle.std.specs.Prelude.{◌≡◌, ℕ, List, [], ◌∷◌, ℤ, pos, Ok, Err, Result}
use Rattle.rules.specs.Subject.{under, Method, Call, take, bill, correct, pay}
use Rattle.rules.specs.Journal.{lines, cents_of, charges_of, payments_of}
use Rattle.tariff.specs.Hotel.{hotel_1}
use Rattle.method.specs.Made.{test_made}
use Rattle.worked.specs.Worked.{day_only, finding, opening}

-- 600 units are billed, corrected to 1,000, and paid in part
abbrev pub paid_in_part : Method → List Call
paid_in_part m = pay 2 100000 ∷ correct 2 (finding under 0 0) m ∷ take 110 10 ∷ bill 1 30 (day_only 600) ∷ take 100 10 ∷ []

-- what the lines of these calls charge, what they pay, and what they move the balance by
abbrev pub totals : Result Method ℕ → List ℤ
totals (Ok m) = let ls = lines (hotel_1 10) opening (paid_in_part m) in charges_of ls ∷ payments_of ls ∷ cents_of ls ∷ []
totals (Err n) = []

-- 600 units at 1,140 cents and 3,000, and then 400 units more; less the payment
abbrev pub WorkedTotals : Type 0
WorkedTotals = totals (test_made 600 1000) ≡ pos 1143000 ∷ pos 100000 ∷ pos 1043000 ∷ []
