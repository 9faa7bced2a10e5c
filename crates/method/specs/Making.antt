-- The questions that the making of a method asks, by their numbers. Assumes nothing.
use Rattle.std.specs.Prelude.{ℕ, ◌+◌, ◌-◌, ◌*◌, Bool, ◌&&◌, List, [], ◌∷◌, nat_le, nat_lt}
use Rattle.method.specs.declared.fault.MethodFault.{MethodFault}
use Rattle.method.specs.declared.fault.MethodFault.TheVariants.{Figures, NoTest, NoMeter, TooClose, NotRead, NoUnits}
use Rattle.rules.specs.Subject.{day_units, peak_units, Period}
use Rattle.method.specs.Three.{three_from, are_three, units_of}

abbrev pub number_of : MethodFault → ℕ
number_of Figures = 2
number_of NoTest = 13
number_of NoMeter = 14
number_of TooClose = 15
number_of NotRead = 16
number_of NoUnits = 17

-- how far two numbers are apart
abbrev pub apart : ℕ → ℕ → ℕ
apart m n = (m - n) + (n - m)

-- the meter is off by more than a fortieth, 2.5 per cent, of what the test meter showed
abbrev pub is_off : (shown tested : ℕ) → Bool
is_off shown tested = nat_lt tested (40 * apart shown tested)

-- 13: the test meter showed something; 14: the meter did; 15: it is off
abbrev pub test_asked : (shown tested : ℕ) → List (ℕ × Bool)
test_asked shown tested =
    (2, nat_le shown 1000000 && nat_le tested 1000000)
    ∷ (13, nat_lt 0 tested)
    ∷ (14, nat_lt 0 shown)
    ∷ (15, is_off shown tested) ∷ []

abbrev pub category_asked : (figure s demand : ℕ) → List (ℕ × Bool)
category_asked figure s demand = (2, nat_le figure 1000000 && nat_le s 100 && nat_le demand 10000) ∷ []

abbrev pub contract_asked : (kva utilization power load s : ℕ) → List (ℕ × Bool)
contract_asked kva utilization power load s =
    (2, nat_le kva 1000 && nat_le utilization 100 && nat_le power 100 && nat_le load 100 && nat_le s 100) ∷ []

-- 16: rows f to f + 2 are billed and were read, in the limits that every read row of a sheet is in; 17: they have units
abbrev pub previous_asked : (f : ℕ) → List Period → List (ℕ × Bool)
previous_asked f ps =
    (16, are_three (three_from f ps))
    ∷ (17, nat_lt 0 (units_of day_units (three_from f ps) + units_of peak_units (three_from f ps))) ∷ []

abbrev pub later_asked : (f : ℕ) → List Period → List (ℕ × Bool)
later_asked f ps = (16, are_three (three_from f ps)) ∷ []
