-- Three rows that were read, and what they give a method. Assumes nothing.
use Rattle.std.specs.Prelude.{ℕ, ◌+◌, ◌/◌, Bool, true, ◌&&◌, List, [], ◌∷◌, length, take, drop, ◌==◌}
use Rattle.rules.specs.Subject.{Register, Period, days, is_read}
use Rattle.rules.specs.Questions.{is_reading, is_term}
use Rattle.method.specs.Meaning.{units}

-- the rows from row f on, three at most
abbrev pub three_from : (f : ℕ) → List Period → List Period
three_from f ps = take 3 (drop f ps)

-- a row that was read, in the limits of its reading and of its days; the read rows that accepted calls give are in them, so of
-- those rows this asks the sort alone (ReadRows)
abbrev pub is_read_row : Period → Bool
is_read_row p = is_read p.sort && is_reading p.recorded && is_term p.first p.last

abbrev pub all_read : List Period → Bool
all_read [] = true
all_read (p ∷ ps) = is_read_row p && all_read ps

-- there are three, and all were read
abbrev pub are_three : List Period → Bool
are_three ps = length ps == 3 && all_read ps

-- their recorded units of a register, their days and their recorded demands, together
abbrev pub units_of : Register → List Period → ℕ
units_of k [] = 0
units_of k (p ∷ ps) = units k p.recorded + units_of k ps

abbrev pub days_of : List Period → ℕ
days_of [] = 0
days_of (p ∷ ps) = days p + days_of ps

abbrev pub demands_of : List Period → ℕ
demands_of [] = 0
demands_of (p ∷ ps) = p.recorded.demand + demands_of ps

-- the average demand, rounded up
abbrev pub average_of : List Period → ℕ
average_of ps = (demands_of ps + 2) / 3
