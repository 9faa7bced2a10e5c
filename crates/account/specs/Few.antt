-- At most six rows of an unmetered run are estimated, in the sheet of every account.
use Rattle.std.specs.Prelude.{ℕ, Bool, true, not, ◌&&◌, ◌||◌, List, [], ◌∷◌, nat_lt}
use Rattle.rules.specs.Subject.{Period, is_estimated}
use Rattle.rules.specs.Laid.{run_on}

-- p is not estimated, or fewer than six unmetered periods stand before it in its run
abbrev pub may_stand : ℕ → Period → Bool
may_stand n p = not (is_estimated p.sort) || nat_lt n 6

-- so it is with each of ps, where n unmetered ones of a run stand before them
abbrev pub six_at_most : (n : ℕ) → List Period → Bool
six_at_most n [] = true
six_at_most n (p ∷ ps) = may_stand n p && six_at_most (run_on n p) ps
