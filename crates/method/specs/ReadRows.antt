-- Which rows of a sheet are read rows. Histories are newest first. Assumes nothing.
use Rattle.std.specs.Prelude.{◌≡◌, ℕ, Bool, ◌&&◌, List, length, ◌==◌}
use Rattle.rules.specs.Subject.{Period, is_read, Call, Opening}
use Rattle.rules.specs.Questions.{every}
use Rattle.rules.specs.Given.{accepted, billed}
use Rattle.method.specs.Three.{three_from, are_three}

-- there are three, and by their sorts all were read
abbrev pub three_by_sort : List Period → Bool
three_by_sort ps = length ps == 3 && every (λ row p. is_read p.sort) 0 ps

-- rows f to f + 2, three at most, of the sheet that the accepted calls of a history give
abbrev pub rows_given : Opening → List Call → (f : ℕ) → List Period
rows_given o h f = three_from f (billed o (accepted o h))

-- their sorts alone tell whether they are three that were read
abbrev pub SortsTellWhatWasRead : Type 0
SortsTellWhatWasRead = (o : Opening) (h : List Call) (f : ℕ) → are_three (rows_given o h f) ≡ three_by_sort (rows_given o h f)
