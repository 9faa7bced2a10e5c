-- The lines of a text and the fields of a line, as lists of bytes. Assumes nothing.
use Rattle.std.specs.Prelude.{ℕ, ◌+◌, length, cond, List, [], ◌∷◌, ◌==◌}
use Rattle.std.specs.List.{onto_first, slice_split}

-- byte 10 ends each line and is no part of it; the last line may lack it
abbrev pub lines : List ℕ → List (List ℕ)
lines [] = []
lines (c ∷ cs) = cond (c == 10) ([] ∷ lines cs) (onto_first c (lines cs))

-- byte 44, a comma, parts the fields: one more field than commas
abbrev pub fields : List ℕ → List (List ℕ)
fields line = slice_split (λ c. c == 44) line

-- fields with the columns at which they begin, the first at the column; a comma takes a column too
abbrev pub placed : (column : ℕ) → List (List ℕ) → List (ℕ × List ℕ)
placed column [] = []
placed column (f ∷ fs) = (column, f) ∷ placed (column + (length f + 1)) fs
