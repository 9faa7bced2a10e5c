-- The lines of a statement's page, as bytes; each ends with byte 10. Byte 44 is a comma, 65 an A. Assumes nothing.
use Rattle.std.specs.Prelude.{ℕ, List, [], ◌∷◌, ◌++◌, ℤ, Some, None, codes, decimal, Option}
use Rattle.std.specs.Fmt.{signed_decimal}
use Rattle.rules.specs.Shown.{Letter, B, C, P, Line}
use Rattle.desk.specs.declared.fault.Layer.{Layer}
use Rattle.desk.specs.declared.fault.Layer.TheVariants.{Reader, Method, Account}
use Rattle.desk.specs.Calls.{Outcome}

-- r, m, a
abbrev pub layer_letter : Layer → ℕ
layer_letter Reader = 114
layer_letter Method = 109
layer_letter Account = 97

-- B, C, P
abbrev pub line_letter : Letter → ℕ
line_letter B = 66
line_letter C = 67
line_letter P = 80

-- a row's number, or - for none
abbrev pub row_text : Option ℕ → List ℕ
row_text (Some row) = decimal row
row_text None = codes "-"

-- A,layer,number,value
abbrev pub answer_line : (layer number : ℕ) → (value : ℤ) → List ℕ
answer_line layer number value = 65 ∷ 44 ∷ layer ∷ 44 ∷ [] ++ decimal number ++ codes "," ++ signed_decimal value ++ 10 ∷ []

-- the A line of what a line was answered
abbrev pub told : Outcome → List ℕ
told a = answer_line (layer_letter a.layer) a.number a.value

-- J,hold,letter,row,cents
abbrev pub journal_line : Line → List ℕ
journal_line l =
    codes "J," ++ decimal l.hold ++ 44 ∷ line_letter l.letter ∷ 44 ∷ [] ++ row_text l.row ++ codes "," ++ signed_decimal l.cents ++ 10 ∷ []

-- S,balance,due
abbrev pub sums_line : (balance due : ℤ) → List ℕ
sums_line balance due = codes "S," ++ signed_decimal balance ++ codes "," ++ signed_decimal due ++ 10 ∷ []
