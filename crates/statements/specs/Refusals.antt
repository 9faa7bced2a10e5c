-- Why there is no statement, and the number that a statement's result stands for. Assumes nothing.
use Rattle.std.specs.Prelude.{ℕ, List, codes, Result}
use Rattle.page.specs.Answered.{number_by}
use Rattle.statements.specs.declared.refused.Refused.{Refused}
use Rattle.statements.specs.declared.refused.Refused.TheVariants.{Figures, Page, Text}

-- the question that was answered no
abbrev pub refused_number : Refused → ℕ
refused_number Figures = 2
refused_number Page = 21
refused_number Text = 22

abbrev pub message : Refused → List ℕ
message Figures = codes "refused by question 2: are the tariff's number (1 to 4) and the opening day (0 to 18262) in limits?"
message Page = codes "refused by question 21: does the result fit the page?"
message Text = codes "refused by question 22: has the text 1 to 65536 bytes?"

-- 0, or the question that was answered no
abbrev pub number_of : Result ℕ Refused → ℕ
number_of r = number_by refused_number r
