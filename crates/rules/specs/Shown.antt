-- What an account shows, and what it answers.
use Rattle.std.specs.Prelude.{ℕ, List, ℤ, Option}
use Rattle.rules.specs.Subject.{Period, Tariff, charge}
use Rattle.rules.specs.Questions.{Hold}

-- a row of the sheet: a period, and what it is charged
pub record Row : Type 0 where
  pub period : Period
  pub cents : ℕ

abbrev pub row_of : Tariff → Period → Row
row_of t p = record { period = p; cents = charge t p }

-- a bill or an estimate, a correction of one row, a payment
pub data Letter : Type 0 where
  B C P : Letter

-- a line of the journal
pub record Line : Type 0 where
  pub hold : ℕ
  pub letter : Letter
  pub row : Option ℕ
  pub cents : ℤ

-- what a coming bill will bring, and of how many corrections
pub record Instalment : Type 0 where
  pub cents : ℕ
  pub count : ℕ

-- an account: how many holds it has granted and the one that stands, its rows and its lines, its sums and its coming instalments
pub record State : Type 0 where
  pub granted : ℕ
  pub holding : Option Hold
  pub rows : List Row
  pub lines : List Line
  pub balance : ℤ
  pub due : ℤ
  pub coming : List Instalment

-- 0 where a call is accepted, else the number of the question that refuses it; and a value
pub record Answer : Type 0 where
  pub number : ℕ
  pub value : ℤ
