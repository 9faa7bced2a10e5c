-- What a call answers and leaves, if it writes its result on a page. Assumes nothing.
use Rattle.std.specs.Prelude.{◌≡◌, ℕ, Bool, cond, List, length, replicate, Ok, Err, Result, ◌==◌}
use Rattle.rules.specs.Questions.{first_no}
use Rattle.page.specs.Writes.{padded}

-- an accepted call has the bytes of its result for its value
abbrev pub value_for : (number : ℕ) → (written : List ℕ) → ℕ
value_for number written = cond (number == 0) (length written) 0

-- its page of n bytes holds the result and then zeros; a refused one leaves zeros
abbrev pub page_for : (n number : ℕ) → (written : List ℕ) → List ℕ
page_for n number written = cond (number == 0) (padded n written) (replicate n 0)

-- a call with this result asked these questions, answered number and value, and left the page so
pub record Answered (questions : List (ℕ × Bool)) (written before left : List ℕ) (number value : ℕ) : Type 0 where
  pub answered : number ≡ first_no questions
  pub counted : value ≡ value_for number written
  pub page : left ≡ page_for (length before) number written

-- 0, or the number of a refusal
abbrev pub number_by : {R : Type 0} → (R → ℕ) → Result ℕ R → ℕ
number_by number (Ok bytes) = 0
number_by number (Err refusal) = number refusal

-- the bytes of the result, or 0
abbrev pub value_of : {R : Type 0} → Result ℕ R → ℕ
value_of (Ok bytes) = bytes
value_of (Err refusal) = 0

-- a page left so, with zeros once its call is refused
abbrev pub cleared : {R : Type 0} → Result ℕ R → List ℕ → List ℕ
cleared (Ok bytes) left = left
cleared (Err refusal) left = replicate (length left) 0
