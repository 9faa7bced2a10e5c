-- What a call answers: each refusal by its number, and an accepted call's value. Assumes nothing.
use Rattle.std.specs.Prelude.{◌≡◌, ℕ, Bool, true, false, ℤ, pos, Ok, Err, Result}
use Rattle.rules.specs.Questions.{AskedBy}
use Rattle.rules.specs.Shown.{Answer}
use Rattle.figures.specs.View.{Charge}
use Rattle.figures.specs.declared.money.Money.{Money}
use Rattle.figures.specs.declared.money.Payment.{Payment}
use Rattle.account.specs.declared.refusal.Refusal.{Refusal}
use Rattle.account.specs.declared.refusal.Refusal.TheVariants.{NoHold, Figures, SheetFull, Period, NotBilled, WrongSort, WrongSpan, NoFit, ShareTooLarge, JournalFull, Held, NoNumber}

-- each refusal by its number
abbrev pub number_of : Refusal → ℕ
number_of NoHold = 1
number_of Figures = 2
number_of SheetFull = 3
number_of Period = 4
number_of NotBilled = 5
number_of WrongSort = 6
number_of WrongSpan = 7
number_of NoFit = 8
number_of ShareTooLarge = 9
number_of JournalFull = 10
number_of Held = 11
number_of NoNumber = 12

abbrev pub answered : {X : Type 0} → (X → ℤ) → Result X Refusal → Answer
answered worth (Ok x) = record { number = 0; value = worth x }
answered worth (Err e) = record { number = number_of e; value = pos 0 }

abbrev pub opened_answer : {X : Type 0} → Result X Refusal → Answer
opened_answer = answered (λ a. pos 0)

abbrev pub taken_answer : Result ℕ Refusal → Answer
taken_answer = answered pos

abbrev pub handed_answer : Result Unit Refusal → Answer
handed_answer = answered (λ u. pos 0)

abbrev pub billed_answer : Result Charge Refusal → Answer
billed_answer = answered (λ c. pos c.figure.0)

abbrev pub corrected_answer : Result Money Refusal → Answer
corrected_answer = answered (λ u. u.0)

abbrev pub paid_answer : Result Payment Refusal → Answer
paid_answer = answered (λ p. pos p.cents.0)

-- one question: a yes gives something made, a no gives its refusal
abbrev pub Says : {X : Type 0} → Bool → (X → Type 0) → Refusal → Result X Refusal → Type 0
Says answer made refusal (Ok x) = (answer ≡ true) × made x
Says answer made refusal (Err e) = (answer ≡ false) × (e ≡ refusal)

-- a call's questions
abbrev pub Asked : {X : Type 0} → ℕ → (X → Type 0) → Result X Refusal → Type 0
Asked = AskedBy number_of
