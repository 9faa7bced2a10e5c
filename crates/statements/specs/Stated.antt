-- What a statement asks, answers and leaves on the page. Assumes nothing.
use Rattle.std.specs.Prelude.{◌≡◌, ℕ, Bool, ◌&&◌, List, [], ◌∷◌, ◌++◌, length, nat_le}
use Rattle.rules.specs.Subject.{Tariff, Opening}
use Rattle.rules.specs.Questions.{is_day}
use Rattle.rules.specs.Shown.{State}
use Rattle.rules.specs.Law.{Law}
use Rattle.tariff.specs.Hotel.{numbered}
use Rattle.events.specs.Lines.{lines}
use Rattle.page.specs.Writes.{padded}
use Rattle.page.specs.Answered.{Answered}
use Rattle.statements.specs.Statement.{calls, replies, account_text, result_text}

-- an account that opens on this day, with room for 120 rows and 1,024 lines
abbrev pub opened_on : (day : ℕ) → Opening
opened_on day = record { day = day; sheet = 120; journal = 1024 }

abbrev pub is_text : List ℕ → Bool
is_text text = nat_le 1 (length text) && nat_le (length text) 65536

-- with a page of n bytes: 22, is the text 1 to 65,536 bytes? 21, does the result fit?
abbrev pub text_asked : Tariff → Opening → (text : List ℕ) → (n : ℕ) → List (ℕ × Bool)
text_asked t o text n = (22, is_text text) ∷ (21, nat_le (length (result_text t o (lines text))) n) ∷ []

abbrev pub is_tariff : (number : ℕ) → Bool
is_tariff number = nat_le 1 number && nat_le number 4

-- first 2, are the tariff's number and the opening day in limits? then the questions of the text
abbrev pub asked : (tariff day : ℕ) → (text : List ℕ) → (n : ℕ) → List (ℕ × Bool)
asked tariff day text n = (2, is_tariff tariff) ∷ (2, is_day day) ∷ text_asked (numbered tariff) (opened_on day) text n

-- the statement of a text asked these questions, answered number and value, and left the page so
abbrev pub Stated : Tariff → Opening → (questions : List (ℕ × Bool)) → (text before left : List ℕ) → (number value : ℕ) → Type 0
Stated t o questions text before left number value = Answered questions (result_text t o (lines text)) before left number value

-- the statement under a tariff's number, of an account that opens on a day, answered number and value, and left the page so
abbrev pub StatedFor : (tariff day : ℕ) → (text before left : List ℕ) → (number value : ℕ) → Type 0
StatedFor tariff day text before left number value = Stated (numbered tariff) (opened_on day) (asked tariff day text (length before)) text before left number value

-- the account that the page shows keeps the law over the calls that the text makes
pub record LawfulPage (t : Tariff) (o : Opening) (text page : List ℕ) : Type 0 where
  pub account : State
  pub law : Law t o (calls o [] (lines text)) account
  pub shows : page ≡ padded (length page) (replies t o [] (lines text) ++ account_text account.lines account.balance account.due)
