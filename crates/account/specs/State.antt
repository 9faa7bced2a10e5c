-- The account as the rules have it, and what every call promises. Assumes nothing.
use Rattle.std.specs.Prelude.{◌≡◌, ℕ, ◌≤◌, List, [], ◌∷◌, map, length, drop, Some, None, Option}
use Rattle.std.specs.Borrow.{MutBor}
use Rattle.rules.specs.Subject.{Tariff, Call, Opening}
use Rattle.rules.specs.Questions as rules
use Rattle.rules.specs.Shown.{Answer, State}
use Rattle.rules.specs.Law.{Law, answer_to}
use Rattle.rules.specs.Machine.{step}
use Rattle.book.specs.Pages.{pages_of, OneMemory}
use Rattle.figures.specs.declared.row.Row.{Row}
use Rattle.figures.specs.declared.line.Line.{Line}
use Rattle.account.specs.Lines.{lines_of}
use Rattle.account.specs.Rows.{rows_of}
use Rattle.account.specs.Bounds as sums
use Rattle.account.specs.declared.account.Hold.{Hold}
use Rattle.account.specs.declared.account.Account.{Account}

abbrev pub hold_of : Option Hold → Option rules.Hold
hold_of None = None
hold_of (Some h) = Some (record { number = h.number; until = h.until })

abbrev pub state_of : {T : Type 0} → Account T → State
state_of a = record {
  granted = a.granted;
  holding = hold_of a.holding;
  rows = rows_of (pages_of a.sheet);
  lines = lines_of (pages_of a.journal);
  balance = a.sums.balance.0;
  due = a.sums.due.0;
  coming = map sums.seen a.sums.coming.places;
}

-- what the account was opened with
abbrev pub opening_of : {T : Type 0} → Account T → Opening
opening_of a = record { day = a.opening.figure; sheet = length a.sheet.memory.now; journal = length a.journal.memory.now }

-- b is over the very memory that a was lent
pub record OverTheSame {T : Type 0} (a b : Account T) : Type 0 where
  pub sheet : OneMemory a.sheet b.sheet
  pub journal : OneMemory a.journal b.journal

-- b is opened as a was, its tariff means what a's does, and it is over the same memory, in which nothing past the filled
-- parts is changed
pub record Same {T : Type 0} (mean : T → Tariff) (a b : Account T) : Type 0 where
  pub opening : opening_of b ≡ opening_of a
  pub tariff : mean b.tariff ≡ mean a.tariff
  pub sheet_past : drop b.sheet.filled b.sheet.memory.now ≡ drop b.sheet.filled a.sheet.memory.now
  pub journal_past : drop b.journal.filled b.journal.memory.now ≡ drop b.journal.filled a.journal.memory.now
  pub memory : OverTheSame a b

-- the answer and the whole state after a call are those of the step; a refused call does not even ask the tariff
pub record Stepped {T : Type 0} (mean : T → Tariff) (a b : Account T) (c : Call) (r : Answer) : Type 0 where
  pub answer : r ≡ (step (mean a.tariff) (opening_of a) (state_of a) c).0
  pub state : state_of b ≡ (step (mean a.tariff) (opening_of a) (state_of a) c).1
  pub same : Same mean a b
  pub unasked : 1 ≤ r.number → b.tariff ≡ a.tariff

-- an account keeps the law of a history
abbrev pub Keeps : {T : Type 0} (mean : T → Tariff) (h : List Call) (a : Account T) → Type 0
Keeps mean h a = Law (mean a.tariff) (opening_of a) h (state_of a)

-- a call by the law: b is opened as a was, over the same memory (Same); and whatever history a keeps the law of, b keeps
-- the law of it with this call, which was answered as the history has it
pub record LawfulAfter {T : Type 0} (mean : T → Tariff) (a b : Account T) (c : Call) (r : Answer) : Type 0 where
  pub same : Same mean a b
  pub law : (h : List Call) → Keeps mean h a → Keeps mean (c ∷ h) b
  pub answer : (h : List Call) → Keeps mean h a → r ≡ answer_to (mean a.tariff) (opening_of a) h c

abbrev pub opened_over : (day : ℕ) → List Row → List Line → Opening
opened_over day sheet journal = record { day = day; sheet = length sheet; journal = length journal }

-- an account just opened keeps the law of no calls; the memory that it was lent is as it was
pub record Opened {T : Type 0} (mean : T → Tariff) (a : Account T) (t : T) (day : ℕ) (sheet : List Row) (journal : List Line) : Type 0 where
  pub tariff : a.tariff ≡ t
  pub law : Keeps mean [] a
  pub opening : opening_of a ≡ opened_over day sheet journal
  pub rows : a.sheet.memory.now ≡ sheet
  pub lines : a.journal.memory.now ≡ journal

-- it is over the very slices that it was lent
pub record OverSlices {T : Type 0} (a : Account T) (sheet : MutBor (List Row)) (journal : MutBor (List Line)) : Type 0 where
  pub rows : a.sheet.memory.ghost_name ≡ sheet.ghost_name
  pub lines : a.journal.memory.ghost_name ≡ journal.ghost_name
