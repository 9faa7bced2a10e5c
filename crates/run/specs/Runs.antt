-- Whole runs of an account: calls made one after another, what they are answered, and what they leave.
-- A history has its newest call first; a list of calls to be made has its oldest first.
use Rattle.std.specs.Prelude.{◌≡◌, ℕ, ◌≤◌, List, [], ◌∷◌, map, length, take, drop, Some, Option}
use Rattle.rules.specs.Subject.{Tariff, Call, Opening}
use Rattle.rules.specs.Shown.{State, Answer}
use Rattle.rules.specs.Law.{Law, answer_to}
use Rattle.figures.specs.View.{seen, line_seen}
use Rattle.figures.specs.declared.row.Row.{Row}
use Rattle.figures.specs.declared.line.Line.{Line}
use Rattle.account.specs.Bounds as sums
use Rattle.account.specs.declared.account.Account.{Account}
use Rattle.account.specs.State.{hold_of, opening_of, opened_over, OverTheSame, Same, Keeps}
use Rattle.run.specs.declared.keep.Kept.{Kept}

-- the history with more calls made after it
abbrev pub onto : List Call → List Call → List Call
onto h [] = h
onto h (c ∷ cs) = onto (c ∷ h) cs

-- what these calls are answered after a history: each as the history of the calls before it gives
abbrev pub answers_to : Tariff → Opening → (h cs : List Call) → List Answer
answers_to t o h [] = []
answers_to t o h (c ∷ cs) = answer_to t o h c ∷ answers_to t o (c ∷ h) cs

-- the answers written beside these calls, made after the history, are those
abbrev pub AllAnswered : Tariff → Opening → (h cs : List Call) → List (Option Answer) → Type 0
AllAnswered t o h cs rs = rs ≡ map Some (answers_to t o h cs)

module _ {T : Type 0} (mean : T → Tariff) where
  -- b, the account after these calls, keeps the law of the history with them; each was answered as the calls before it
  -- have it; and b is opened as a was, over the same memory
  pub record Served (a b : Account T) (h cs : List Call) (rs : List (Option Answer)) : Type 0 where
    pub law : Keeps mean (onto h cs) b
    pub answers : AllAnswered (mean a.tariff) (opening_of a) h cs rs
    pub same : Same mean a b

  -- so it is for every history that a keeps the law of
  abbrev pub Follows : (a b : Account T) (cs : List Call) → List (Option Answer) → Type 0
  Follows a b cs rs = (h : List Call) → Keeps mean h a → Served a b h cs rs

  -- b is opened as a was, its tariff means what a's does, and it is over the same memory: it asks for no history of a
  pub record OpenedAlike (a b : Account T) : Type 0 where
    pub opening : opening_of b ≡ opening_of a
    pub tariff : mean b.tariff ≡ mean a.tariff
    pub memory : OverTheSame a b

-- the account that a run leaves, by what it returned and the filled places of a sheet and a journal
abbrev pub left_in : Kept → List Row → List Line → State
left_in k sheet journal = record {
  granted = k.granted;
  holding = hold_of k.hold;
  rows = map seen (take k.rows sheet);
  lines = map line_seen (take k.lines journal);
  balance = k.balance.0;
  due = k.due.0;
  coming = map sums.seen k.coming.places;
}

-- these calls were made over a sheet and a journal, each given with what stands in it at the end: the account that
-- is left keeps the law of the calls, each call has its answer, and past the filled places stands what stood there
pub record Left (t : Tariff) (day : ℕ) (sheet sheet_left : List Row) (journal journal_left : List Line)
    (cs : List Call) (rs : List (Option Answer)) (k : Kept) : Type 0 where
  pub law : Law t (opened_over day sheet journal) (onto [] cs) (left_in k sheet_left journal_left)
  pub answers : AllAnswered t (opened_over day sheet journal) [] cs rs
  pub rows : k.rows ≤ length sheet_left
  pub lines : k.lines ≤ length journal_left
  pub sheet_past : drop k.rows sheet_left ≡ drop k.rows sheet
  pub journal_past : drop k.lines journal_left ≡ drop k.lines journal
