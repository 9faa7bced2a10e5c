-- What the work of an accepted call needs and leaves: for the proofs of calls, whose promises are in State. Assumes nothing.
use Rattle.std.specs.Prelude.{◌≡◌, ◌+◌, ◌<◌, ◌≤◌, List, length, drop}
use Rattle.rules.specs.Subject.{Tariff}
use Rattle.rules.specs.Shown as show
use Rattle.book.specs.Pages.{pages_of}
use Rattle.account.specs.Lines.{Grown}
use Rattle.account.specs.Rows.{rows_of}
use Rattle.account.specs.Sums.{Amounts, amounts_of}
use Rattle.account.specs.declared.account.Account.{Account}
use Rattle.account.specs.State.{OverTheSame}

-- sheet and journal each have a place
pub record Roomy {T : Type 0} (a : Account T) : Type 0 where
  pub sheet : a.sheet.filled < a.sheet.limit
  pub journal : a.journal.filled + 1 ≤ a.journal.limit

-- b is a with these rows, these lines more and these sums; its holds and its tariff's meaning are the same, and past the filled parts nothing is changed
pub record Changed {T : Type 0} (mean : T → Tariff) (a b : Account T) (rs : List show.Row) (ls : List show.Line) (t : Amounts) : Type 0 where
  pub granted : b.granted ≡ a.granted
  pub holding : b.holding ≡ a.holding
  pub day : b.opening.figure ≡ a.opening.figure
  pub tariff : mean b.tariff ≡ mean a.tariff
  pub rows : rows_of (pages_of b.sheet) ≡ rs
  pub sheet_size : length b.sheet.memory.now ≡ length a.sheet.memory.now
  pub sheet_past : drop b.sheet.filled b.sheet.memory.now ≡ drop b.sheet.filled a.sheet.memory.now
  pub journal : Grown (pages_of a.journal) (pages_of b.journal) ls
  pub sums : amounts_of b.sums ≡ t
  pub memory : OverTheSame a b
