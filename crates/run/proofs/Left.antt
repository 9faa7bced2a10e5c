-- What a run leaves in the memory, once its account is closed.
use Rattle.std.proofs.Common.{◌≡◌, ℕ, List, [], map, length, take, drop, ℤ, Some, Option, sym, ap, ap₂, ◌∙◌, subst, arith}
use Rattle.rules.specs.Subject.{Tariff, Call, Opening}
use Rattle.rules.specs.Questions as rules
use Rattle.rules.specs.Shown as show
use Rattle.rules.specs.Law.{Law}
use Rattle.figures.specs.View.{seen, line_seen}
use Rattle.figures.specs.declared.row.Row.{Row}
use Rattle.figures.specs.declared.line.Line.{Line}
use Rattle.account.specs.Bounds as sums
use Rattle.account.specs.declared.account.Account.{Account}
use Rattle.account.specs.State.{hold_of, state_of, opened_over, Opened}
use Rattle.account.proofs.Calls.{rows_length, lines_length}
use Rattle.run.specs.declared.keep.Kept.{Kept}
use Rattle.run.specs.Runs.{onto, answers_to, Follows, left_in, Left}

-- what an account answers when it is asked for all that is kept
pub record Shown {T : Type 0} (b : Account T) (k : Kept) : Type 0 where
  pub granted : k.granted ≡ (state_of b).granted
  pub hold : hold_of k.hold ≡ (state_of b).holding
  pub balance : k.balance.0 ≡ (state_of b).balance
  pub due : k.due.0 ≡ (state_of b).due
  pub coming : map sums.seen k.coming.places ≡ (state_of b).coming
  pub rows : k.rows ≡ length (state_of b).rows
  pub lines : k.lines ≡ length (state_of b).lines

abbrev left_of : ℕ → Option rules.Hold → ℤ → ℤ → List show.Instalment → List show.Row → List show.Line → show.State
left_of granted holding balance due coming rows lines = record { granted = granted; holding = holding; rows = rows; lines = lines; balance = balance; due = due; coming = coming }

-- then the account is what is kept, with its memory
left_is : {T : Type 0} (b : Account T) (k : Kept) → Shown b k → left_in k b.sheet.memory.now b.journal.memory.now ≡ state_of b
left_is b k s =
    let rows = b.sheet.memory.now in
    let lines = b.journal.memory.now in
    let a = state_of b in
    ap₂ (λ x y. left_of x y k.balance.0 k.due.0 (map sums.seen k.coming.places) (map seen (take k.rows rows)) (map line_seen (take k.lines lines))) s.granted s.hold
    ∙ ap₂ (λ x y. left_of a.granted a.holding x y (map sums.seen k.coming.places) (map seen (take k.rows rows)) (map line_seen (take k.lines lines))) s.balance s.due
    ∙ ap (λ x. left_of a.granted a.holding a.balance a.due x (map seen (take k.rows rows)) (map line_seen (take k.lines lines))) s.coming
    ∙ ap₂ (λ x y. left_of a.granted a.holding a.balance a.due a.coming (map seen (take x rows)) (map line_seen (take y lines))) (s.rows ∙ rows_length b) (s.lines ∙ lines_length b)

-- an account that was just opened, then made these calls, and is closed over its memory
pub left_by : {T : Type 0} (mean : T → Tariff) (a b : Account T) (t : T) (day : ℕ) (sheet : List Row) (journal : List Line) (cs : List Call) (rs : List (Option show.Answer)) (k : Kept) (rows : List Row) (lines : List Line) →
    Opened mean a t day sheet journal → Follows mean a b cs rs → Shown b k → rows ≡ b.sheet.memory.now → lines ≡ b.journal.memory.now → Left (mean t) day sheet rows journal lines cs rs k
left_by mean a b t day sheet journal cs rs k rows lines opened follows shown in_rows in_lines =
    let o = opened_over day sheet journal in
    let h = onto [] cs in
    let s = follows [] opened.law in
    let opening = s.same.opening ∙ opened.opening in
    let tariff = s.same.tariff ∙ ap mean opened.tariff in
    let law : Law (mean t) o h (state_of b) = subst (λ (x : Tariff). Law x o h (state_of b)) tariff (subst (λ (x : Opening). Law (mean b.tariff) x h (state_of b)) opening s.law) in
    let i : k.rows ≡ b.sheet.filled = shown.rows ∙ rows_length b in
    let j : k.lines ≡ b.journal.filled = shown.lines ∙ lines_length b in
    let in_sheet = b.sheet.within_memory in
    let in_journal = b.journal.within_memory in
    let left = subst (Law (mean t) o h) (sym (left_is b k shown)) law in
    record {
      law = subst (λ x. Law (mean t) o h (left_in k x lines)) (sym in_rows) (subst (λ y. Law (mean t) o h (left_in k b.sheet.memory.now y)) (sym in_lines) left);
      answers = s.answers ∙ ap₂ (λ (x : Tariff) (y : Opening). map Some (answers_to x y [] cs)) (ap mean opened.tariff) opened.opening;
      rows = omega (arith, i, ap length in_rows, in_sheet);
      lines = omega (arith, j, ap length in_lines, in_journal);
      sheet_past = ap₂ drop i in_rows ∙ s.same.sheet_past ∙ ap₂ drop (sym i) opened.rows;
      journal_past = ap₂ drop j in_lines ∙ s.same.journal_past ∙ ap₂ drop (sym j) opened.lines;
    }
