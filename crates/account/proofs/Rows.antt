-- Rows entered into the sheet. Assumes nothing.
use Rattle.std.proofs.Common.{◌≡◌, ℕ, ◌+◌, ◌-◌, ◌<◌, ◌≤◌, true, List, [], ◌∷◌, ◌++◌, map, length, get_or, take, drop, ℤ, pos, Some, sym, refl, ap, ◌∙◌, ap₂, arith}
use Rattle.std.proofs.lemmas.List.{take_all, take_more, take_more_set, map_push, length-set, drop-set-lt}
use Rattle.rules.specs.Shown.{State}
use Rattle.rules.specs.Subject.{Registers, Period, Tariff, charge_on}
use Rattle.rules.specs.Laid.{next_day, run, metered}
use Rattle.account.specs.Few.{may_stand, six_at_most}
use Rattle.rules.specs.Shown as show
use Rattle.rules.specs.Machine.{period_of, bill_row}
use Rattle.account.proofs.Spans.{six_push}
use Rattle.book.specs.Pages.{Pages, pages_of, written}
use Rattle.figures.specs.View.{seen, period_seen}
use Rattle.figures.specs.declared.row.Row.{Row}
use Rattle.account.specs.Rows.{rows_of}
use Rattle.account.specs.Sums.{amounts_of, billed_by}
use Rattle.account.specs.declared.account.Account.{Account}
use Rattle.account.specs.State.{state_of}
use Rattle.account.proofs.Calls.{rows_length, made}

next_push : (d : ℕ) (ps : List Period) (p : Period) → next_day d (ps ++ (p ∷ [])) ≡ p.last + 1
next_push d [] p = refl
next_push d (q ∷ ps) p = next_push (q.last + 1) ps p

-- the day after the last row's
pub next_is : (d : ℕ) (rows : List Row) (x : Row) → 1 ≤ length rows → x ≡ get_or rows (length rows - 1) x → x.term.last.figure + 1 ≡ next_day d (map period_of (map seen rows))
next_is d rows x one read =
    let n = length rows - 1 in
    let e : length rows ≡ n + 1 = omega arith in
    let t : rows ≡ take n rows ++ (x ∷ []) = sym (take_all (length rows) rows (omega arith)) ∙ ap (λ k. take k rows) e ∙ take_more rows n x (omega arith) ∙ ap (λ y. take n rows ++ (y ∷ [])) (sym read) in
    sym (ap (λ xs. next_day d (map period_of (map seen xs))) t
    ∙ ap (λ ps. next_day d (map period_of ps)) (map_push seen (take n rows) x)
    ∙ ap (next_day d) (map_push period_of (map seen (take n rows)) (seen x))
    ∙ next_push d (map period_of (map seen (take n rows))) (period_seen x))

-- one row more
pub rows_more : (p q : Pages Row) (x : Row) → p.filled < length p.memory → q ≡ written p x → rows_of q ≡ rows_of p ++ (seen x ∷ [])
rows_more p q x h e = ap rows_of e ∙ ap (map seen) (take_more_set p.memory p.filled x h) ∙ map_push seen (take p.filled p.memory) x

-- its run has still six estimated ones at most
pub runs_more : (old new : List show.Row) (r : show.Row) → new ≡ old ++ (r ∷ []) → six_at_most 0 (map period_of old) ≡ true → may_stand (run (map period_of old)) r.period ≡ true → six_at_most 0 (map period_of new) ≡ true
runs_more old new r e s h = ap (λ rs. six_at_most 0 (map period_of rs)) e ∙ ap (six_at_most 0) (map_push period_of old r) ∙ six_push 0 (map period_of old) r.period s h

pub size_more : {X : Type 0} (p q : Pages X) (x : X) → q ≡ written p x → length q.memory ≡ length p.memory
size_more p q x e = ap (λ z. length z.memory) e ∙ length-set p.memory p.filled x

pub past_by : {X : Type 0} (p q : Pages X) (x : X) → q ≡ written p x → drop q.filled q.memory ≡ drop q.filled p.memory
past_by p q x e =
    ap (λ z. drop z.filled z.memory) e ∙ drop-set-lt (p.filled + 1) p.memory p.filled x (omega arith) ∙ sym (ap (λ z. drop z.filled p.memory) e)

abbrev pub bill_line : (hold row : ℕ) → ℤ → show.Line
bill_line hold row cents = record { hold = hold; letter = show.B; row = Some row; cents = cents }

abbrev pub billed_more : {T : Type 0} → Account T → (hold row : ℕ) → show.Row → State
billed_more a hold place r = made a (rows_of (pages_of a.sheet) ++ (r ∷ [])) (bill_line hold place (pos r.cents) ∷ []) (billed_by (amounts_of a.sums) r.cents)

-- a row entered is what a bill or an estimate does
pub entered_is : {T : Type 0} (t : Tariff) (a : Account T) (hold hold' : ℕ) (r : show.Row) (p : Period) → hold ≡ hold' → r ≡ show.row_of t p → billed_more a hold a.sheet.filled r ≡ bill_row t (state_of a) hold' p
entered_is t a hold hold' r p h e = ap₂ (λ k x. billed_more a k a.sheet.filled x) h e ∙ ap (λ n. billed_more a hold' n (show.row_of t p)) (sym (rows_length a))

abbrev pub rowed : (first last : ℕ) → Registers → ℕ → show.Row
rowed first last r cents = record { period = metered first last r; cents = cents }

-- a row that is read
pub read_row : (t : Tariff) (first last : ℕ) (r : Registers) (cents first' last' : ℕ) (r' : Registers) → first ≡ first' → last ≡ last' → r ≡ r' → cents ≡ charge_on t last r → rowed first last r cents ≡ show.row_of t (metered first' last' r')
read_row t first last r cents first' last' r' a b c d = ap (rowed first last r) d ∙ ap₂ (λ x y. rowed x y r (charge_on t y r)) a b ∙ ap (λ z. rowed first' last' z (charge_on t last' z)) c
