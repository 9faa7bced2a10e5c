-- The questions before a call is accepted.
use Rattle.std.specs.Prelude.{◌≡◌, ℕ, zero, suc, ◌+◌, ◌-◌, min, Bool, true, false, cond, not, ◌&&◌, ◌||◌, List, [], ◌∷◌, ◌++◌, length, Some, None, Ok, Err, Option, Result, ◌==◌, nat_eq, nat_le, nat_lt}
use Rattle.rules.specs.Subject.{Registers, longest, Sort, Period, is_read, is_unmetered, unmetered, Cause, absent, under, over, stopped, altered, Side, consumer, supplier, Finding, Method, estimates, correcting, Call, take, hand_back, bill, estimate, correct, pay, Opening}
use Rattle.rules.specs.Laid.{next_day, is_late, unmetered_by, in_span, rewritten, corrected}

-- a hold, and the second from which another may take it over
pub record Hold : Type 0 where
  pub number : ℕ
  pub until : ℕ

-- what the questions are asked of: how many holds were granted, the one that stands, the periods, and how many journal lines are used
pub record Books : Type 0 where
  pub granted : ℕ
  pub holding : Option Hold
  pub periods : List Period
  pub used : ℕ

abbrev pub sheet_room : Opening → ℕ
sheet_room o = min o.sheet 120

abbrev pub journal_room : Opening → ℕ
journal_room o = min o.journal 1024

-- 1: the named hold stands
abbrev pub stands : Books → ℕ → Bool
stands b hold = elim b.holding [ Some h ↦ nat_eq h.number hold | None ↦ false ]

-- 2: the figures in limits
abbrev pub is_day : ℕ → Bool
is_day n = nat_le n 18262

abbrev pub is_reading : Registers → Bool
is_reading r = nat_le r.day 1000000 && nat_le r.peak 1000000 && nat_le r.demand 10000

abbrev pub is_payment : (cents : ℕ) → Bool
is_payment cents = nat_le 1 cents && nat_le cents 1000000000000

-- the time of a take, and its length
abbrev pub is_time : (now length : ℕ) → Bool
is_time now length = nat_le now 1000000000000 && (nat_le 1 length && nat_le length 86400)

-- 4: first to last has at least one day and no more than the longest period
abbrev pub is_term : (first last : ℕ) → Bool
is_term first last = nat_le first last && nat_le (last + 1 - first) longest

-- every period passes a test of its row and itself; the first of ps is in the row given
abbrev pub every : (ℕ → Period → Bool) → (row : ℕ) → List Period → Bool
every q row [] = true
every q row (p ∷ ps) = q row p && every q (suc row) ps

-- there is a period in this row, and it passes the test
abbrev pub row_is : (Period → Bool) → List Period → ℕ → Bool
row_is q [] row = false
row_is q (p ∷ ps) zero = q p
row_is q (p ∷ ps) (suc row) = row_is q ps row

abbrev pub has_day : ℕ → Period → Bool
has_day n p = nat_le p.first n && nat_le n p.last

-- 5: the span is in order, and its last row is billed
abbrev pub is_billed : Finding → List Period → Bool
is_billed f ps = nat_le f.first f.last && nat_lt f.last (length ps)

abbrev pub size : Finding → ℕ
size f = f.last + 1 - f.first

-- over how many bills an undercharge is spread
abbrev pub bills_of : Cause → ℕ → ℕ
bills_of absent rows = 6
bills_of altered rows = 1
bills_of c rows = rows

abbrev pub bills : Finding → ℕ
bills f = bills_of f.cause (size f)

abbrev pub of_sort : Cause → Sort → Bool
of_sort absent s = is_unmetered s
of_sort c s = is_read s

abbrev pub is_absent : Cause → Bool
is_absent absent = true
is_absent c = false

-- the row is just before the span, or just after it
abbrev pub adjoins : Finding → ℕ → Bool
adjoins f row = row + 1 == f.first || row == f.last + 1

-- a row of the span is of the cause's sort
abbrev pub sort_fits : Finding → ℕ → Period → Bool
sort_fits f row p = not (in_span f row) || of_sort f.cause p.sort

-- a row that adjoins is not unmetered
abbrev pub not_left_out : Finding → ℕ → Period → Bool
not_left_out f row p = not (adjoins f row) || not (unmetered p)

-- 6: the rows are of the cause's sort, and for absent no unmetered row that adjoins is left out
abbrev pub sorts_right : Finding → List Period → Bool
sorts_right f ps = every (sort_fits f) 0 ps && (not (is_absent f.cause) || every (not_left_out f) 0 ps)

-- 7: the rest of the cause's rule
abbrev pub span_right : Cause → Side → Finding → List Period → Bool
span_right absent s f ps = row_is (λ p. is_read p.sort) ps (f.last + 1)
span_right under consumer f ps = size f == 1 && row_is (has_day f.notice) ps f.first
span_right under supplier f ps = nat_le (size f) 3 && row_is (has_day f.notice) ps f.first
span_right over s f ps = f.ascertained && nat_le (size f) 12
span_right stopped s f ps = nat_le (size f) 12 && (f.ascertained || row_is (has_day f.notice) ps f.first)
span_right altered s f ps = cond f.ascertained (nat_le (size f) 12) (size f == 3 && row_is (has_day f.notice) ps (f.last + 1))

-- 9: every share is at most 1,000,000
abbrev pub shares_fit : Period → Bool
shares_fit p = nat_le p.standing.day 1000000 && nat_le p.standing.peak 1000000

abbrev pub all_fit : List Period → Bool
all_fit [] = true
all_fit (p ∷ ps) = shares_fit p && all_fit ps

-- so are those of the rows that a correction rewrites
abbrev pub corrected_fit : Finding → Method → List Period → Bool
corrected_fit f m ps = all_fit (rewritten f 0 (corrected f m 0 0 0 ps))

-- of an estimate, the questions about its method, which are not asked where the period is late in its run
abbrev pub share_asked : (late : Bool) (row first last : ℕ) → Method → List (ℕ × Bool)
share_asked late row first last m =
    (8, late || (m.serves estimates && m.fits estimates row row))
    ∷ (9, late || shares_fit (unmetered_by late first last m)) ∷ []

-- of a correction, those about its rows and its method
abbrev pub rows_asked : Finding → Method → List Period → List (ℕ × Bool)
rows_asked f m ps =
    (5, is_billed f ps)
    ∷ (6, sorts_right f ps)
    ∷ (7, span_right f.cause f.side f ps)
    ∷ (8, m.serves (correcting f.cause) && m.fits (correcting f.cause) f.first f.last)
    ∷ (9, corrected_fit f m ps) ∷ []

-- 11: no hold stands, or it has run out
abbrev pub is_free : Books → ℕ → Bool
is_free b now = elim b.holding [ Some h ↦ nat_le h.until now | None ↦ true ]

-- what the opening asks: is its day in limits?
abbrev pub opening_asked : (day : ℕ) → List (ℕ × Bool)
opening_asked day = (2, is_day day) ∷ []

-- the questions of each call by their numbers, in order, each with its answer
unfoldable pub asked : Opening → Books → Call → List (ℕ × Bool)
asked o b (take now length) =
    (2, is_time now length)
    ∷ (11, is_free b now)
    ∷ (12, nat_lt b.granted 4294967295) ∷ []
asked o b (hand_back hold) = (1, stands b hold) ∷ []
asked o b (bill hold last r) =
    (1, stands b hold)
    ∷ (2, is_day last && is_reading r)
    ∷ (3, nat_lt (length b.periods) (sheet_room o))
    ∷ (4, is_term (next_day o.day b.periods) last)
    ∷ (10, nat_le (b.used + 1) (journal_room o)) ∷ []
asked o b (estimate hold last m) =
    (1, stands b hold)
    ∷ (2, is_day last)
    ∷ (3, nat_lt (length b.periods) (sheet_room o))
    ∷ (4, is_term (next_day o.day b.periods) last)
    ∷ (share_asked (is_late b.periods) (length b.periods) (next_day o.day b.periods) last m
    ++ ((10, nat_le (b.used + 1) (journal_room o)) ∷ []))
asked o b (correct hold f m) =
    (1, stands b hold)
    ∷ (2, is_day f.notice)
    ∷ (rows_asked f m b.periods
    ++ ((10, nat_le (b.used + length (rewritten f 0 b.periods)) (journal_room o)) ∷ []))
asked o b (pay hold cents) =
    (1, stands b hold)
    ∷ (2, is_payment cents)
    ∷ (10, nat_le (b.used + 1) (journal_room o)) ∷ []

-- the number of the first no, or 0
abbrev pub first_no : List (ℕ × Bool) → ℕ
first_no [] = 0
first_no (q ∷ qs) = cond q.1 (first_no qs) q.0

-- 0 where the call is accepted, else the number of the question that refuses it
abbrev pub question : Opening → Books → Call → ℕ
question o b c = first_no (asked o b c)

-- where q is the number of the first no, or 0: all said yes and something is made, or the refusal has that number
abbrev pub AskedBy : {X E : Type 0} → (E → ℕ) → ℕ → (X → Type 0) → Result X E → Type 0
AskedBy number q made (Ok x) = (q ≡ 0) × made x
AskedBy number q made (Err e) = q ≡ number e
