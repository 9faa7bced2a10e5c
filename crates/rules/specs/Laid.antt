-- What a call lays down for the periods that it adds or rewrites.
use Rattle.std.specs.Prelude.{ℕ, suc, ◌+◌, Bool, true, cond, ◌&&◌, List, [], ◌∷◌, nat_le}
use Rattle.rules.specs.Subject.{Registers, zeros, day_units, peak_units, Sort, read, estimated, no_energy, Period, days, is_estimated, unmetered, Cause, absent, Finding, Method, day_weight, peak_weight}
use Rattle.rules.specs.Sharing.{share}

-- the day after the last one billed; the opening day where none is
abbrev pub next_day : ℕ → List Period → ℕ
next_day opening [] = opening
next_day opening (p ∷ ps) = next_day (p.last + 1) ps

-- how many unmetered periods a run has with p, where it has n before: it ends only at a period that is read
abbrev pub run_on : ℕ → Period → ℕ
run_on n p = cond (unmetered p) (n + 1) 0

-- and with the periods ps after those n
abbrev pub run_past : ℕ → List Period → ℕ
run_past n [] = n
run_past n (p ∷ ps) = run_past (run_on n p) ps

-- and at the end of ps
abbrev pub run : List Period → ℕ
run ps = run_past 0 ps

-- a method's share and demand for p, where the rows before it that it shares over weigh V and W together
abbrev pub laid : Method → (V W : ℕ) → Period → Registers
laid m V W p = record {
  day = share (m.upper day_units) m.lower V (day_weight m p);
  peak = share (m.upper peak_units) m.lower W (peak_weight m p);
  demand = m.demand (days p) p.recorded;
}

abbrev pub with_standing : Registers → Period → Period
with_standing r p = record p { standing = r }

-- a period that is read, at r
abbrev pub metered : (first last : ℕ) → Registers → Period
metered first last r = record { first = first; last = last; sort = read; recorded = r; standing = r }

abbrev pub blank : (first last : ℕ) → Sort → Period
blank first last s = record { first = first; last = last; sort = s; recorded = zeros; standing = zeros }

-- an unmetered period after the periods ps is the seventh of its run or later
abbrev pub is_late : List Period → Bool
is_late ps = nat_le 6 (run ps)

-- an unmetered period: the method's share for it alone, or zeros where it is late
abbrev pub unmetered_by : (late : Bool) (first last : ℕ) → Method → Period
unmetered_by late first last m =
    cond late (blank first last no_energy) (let p = blank first last estimated in with_standing (laid m 0 0 p) p)

-- the one after the periods ps
unfoldable pub without_reading : (first last : ℕ) → Method → List Period → Period
without_reading first last m ps = unmetered_by (is_late ps) first last m

abbrev pub in_span : Finding → ℕ → Bool
in_span f row = nat_le f.first row && nat_le row f.last

-- for the cause absent only the estimated rows are rewritten
abbrev pub rewrites_sort : Cause → Sort → Bool
rewrites_sort absent s = is_estimated s
rewrites_sort c s = true

abbrev pub rewrites : Finding → ℕ → Period → Bool
rewrites f row p = in_span f row && rewrites_sort f.cause p.sort

-- the rows that a correction rewrites, of the periods ps that begin at the row given
unfoldable pub rewritten : Finding → (row : ℕ) → List Period → List Period
rewritten f row [] = []
rewritten f row (p ∷ ps) = cond (rewrites f row p) (p ∷ rewritten f (suc row) ps) (rewritten f (suc row) ps)

-- the periods after a correction
unfoldable pub corrected : Finding → Method → (row V W : ℕ) → List Period → List Period
corrected f m row V W [] = []
corrected f m row V W (p ∷ ps) =
    cond (rewrites f row p)
    (with_standing (laid m V W p) p ∷ corrected f m (suc row) (V + day_weight m p) (W + peak_weight m p) ps)
    (p ∷ corrected f m (suc row) V W ps)
