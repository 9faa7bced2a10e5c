-- What each call lays down, between the periods before it and those after it, and what then stands.
use Rattle.std.specs.Prelude.{◌≡◌, ℕ, ◌+◌, ◌-◌, ◌<◌, ◌≤◌, Bool, true, false, not, ◌&&◌, ◌||◌, List, [], ◌∷◌, ◌++◌, map, length, take as leading, drop, filter, slice_get, ◌==◌, nat_le}
use Rattle.rules.specs.Subject.{zeros, Register, units, read, estimated, no_energy, Period, days, is_estimated, Finding, Method, Call, bill, estimate, correct, Opening}
use Rattle.rules.specs.Sharing.{Shared}
use Rattle.rules.specs.Laid.{next_day}
use Rattle.rules.specs.Questions.{is_absent, row_is}
use Rattle.rules.specs.Given.{billed}

-- the estimates accepted since the last accepted bill
abbrev pub estimates_since_bill : List Call → ℕ
estimates_since_bill [] = 0
estimates_since_bill (bill hold last r ∷ calls) = 0
estimates_since_bill (estimate hold last m ∷ calls) = estimates_since_bill calls + 1
estimates_since_bill (c ∷ calls) = estimates_since_bill calls

-- rows stand in new as a method has it: of each register the units are shared by the sharing rule, in the order of the rows, and each row
-- has its demand; both rest on the days and the recorded registers in old
pub record ByMethod (m : Method) (old new : List Period) : Type 0 where
  pub shared : (k : Register) → Shared (m.upper k) m.lower (map (λ p. m.weight k (days p) p.recorded) old) (map (λ p. units k p.standing) new)
  pub demands : map (λ p. p.standing.demand) new ≡ map (λ p. m.demand (days p) p.recorded) old

-- one period more, on which nothing was recorded: each of the first six estimates since a bill stands as its method has it alone, and from
-- the seventh on without energy
pub record Unmetered (first last estimates : ℕ) (m : Method) (old new : List Period) : Type 0 where
  pub period : Period
  pub added : new ≡ old ++ (period ∷ [])
  pub begins : period.first ≡ first
  pub ends : period.last ≡ last
  pub recorded : period.recorded ≡ zeros
  pub six : estimates < 6 → (period.sort ≡ estimated) × ByMethod m (period ∷ []) (period ∷ [])
  pub seventh : 6 ≤ estimates → (period.sort ≡ no_energy) × (period.standing ≡ zeros)

-- the rows of a finding's span, and of them those that it lays down anew: for the cause absent the estimated ones
abbrev pub span_of : Finding → List Period → List Period
span_of f ps = leading (f.last + 1 - f.first) (drop f.first ps)

abbrev pub laid_anew : Finding → List Period → List Period
laid_anew f ps = filter (λ p. not (is_absent f.cause) || is_estimated p.sort) (span_of f ps)

-- a row is one of them
abbrev pub lays_anew : Finding → List Period → (row : ℕ) → Bool
lays_anew f ps row =
    (nat_le f.first row && nat_le row f.last) && (not (is_absent f.cause) || row_is (λ p. is_estimated p.sort) ps row)

-- a period without what stands for it: its days, its sort and what was recorded
abbrev pub without_standing : Period → Period
without_standing p = record p { standing = zeros }

-- a correction gives the rows that it lays down anew what its method gives them; every row keeps its days, its sort and what was
-- recorded, and every other row what stands for it too
pub record CorrectedBy (f : Finding) (m : Method) (old new : List Period) : Type 0 where
  pub anew : ByMethod m (laid_anew f old) (laid_anew f new)
  pub kept : map without_standing new ≡ map without_standing old
  pub others : (row : ℕ) → lays_anew f old row ≡ false → slice_get new row ≡ slice_get old row

-- what a call lays down, where the calls before it gave the periods old
abbrev pub LaysDown : Opening → Call → (before : List Call) → (old new : List Period) → Type 0
LaysDown o (bill hold last r) before old new =
    new ≡ old ++ (record { first = next_day o.day old; last = last; sort = read; recorded = r; standing = r } ∷ [])
LaysDown o (estimate hold last m) before old new = Unmetered (next_day o.day old) last (estimates_since_bill before) m old new
LaysDown o (correct hold f m) before old new = CorrectedBy f m old new
LaysDown o c before old new = new ≡ old

-- the same of an accepted call and the accepted calls before it
abbrev pub Lays : Opening → Call → List Call → Type 0
Lays o c before = LaysDown o c before (billed o before) (billed o (c ∷ before))

-- a call lays registers down for a row: a bill or an estimate for the one that it adds, a correction for those of its span
abbrev pub lays_for : Opening → Call → List Call → (row : ℕ) → Bool
lays_for o (bill hold last r) before row = row == length (billed o before)
lays_for o (estimate hold last m) before row = row == length (billed o before)
lays_for o (correct hold f m) before row = lays_anew f (billed o before) row
lays_for o c before row = false

-- none of the later calls, made after those before, lays registers down for the row
abbrev pub NoneLays : Opening → (row : ℕ) → (later before : List Call) → Type 0
NoneLays o row [] before = Unit
NoneLays o row (c ∷ later) before = (lays_for o c (later ++ before) row ≡ false) × NoneLays o row later before

-- a row stands as the newest accepted call that laid any registers down for it left it
pub record StandsAsLaid (o : Opening) (calls : List Call) (row : ℕ) : Type 0 where
  pub later : List Call
  pub call : Call
  pub before : List Call
  pub split : calls ≡ later ++ (call ∷ before)
  pub lays : lays_for o call before row ≡ true
  pub since : NoneLays o row later (call ∷ before)
  pub stands : slice_get (billed o calls) row ≡ slice_get (billed o (call ∷ before)) row
