-- What three rows are reckoned to. Assumes nothing.
use Rattle.std.specs.Prelude.{◌≡◌, ℕ, true, false, List, Option, MatchOption}
use Rattle.rules.specs.Subject.{day_units, peak_units, Period}
use Rattle.method.specs.declared.three_rows.ThreeRows.{ThreeRows}
use Rattle.method.specs.Three.{are_three, units_of, days_of, average_of}

pub record Reckoned (t : ThreeRows) (ps : List Period) : Type 0 where
  pub day : t.day.0 ≡ units_of day_units ps
  pub peak : t.peak.0 ≡ units_of peak_units ps
  pub days : t.days ≡ days_of ps
  pub demand : t.demand.figure.0 ≡ average_of ps

-- the periods reckoned together, where they are three that were read; the first of them is row f
abbrev pub ReckonedFrom : (f : ℕ) → List Period → Option ThreeRows → Type 0
ReckonedFrom f ps r = MatchOption r (are_three ps ≡ false) (λ t. (are_three ps ≡ true) × (t.from ≡ f) × Reckoned t ps)
