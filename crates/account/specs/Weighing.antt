-- How heavy rows can be: what keeps the sums of the sharing rule small. Assumes nothing.
use Rattle.std.specs.Prelude.{◌≡◌, ℕ, ◌*◌, ◌≤◌}
use Rattle.rules.specs.Subject.{Method, day_units, peak_units}
use Rattle.rules.specs.Sharing.{whole}
use Rattle.account.specs.declared.sheet.laying.Sharing.{Sharing}

-- V day weight and W peak weight are no more than n rows can have together
pub record Weighed (m : Method) (n V W : ℕ) : Type 0 where
  pub day : V ≤ 1000000000 * n
  pub peak : W ≤ 1000000000 * n
  pub day_product : V * m.upper day_units ≤ 10000000000000000 * n
  pub peak_product : W * m.upper peak_units ≤ 10000000000000000 * n

-- v and w are no more than one row can have
abbrev pub Light : Method → (v w : ℕ) → Type 0
Light m v w = Weighed m 1 v w

-- the running wholes are those of the running weights
pub record Whole (m : Method) (s : Sharing) : Type 0 where
  pub day : s.wholes.day.0 ≡ whole (m.upper day_units) m.lower s.weights.day
  pub peak : s.wholes.peak.0 ≡ whole (m.upper peak_units) m.lower s.weights.peak
