-- Methods that ask and give the same are the same: their limits add nothing to what they are. Assumes nothing.
use Rattle.std.proofs.Common.{◌≡◌, ℕ, ◌*◌, ◌≤◌}
use mathlib.Core.HLevel.{is_prop→PathP, Π_prop}
use native.Mathlib.Bridge.{le_prop}
use Rattle.rules.specs.Subject.{Registers, InLimits, Register, longest, Method}

pub same_method : (s t : Method) → s.serves ≡ t.serves → s.fits ≡ t.fits → s.upper ≡ t.upper → s.lower ≡ t.lower → s.weight ≡ t.weight → s.demand ≡ t.demand → s ≡ t
same_method s t serves fits upper lower weight demand i = record {
  serves = serves i;
  fits = fits i;
  upper = upper i;
  lower = lower i;
  weight = weight i;
  demand = demand i;
  lower_least = is_prop→PathP (λ j. 1 ≤ lower j) (λ j. le_prop) s.lower_least t.lower_least i;
  lower_most = is_prop→PathP (λ j. lower j ≤ 1000000000) (λ j. le_prop) s.lower_most t.lower_most i;
  upper_most =
      is_prop→PathP (λ j. (k : Register) → upper j k ≤ 10000000000000000) (λ j. Π_prop (λ k. le_prop)) s.upper_most t.upper_most i;
  weight_most =
      is_prop→PathP (λ j. (k : Register) (days : ℕ) (r : Registers) → days ≤ longest → InLimits r → weight j k days r ≤ 1000000000)
      (λ j. Π_prop (λ k. Π_prop (λ days. Π_prop (λ r. Π_prop (λ d. Π_prop (λ l. le_prop)))))) s.weight_most t.weight_most i;
  product_most =
      is_prop→PathP (λ j. (k : Register) (days : ℕ) (r : Registers) → days ≤ longest → InLimits r → weight j k days r * upper j k ≤ 10000000000000000)
      (λ j. Π_prop (λ k. Π_prop (λ days. Π_prop (λ r. Π_prop (λ d. Π_prop (λ l. le_prop)))))) s.product_most t.product_most i;
  demand_most =
      is_prop→PathP (λ j. (days : ℕ) (r : Registers) → days ≤ longest → InLimits r → demand j days r ≤ 10000)
      (λ j. Π_prop (λ days. Π_prop (λ r. Π_prop (λ d. Π_prop (λ l. le_prop))))) s.demand_most t.demand_most i;
}
