-- Weights of more and more rows. Assumes nothing.
use Rattle.std.proofs.Common.{◌≡◌, ℕ, ◌+◌, ◌≤◌, sym, subst, add-mul, zero-mul, arith}
use Rattle.rules.specs.Subject.{Method, day_units, peak_units}
use Rattle.account.specs.Weighing.{Weighed, Light}

module _ (m : Method) where
  pub weighed_none : Weighed m 0 0 0
  weighed_none = record { day = omega arith; peak = omega arith; day_product = omega (arith, zero-mul (m.upper day_units)); peak_product = omega (arith, zero-mul (m.upper peak_units)) }

  pub weighed_most : (n V W k : ℕ) → n ≤ k → Weighed m n V W → Weighed m k V W
  weighed_most n V W k h w = record { day = omega (arith, w.day); peak = omega (arith, w.peak); day_product = omega (arith, w.day_product); peak_product = omega (arith, w.peak_product) }

  pub weighed_more : (n V W v w : ℕ) → Weighed m n V W → Light m v w → Weighed m (n + 1) (V + v) (W + w)
  weighed_more n V W v w a b = record {
    day = omega (arith, a.day, b.day);
    peak = omega (arith, a.peak, b.peak);
    day_product = omega (arith, a.day_product, b.day_product, add-mul V v (m.upper day_units));
    peak_product = omega (arith, a.peak_product, b.peak_product, add-mul W w (m.upper peak_units));
  }

  pub weighed_same : (n V W V' W' : ℕ) → V' ≡ V → W' ≡ W → Weighed m n V W → Weighed m n V' W'
  weighed_same n V W V' W' a b h =
      let P : ℕ → Type 0 = λ z. Weighed m n z W in
      let Q : ℕ → Type 0 = λ z. Weighed m n V' z in
      subst Q (sym b) (subst P (sym a) h)
