use Rattle.std.proofs.Common.{ℕ, ◌^◌, ◌<◌, ◌≤◌, arith, lit<}
use native.Mathlib.Nat.{pow-le-pow_right}
use Rattle.events.proofs.figure.U64FromField.from_field.Goals as goal

-- twelve digits leave room for one more
room : (v i : ℕ) → v < 10 ^ i → i < 13 → v < 10 ^ 12
room v i small more =
    let at_most : i ≤ 12 = omega arith in
    let power : 10 ^ i ≤ 10 ^ 12 = pow-le-pow_right {n = 10} (lit< tt) at_most in
    omega arith

pub overflow_mul-number : goal.overflow_mul-number
overflow_mul-number c = omega (arith, room _ _ c.loop-place.invariant.small (omega arith))

pub overflow_add-number : goal.overflow_add-number
overflow_add-number c = omega (arith, room _ _ c.loop-place.invariant.small (omega arith))
