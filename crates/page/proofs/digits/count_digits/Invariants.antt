use Rattle.std.proofs.Common.{◌+◌, ◌≡◌, length, decimal}
use Rattle.page.proofs.digits.count_digits.Given as goal

abbrev pub invariant-loop-left : goal.invariant-loop-left
invariant-loop-left l = l.cut + length (decimal l.left) ≡ length (decimal l.n)

abbrev pub decreases-loop-left : goal.decreases-loop-left
decreases-loop-left l = l.left
