-- The question that a figure out of its limits answers no. Assumes nothing.
use Rattle.std.specs.Prelude.{ℕ}
use Rattle.figures.specs.declared.reported.OutOfLimits.{OutOfLimits}

abbrev pub number_of : OutOfLimits → ℕ
number_of _ = 2
