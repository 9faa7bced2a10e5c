-- What a walk over a text has yet to hand out. Assumes nothing.
use Rattle.std.specs.Prelude.{ℕ, List}
use Rattle.events.specs.declared.lines.Reader.{Reader}
use Rattle.events.specs.Lines.{lines}

abbrev pub lines_left : Reader → List (List ℕ)
lines_left r = lines r.rest.now
