use Rattle.std.proofs.Common.{◌≡◌, ◌+◌, length}
use Rattle.events.specs.Reads.{unused}
use Rattle.events.specs.Unread.{unread}
use Rattle.events.proofs.line_fields.LineFields.unused.Given as goal

abbrev pub invariant-loop : goal.invariant-loop
invariant-loop l = record {
  same : unused (unread l.fn.self) ≡ unused (unread l.self);
  left : length (unread l.fn.self) ≡ length (unread l.self) + l.counter;
}
