use Rattle.std.proofs.Common.{◌≡◌, ◌+◌, ◌≤◌, ◌==◌, drop}
use Rattle.std.specs.List.{count_by}
use Rattle.events.proofs.fields.commas.Given as goal

abbrev pub invariant-loop-byte : goal.invariant-loop-byte
invariant-loop-byte l = record {
  few : l.count ≤ l.byte-index;
  value : l.count + count_by (λ b. b == 44) (drop l.byte-index l.rest) ≡ count_by (λ b. b == 44) l.rest;
}
