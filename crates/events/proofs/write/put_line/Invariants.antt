use Rattle.std.proofs.Common.{Ok, ◌∷◌, map, take}
use Rattle.std.specs.List.{flat_map}
use Rattle.page.specs.Writes.{Wrote}
use Rattle.events.specs.Writing.{text_of}
use Rattle.events.proofs.write.put_line.Given as goal

abbrev pub invariant-loop-field : goal.invariant-loop-field
invariant-loop-field l = Wrote l.initial.page l.page (Ok tt) (flat_map (λ t. 44 ∷ t) (map text_of (take l.field-index l.fields)))
