use Rattle.std.proofs.Common.{◌≡◌, ◌∷◌, [], map, take}
use Rattle.std.proofs.lemmas.List.{take_all}
use Rattle.page.proofs.Steps.{◌then◌, risen, spelled_as, item_stopped}
use Rattle.events.specs.Writing.{text_of}
use Rattle.events.proofs.Joined.{line_joined}
use Rattle.events.proofs.write.put_line.Goals as goal

pub returns-in_err-write : goal.returns-in_err-write
returns-in_err-write c =
    risen c.from_residual-in_err-write.ensures.0
    (spelled_as (line_joined (c.args.letter ∷ []) (map text_of c.args.fields.now))
    (c.in_ok-push.ensures.after
    then item_stopped (λ t. 44 ∷ t) text_of _ c.loop-field.field-index _ c.loop-field-test.true (10 ∷ []) c.loop-field.invariant c.in_err-write.ensures))

pub returns : goal.returns
returns c =
    let all : take c.loop-field.field-index c.args.fields.now ≡ c.args.fields.now = take_all c.loop-field.field-index c.args.fields.now c.loop-field-test.false in
    spelled_as (line_joined (c.args.letter ∷ []) (map text_of c.args.fields.now))
    (c.in_ok-push.ensures.after then ((rw all at c.loop-field.invariant) then c.push-2.ensures.after))
