use Rattle.std.proofs.Common.{sym, refl, ◌∙◌}
use Rattle.std.proofs.lemmas.Bool.{ltb-true}
use Rattle.book.proofs.Room.{room_by_limit}
use Rattle.account.proofs.Calls.{place_said}
use Rattle.account.proofs.account.Account.sheet_takes.Goals as goal

pub returns-then-has_room : goal.returns-then-has_room
returns-then-has_room g c =
    let a = c.args.self.now in
    let said = sym (room_by_limit a.sheet) ∙ sym c.if-has_room.ensures in
    (place_said a ∙ said, ltb-true _ _ said)

pub returns-else-has_room : goal.returns-else-has_room
returns-else-has_room g c =
    let a = c.args.self.now in
    (place_said a ∙ sym (room_by_limit a.sheet) ∙ sym c.if-has_room.ensures, refl)
