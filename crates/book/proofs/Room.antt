-- Where a book has room, and what an append does there. Assumes nothing.
use Rattle.std.proofs.Common.{◌≡◌, ◌<◌, true, ltb, arith}
use Rattle.std.proofs.lemmas.Bool.{cond-true}
use Rattle.std.proofs.lemmas.Bool.Decides.{nat_tests}
use Rattle.book.specs.declared.kept.Book.{Book}
use Rattle.book.specs.Pages.{pages_of, has_room, written, appended}

-- a book's room is what its limit leaves
pub room_by_limit : {T : Type 0} (b : Book T) → has_room (pages_of b) ≡ ltb b.filled b.limit
room_by_limit b = let w = b.within_memory in grind (arith, nat_tests)

roomy : {T : Type 0} (b : Book T) → b.filled < b.limit → has_room (pages_of b) ≡ true
roomy b h = let w = b.within_memory in grind (arith, nat_tests)

pub appended_room : {T : Type 0} (b : Book T) (x : T) → b.filled < b.limit → appended (pages_of b) x ≡ written (pages_of b) x
appended_room b x h = cond-true (has_room (pages_of b)) (written (pages_of b) x) (pages_of b) (roomy b h)
