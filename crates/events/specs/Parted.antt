-- A text parted at a byte. Assumes nothing.
use Rattle.std.specs.Prelude.{◌≡◌, ℕ, ◌<◌, ◌==◌, List, length, Option, MatchOption}
use Rattle.std.specs.Borrow.{Bor}
use Rattle.std.specs.List.{position_or_len, after_first}

-- the rest of a text behind the first b, where there is one
abbrev pub Behind : (b : ℕ) → (text : List ℕ) → (rest : Option (Bor (List ℕ))) → Type 0
Behind b text rest = MatchOption rest
    (position_or_len (λ c. c == b) text ≡ length text)
    (λ r. (position_or_len (λ c. c == b) text < length text) × (r.now ≡ after_first (λ c. c == b) text))
