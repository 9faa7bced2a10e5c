-- Where the kit's search finds a byte. Assumes nothing.
use Rattle.std.proofs.Common.{◌≡◌, ℕ, ◌<◌, eqb, List, length, Some, None, arith}
use Rattle.std.specs.List.{position_or_len}
use Rattle.std.proofs.lemmas.Bool.{false_from_ne_true}
use Rattle.std.proofs.lemmas.List.Sums.{position_or_len_is}
use Rattle.memchr.specs.Find.{IsFirstByte, is_byte}

pub found_some : (mark : ℕ) (text : List ℕ) (k : ℕ) → IsFirstByte (is_byte mark) text (Some k) → (position_or_len (λ b. eqb b mark) text ≡ k) × (k < length text)
found_some mark text k h =
    let high = h.0.high in
    (position_or_len_is (λ b. eqb b mark) text k 0 (omega arith) (λ j less. false_from_ne_true _ (h.0.before j (omega arith) less)) (λ inside. h.1), high)

pub found_none : (mark : ℕ) (text : List ℕ) → IsFirstByte (is_byte mark) text None → position_or_len (λ b. eqb b mark) text ≡ length text
found_none mark text h =
    position_or_len_is (λ b. eqb b mark) text (length text) 0 (omega arith) (λ j less. false_from_ne_true _ (h j (omega arith) less)) (λ inside. absurd (omega arith))
