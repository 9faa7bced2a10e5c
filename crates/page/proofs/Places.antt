-- What is written in its places. Assumes nothing.
use Rattle.std.proofs.Common.{◌≡◌, ℕ, ◌+◌, List, ◌++◌, length, take, drop, sym, ap, ◌∙◌, arith}
use Rattle.std.proofs.Math.Seq.{take-add}
use Rattle.std.proofs.lemmas.List.{take_at}

-- these n items stand right after the first i, and nothing before them has changed
pub placed : (before after items : List ℕ) (start i n : ℕ) → take start after ≡ take start before → drop start after ≡ items ++ drop (i + n) before → start + length items ≡ i + n → length items ≡ n → take (i + n) after ≡ take i before ++ items
placed before after items start i n same written ends long =
    let e : start ≡ i = omega arith in
    take-add i n after
    ∙ ap (λ x. take x after ++ take n (drop x after)) (sym e)
    ∙ ap (λ x. x ++ take n (drop start after)) same
    ∙ ap (λ x. take start before ++ take n x) written
    ∙ ap (λ x. take start before ++ x) (take_at items (drop (i + n) before) n long)
    ∙ ap (λ x. take x before ++ items) e
