-- One line or field split off a text.
use Rattle.std.proofs.Common.{◌≡◌, ℕ, suc, ◌+◌, ◌<◌, true, false, cond, eqb, not, List, [], ◌∷◌, length, take, drop, Some, None, Option, Bor, refl, sym, ap, ◌∙◌, one-add, add-one, arith}
use Rattle.std.specs.Option.{unwrap_or}
use Rattle.std.specs.List.{onto_first, count_by, position_or_len, before_first, after_first, All}
use Rattle.std.proofs.lemmas.List.{drop_all, take_all}
use Rattle.std.proofs.lemmas.List.Sums.{fails_before_first}
use Rattle.std.proofs.lemmas.List.Splits.{slice_split_none, slice_split_first, length-slice_split}
use Rattle.events.specs.FieldsLeft.{fields_from}
use Rattle.events.specs.Lines.{lines, fields, placed}
use Rattle.events.specs.Parted.{Behind}

onto_line : (c : ℕ) (text : List ℕ) (n : ℕ) → lines text ≡ take n text ∷ lines (drop (n + 1) text) → onto_first c (lines text) ≡ take (1 + n) (c ∷ text) ∷ lines (drop (1 + n + 1) (c ∷ text))
onto_line c text n e = simp (one-add, add-one) (ap (onto_first c) (simp add-one at e))

-- the first line of a text that has one, and the lines after it
lines_first : (text : List ℕ) → 0 < length text → lines text ≡ before_first (λ b. eqb b 10) text ∷ lines (after_first (λ b. eqb b 10) text)
lines_first [] h = absurd (omega arith)
lines_first (c ∷ []) h =
    elim (eqb c 10) as (λ v. cond v ([] ∷ []) (onto_first c []) ≡ take (cond (not v) 1 0) (c ∷ []) ∷ lines (drop (cond (not v) 1 0 + 1) (c ∷ []))) [ true ↦ refl | false ↦ refl ]
lines_first (c ∷ d ∷ cs) h =
    let ih = lines_first (d ∷ cs) (omega arith) in
    let n : ℕ = position_or_len (λ b. eqb b 10) (d ∷ cs) in
    elim (eqb c 10) as (λ v. cond v ([] ∷ lines (d ∷ cs)) (onto_first c (lines (d ∷ cs))) ≡ take (cond (not v) (1 + n) 0) (c ∷ d ∷ cs) ∷ lines (drop (cond (not v) (1 + n) 0 + 1) (c ∷ d ∷ cs))) [ true ↦ refl | false ↦ onto_line c (d ∷ cs) n ih ]

behind_all : (b : ℕ) (text : List ℕ) (rest : Option (Bor (List ℕ))) (end : Bor (List ℕ)) → end.now ≡ [] → Behind b text rest → (unwrap_or rest end).now ≡ after_first (λ c. eqb c b) text
behind_all b text (Some rest) end e h = h.1
behind_all b text None end e h = e ∙ sym (drop_all _ text (omega arith))

pub lines_next : (text : List ℕ) (rest : Option (Bor (List ℕ))) (end : Bor (List ℕ)) → 0 < length text → end.now ≡ [] → Behind 10 text rest → lines text ≡ before_first (λ b. eqb b 10) text ∷ lines (unwrap_or rest end).now
lines_next text rest end some e h = rw (behind_all 10 text rest end e h) (lines_first text some)

no_mark : (b : ℕ) (text : List ℕ) → position_or_len (λ c. eqb c b) text ≡ length text → All (λ c. eqb c b ≡ false) text
no_mark b text h k d inside = fails_before_first (λ c. eqb c b) text k d (omega arith)

-- the first field of what is left of a line, and the fields after it
pub fields_next : (column : ℕ) (line first : List ℕ) (rest : Option (Bor (List ℕ))) → first ≡ before_first (λ b. eqb b 44) line → Behind 44 line rest → placed column (fields line) ≡ (column, first) ∷ fields_from (column + (length first + 1)) rest
fields_next column line first (Some rest) is h =
    rw (is, h.1) (ap (placed column) (slice_split_first (λ b. eqb b 44) line 0 h.0))
fields_next column line first None is h =
    let one : fields line ≡ first ∷ [] =
    slice_split_none (λ b. eqb b 44) line (no_mark 44 line h) ∙ ap (λ l. l ∷ []) (sym (take_all _ line (omega arith)) ∙ ap (λ n. take n line) (sym h) ∙ sym is) in
    ap (placed column) one

pub length-placed : (column : ℕ) (fs : List (List ℕ)) → length (placed column fs) ≡ length fs
length-placed column [] = refl
length-placed column (f ∷ fs) = ap (λ n. suc n) (length-placed (column + (length f + 1)) fs)

pub some_left : (column : ℕ) (left : Option (Bor (List ℕ))) (line : Bor (List ℕ)) → left ≡ Some line → length (fields_from column left) ≡ count_by (λ b. eqb b 44) line.now + 1
some_left column left line is =
    rw is (length-placed column (fields line.now) ∙ length-slice_split (λ b. eqb b 44) line.now)
