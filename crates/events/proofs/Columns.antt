-- The columns at which the fields of a line begin. Assumes nothing.
use Rattle.std.proofs.Common.{◌≡◌, ℕ, ◌+◌, ◌<◌, ◌≤◌, Bool, true, false, cond, eqb, List, [], ◌∷◌, length, Some, None, Option, MatchOption, subst, arith}
use Rattle.std.specs.List.{All, onto_first}
use Rattle.std.proofs.lemmas.List.Elements.{All-nil, All-cons, All-head, All-tail}
use Rattle.events.specs.declared.fields.Field.{Field}
use Rattle.events.specs.Lines.{fields, placed}
use Rattle.events.specs.FieldsLeft.{placed_at}

-- how many columns fields take, a comma after each
abbrev pub after : List (List ℕ) → ℕ
after [] = 0
after (f ∷ fs) = length f + 1 + after fs

placed_below : (column n : ℕ) (fs : List (List ℕ)) → column + after fs ≤ n → All (λ f. f.0 < n) (placed column fs)
placed_below column n [] h = All-nil (λ (f : ℕ × List ℕ). f.0 < n)
placed_below column n (f ∷ fs) h =
    All-cons (λ (f : ℕ × List ℕ). f.0 < n) (column, f) (placed (column + (length f + 1)) fs) (omega arith) (placed_below (column + (length f + 1)) n fs (omega arith))

onto_after : (c n : ℕ) (fs : List (List ℕ)) → after fs ≤ n + 1 → after (onto_first c fs) ≤ n + 1 + 1
onto_after c n [] h = omega arith
onto_after c n (f ∷ fs) h = omega arith

fields_after : (line : List ℕ) → after (fields line) ≤ length line + 1
fields_after [] = omega arith
fields_after (c ∷ cs) = so (fields_after cs) (eqb c 44)
  where
    so : after (fields cs) ≤ length cs + 1 → (b : Bool) → after (cond b ([] ∷ fields cs) (onto_first c (fields cs))) ≤ length (c ∷ cs) + 1
    so h true = omega arith
    so h false = let more = onto_after c (length cs) (fields cs) h in omega arith

-- the fields after the letter of a line that is short enough begin at columns that fit a byte
pub columns_fit : (rest : List ℕ) → length rest ≤ 140 → All (λ f. f.0 < 256) (placed 3 (fields rest))
columns_fit rest short = let h = fields_after rest in placed_below 3 256 (fields rest) (omega arith)

-- and so do those that are left after the next
pub columns_left : (r : Option Field) (fs gs : List (ℕ × List ℕ)) → MatchOption r ((fs ≡ []) × (gs ≡ [])) (λ f. fs ≡ placed_at f ∷ gs) → All (λ f. f.0 < 256) fs → All (λ f. f.0 < 256) gs
columns_left None fs gs h all = rw h.1 (All-nil (λ (f : ℕ × List ℕ). f.0 < 256))
columns_left (Some f) fs gs h all = All-tail (λ (f : ℕ × List ℕ). f.0 < 256) (placed_at f) gs (rw h at all)

pub column_fits : (r : Option Field) (f : Field) (fs gs : List (ℕ × List ℕ)) → r ≡ Some f → MatchOption r ((fs ≡ []) × (gs ≡ [])) (λ f. fs ≡ placed_at f ∷ gs) → All (λ f. f.0 < 256) fs → f.column < 256
column_fits None f fs gs is h all = cc
column_fits (Some g) f fs gs is h all =
    let same : g ≡ f = cc in subst (λ (f : Field). f.column < 256) same (All-head (λ (f : ℕ × List ℕ). f.0 < 256) (placed_at g) gs (rw h at all))
