-- A line by its first two bytes, and by its fields.
use Rattle.std.proofs.Common.{◌≡◌, ℕ, Bool, true, false, cond, eqb, ltb, List, [], ◌∷◌, length, get_or, drop, Some, None, Option, Err, sym, refl, ap, ◌∙◌, arith, le-ltb, eqb-true, ne_eqb}
use Rattle.std.specs.List.{onto_first}
use Rattle.events.specs.declared.fault.ReaderFault.TheVariants.{Shape}
use Rattle.events.specs.Lines.{fields, placed}
use Rattle.events.specs.Events.{Form, t_line, h_line, b_line, e_line, c_line, p_line, form_of, event_in, event_with, event_from}

-- the form of a letter
abbrev form_by : ℕ → Option Form
form_by c = form_of (c ∷ [])

-- the form of a line that begins with a letter and a comma
abbrev pub begins : List ℕ → Option Form
begins xs = cond (ltb (length xs) 2) None (cond (eqb (get_or xs 1 0) 44) (form_by (get_or xs 0 0)) None)

no_fields : (k : Form) → event_in k [] ≡ Err Shape
no_fields t_line = refl
no_fields h_line = refl
no_fields b_line = refl
no_fields e_line = refl
no_fields c_line = refl
no_fields p_line = refl

two_letters : (c d : ℕ) (f : List ℕ) → form_of (c ∷ d ∷ f) ≡ None
two_letters c d f = simp (ne_eqb (length (c ∷ d ∷ f)) 1 (λ e. omega arith)) refl

-- b and e: the first byte is a comma, and the second
two_bytes : (c d : ℕ) (fs : List (List ℕ)) (b e : Bool) → (b ≡ true → c ≡ 44) → event_from (cond b ([] ∷ cond e ([] ∷ fs) (onto_first d fs)) (onto_first c (cond e ([] ∷ fs) (onto_first d fs)))) ≡ event_with (cond e (form_by c) None) (placed 3 fs)
two_bytes c d fs true true h = sym (ap (λ n. event_with (form_by n) (placed 3 fs)) (h refl))
two_bytes c d fs true false h = refl
two_bytes c d fs false true h = refl
two_bytes c d [] false false h = refl
two_bytes c d (f ∷ fs) false false h = ap (λ n. event_with n (placed 3 fs)) (two_letters c d f)

one_byte : (c : ℕ) (b : Bool) → event_from (cond b ([] ∷ [] ∷ []) ((c ∷ []) ∷ [])) ≡ Err Shape
one_byte c true = refl
one_byte c false = elim (form_by c) as (λ o. event_with o [] ≡ Err Shape) [ Some k ↦ no_fields k | None ↦ refl ]

pub by_fields : (xs : List ℕ) → event_from (fields xs) ≡ event_with (begins xs) (placed 3 (fields (drop 2 xs)))
by_fields [] = refl
by_fields (c ∷ []) = one_byte c (eqb c 44)
by_fields (c ∷ d ∷ xs) =
    two_bytes c d (fields xs) (eqb c 44) (eqb d 44) (eqb-true c 44) ∙ simp (le-ltb (length (c ∷ d ∷ xs)) 2 (omega arith))

-- a line of no form
pub unchosen : (xs : List ℕ) → begins xs ≡ None → Err Shape ≡ event_from (fields xs)
unchosen xs is = sym (by_fields xs ∙ ap (λ o. event_with o (placed 3 (fields (drop 2 xs)))) is)
