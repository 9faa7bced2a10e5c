-- Figures in decimal digits, and back. Assumes nothing.
use Rattle.std.proofs.Common.{◌≡◌, ℕ, zero, suc, ◌/◌, ◌%◌, ◌+◌, ◌^◌, ◌<◌, ◌≤◌, Bool, true, false, List, [], ◌∷◌, length, decimal, nat_le, slice_index, not, ne_eqb, ◌||◌, ◌==◌, cond, get_or, Some, None, refl, sym, ap, ◌∙◌, subst, ⊎_elim, arith, ltb, le-leb, le-ltb, lit<}
use Rattle.std.specs.Fmt.{digits, digits_onto, digit_glyph}
use Rattle.std.specs.List.{All}
use Rattle.std.specs.Str.{all_ascii_digits}
use Rattle.std.proofs.Math.Nat.{pow-suc, one-le-pow}
use Rattle.std.proofs.lemmas.Bool.{lt-ltb, leb-true, false_from_ne_true, eqb-true, eq-eqb, cases_lt, cases_eq, and_parts, and_from, cond-true}
use Rattle.std.proofs.lemmas.Grind.{get_or_default_zero}
use Rattle.std.proofs.lemmas.Str.Parse.{IsNumeralModel, numerals_by_fold, tells_all_ascii_digits, digits_value_short, numerals_by_value, tells_by_index}
use Rattle.std.proofs.lemmas.Fmt.{length-decimal-le, decimal-digits_value, digits_value-decimal, digits_decimal, decimal_nonempty, first_decimal, decimal_digit}
use Rattle.events.specs.Figures.{number_on, is_figure, figure_of}
use Rattle.events.specs.Carried.{is_short}

numerals : IsNumeralModel (λ ds. all_ascii_digits ds ≡ true) (number_on 0)
numerals = numerals_by_fold _ tells_all_ascii_digits number_on (record { empty = λ n. refl; more = λ n c cs h. refl })

onto_longer : (k n : ℕ) (acc : List ℕ) → length acc ≤ length (digits_onto k 10 false n acc)
onto_longer zero n acc = omega arith
onto_longer (suc k) n acc =
    let g = digit_glyph false (n % 10) in
    let h = onto_longer k (n / 10) (g ∷ acc) in
    elim (n / 10 == 0) as (λ b. length acc ≤ length (cond b (g ∷ acc) (digits_onto k 10 false (n / 10) (g ∷ acc)))) [ true ↦ omega arith | false ↦ omega arith ]

-- j digits write a number below 10 ^ j
onto_small : (k n j : ℕ) (acc : List ℕ) → j < k → length (digits_onto k 10 false n acc) ≤ length acc + j → n < 10 ^ j
onto_small zero n j acc less short = absurd (omega arith)
onto_small (suc k) n zero acc less short =
    let g = digit_glyph false (n % 10) in
    let h = onto_longer k (n / 10) (g ∷ acc) in
    absurd (elim (n / 10 == 0) as (λ b. length (cond b (g ∷ acc) (digits_onto k 10 false (n / 10) (g ∷ acc))) ≤ length acc + 0 → ⊥) [ true ↦ λ s. omega arith | false ↦ λ s. omega arith ] short)
onto_small (suc k) n (suc j) acc less short = so (onto_small k (n / 10) j (digit_glyph false (n % 10) ∷ acc) (omega arith)) (n / 10 == 0) refl short
  where
    g : ℕ
    g = digit_glyph false (n % 10)

    so : (length (digits_onto k 10 false (n / 10) (g ∷ acc)) ≤ length (g ∷ acc) + j → n / 10 < 10 ^ j) → (b : Bool) → (n / 10 == 0) ≡ b → length (cond b (g ∷ acc) (digits_onto k 10 false (n / 10) (g ∷ acc))) ≤ length acc + suc j → n < 10 ^ suc j
    so later true is s = let none : n / 10 ≡ 0 = eqb-true _ _ is in let one : 1 ≤ 10 ^ j = one-le-pow j 10 (lit< tt) in rw (pow-suc 10 j) (omega arith)
    so later false is s = let small : n / 10 < 10 ^ j = later (omega arith) in rw (pow-suc 10 j) (omega arith)

pub short_small : (n : ℕ) → is_short (decimal n) ≡ true → n < 10 ^ 13
unfolding digits
short_small n short = let long : length (decimal n) ≤ 13 = leb-true (length (decimal n)) 13 short in onto_small 64 n 13 [] (lit< tt) (omega arith)

long_figure : (n : ℕ) → 10 ^ 13 ≤ n → is_short (decimal n) ≡ false
long_figure n large = false_from_ne_true (is_short (decimal n)) (λ short. let small = short_small n short in omega arith)

-- a field holds 13 digits
pub short_figure : (n : ℕ) → ltb n (10 ^ 13) ≡ is_short (decimal n)
short_figure n =
    ⊎_elim
    (λ (small : n < 10 ^ 13). lt-ltb _ _ small ∙ sym (le-leb _ _ (length-decimal-le 13 n (lit< tt) small (omega arith))))
    (λ (large : 10 ^ 13 ≤ n). le-ltb _ _ large ∙ sym (long_figure n large))
    (cases_lt n (10 ^ 13))

-- no number but 0 begins with the digit 0
no_zero : (n : ℕ) → n < 2 ^ 64 → (not (slice_index (decimal n) 0 == 48) || length (decimal n) == 1) ≡ true
no_zero n fits = ⊎_elim
    (λ (is : n ≡ 0). rw (is, decimal_digit 0 (lit< tt)) refl)
    (λ (more : n ≡ 0 → ⊥). let h : 48 < get_or (decimal n) 0 0 = first_decimal n (omega arith) fits in simp (ne_eqb (get_or (decimal n) 0 0) 48 (λ e. omega arith)) refl)
    (cases_eq n 0)

-- a figure that is written is read
pub figure_read : (n : ℕ) → is_short (decimal n) ≡ true → figure_of (decimal n) ≡ Some n
figure_read n short =
    let small = short_small n short in
    let fits : n < 2 ^ 64 = omega arith in
    let some : nat_le 1 (length (decimal n)) ≡ true = le-leb _ _ (decimal_nonempty n fits) in
    let is : is_figure (decimal n) ≡ true = and_from _ _ (and_from _ _ some short) (and_from _ _ (no_zero n fits) (digits_decimal numerals n fits)) in
    cond-true _ _ _ is ∙ ap Some (digits_value-decimal numerals n fits)

-- its bytes are digits
pub figure_printed : (n : ℕ) → is_short (decimal n) ≡ true → All (λ c. 48 ≤ c) (decimal n)
figure_printed n short k d inside =
    let small = short_small n short in
    let digit = digits_decimal (numerals_by_value _ tells_by_index) n (omega arith) k inside in
    subst (λ c. 48 ≤ c) (sym (get_or_default_zero (decimal n) k d inside)) digit.0

-- what makes a field a figure
figure_parts : (b : Bool) (v n : ℕ) → cond b (Some v) None ≡ Some n → (b ≡ true) × (v ≡ n)
figure_parts true v n e = (refl, cc)
figure_parts false v n e = cc

one_zero : (ds : List ℕ) → (not (slice_index ds 0 == 48) || length ds == 1) ≡ true → get_or ds 0 0 ≡ 48 → length ds ≡ 1
one_zero ds either first =
    eqb-true _ _ (sym (ap (λ b. not b || length ds == 1) (eq-eqb _ _ first)) ∙ either)

-- a figure that is read is written so
pub figure_written : (ds : List ℕ) (n : ℕ) → figure_of ds ≡ Some n → (ds ≡ decimal n) × (is_short ds ≡ true)
figure_written ds n is =
    let parts = figure_parts (is_figure ds) (number_on 0 ds) n is in
    let all = and_parts _ _ parts.0 in
    let long = and_parts _ _ all.0 in
    let digits = and_parts _ _ all.1 in
    let small : number_on 0 ds < 10 ^ 13 = digits_value_short numerals ds 13 digits.1 (leb-true _ _ long.1) in
    let back : decimal (number_on 0 ds) ≡ ds = decimal-digits_value numerals ds digits.1 (leb-true _ _ long.0) (one_zero ds digits.0) (omega arith) in
    (sym back ∙ ap decimal parts.1, long.1)
