-- The laws of the sharing rule and of instalments, for all weights. Assumes nothing.
use Rattle.std.proofs.Common.{◌≡◌, ℕ, zero, suc, ◌+◌, ◌-◌, ◌*◌, ◌/◌, ◌%◌, ◌<◌, ◌≤◌, min, List, [], ◌∷◌, take, sym, refl, subst, ap, ◌∙◌, add-zero, add_assoc, mod-lt, add-mul, mul-le-mul_left, mul-zero, div-add-mod', le-div_iff_mul-le, zero-add, zero-mul, div-mul-le_self, mul-div_cancel, arith}
use native.Mathlib.Nat.{div-zero, zero-div, zero-min}
use Rattle.rules.specs.Sharing.{sum_of, whole, share, shares, brought, Near, AllNear, WholePart, SharingRule, first_instalments, InstalmentRule}

-- ⌊a ÷ D⌋ rises with a
pub div_mono : (a b D : ℕ) → a ≤ b → a / D ≤ b / D
div_mono a b zero h = omega (arith, div-zero a, div-zero b)
div_mono a b (suc d) h = (le-div_iff_mul-le {k = suc d} (omega arith)).1 (omega (arith, div-mul-le_self a (suc d)))

-- the running whole: it starts at 0, never falls, and its steps are within one unit of the exact share

pub whole_none : (N D : ℕ) → whole N D 0 ≡ 0
unfolding whole
whole_none N D = ap (λ x. x / D) (zero-mul N) ∙ zero-div D

pub whole_more : (N D V w : ℕ) → whole N D V ≤ whole N D (V + w)
unfolding whole
whole_more N D V w = let e : (V + w) * N ≡ V * N + w * N = add-mul V w N in div_mono (V * N) ((V + w) * N) D (omega arith)

pub share_near : (N D V w : ℕ) → 1 ≤ D → Near N D w (share N D V w)
unfolding whole
share_near N D V w pos =
    let e : (V + w) * N ≡ V * N + w * N = add-mul V w N in
    let before = div-add-mod' (V * N) D in
    let after = div-add-mod' ((V + w) * N) D in
    let few : V * N % D < D = mod-lt (V * N) pos in
    let few' : (V + w) * N % D < D = mod-lt ((V + w) * N) pos in
    let rises : V * N / D ≤ (V + w) * N / D = div_mono (V * N) ((V + w) * N) D (omega arith) in
    let joined : V * N / D + share N D V w ≡ (V + w) * N / D = omega arith in
    let split : ((V + w) * N / D) * D ≡ (V * N / D) * D + share N D V w * D =
    ap (λ x. x * D) (sym joined) ∙ add-mul (V * N / D) (share N D V w) D in
    record { not_over = omega arith; not_under = omega arith }

-- what comes before, with one share, is what comes before the next row
pub share_next : (N D V w : ℕ) → whole N D V + share N D V w ≡ whole N D (V + w)
share_next N D V w = omega (arith, whole_more N D V w)

-- the shares add up to the whole of the total weight, past what came before
pub shares_sum : (N D V : ℕ) (ws : List ℕ) → whole N D V + sum_of (λ s. s) (shares N D V ws) ≡ whole N D (V + sum_of (λ w. w) ws)
shares_sum N D V [] = add-zero (whole N D V) ∙ ap (whole N D) (sym (add-zero V))
shares_sum N D V (w ∷ ws) =
    let e : (V + w) + sum_of (λ w. w) ws ≡ V + (w + sum_of (λ w. w) ws) = add_assoc V w (sum_of (λ w. w) ws) in
    let next : whole N D (V + w) + sum_of (λ s. s) (shares N D (V + w) ws) ≡ whole N D (V + (w + sum_of (λ w. w) ws)) = shares_sum N D (V + w) ws ∙ ap (whole N D) e in
    omega (arith, share_next N D V w)

-- what b bills have brought: nothing at 0, never less, all of it from n on

pub brought_none : (u n : ℕ) → brought u n 0 ≡ 0
unfolding brought
brought_none u n = ap (λ x. u * x / n) (zero-min n) ∙ ap (λ x. x / n) (mul-zero u) ∙ zero-div n

pub brought_of_none : (n b : ℕ) → brought 0 n b ≡ 0
unfolding brought
brought_of_none n b = ap (λ x. x / n) (zero-mul (min b n)) ∙ zero-div n

pub brought_more : (u n b : ℕ) → brought u n b ≤ brought u n (suc b)
unfolding brought
brought_more u n b = div_mono (u * min b n) (u * min (suc b) n) n (mul-le-mul_left {m = min b n} {n = min (suc b) n} u (omega arith))

pub brought_all : (u n b : ℕ) → brought u n b ≤ u
unfolding brought
brought_all u zero b = omega (arith, div-zero (u * min b 0))
brought_all u (suc n) b =
    let le = div_mono (u * min b (suc n)) (u * suc n) (suc n) (mul-le-mul_left {m = min b (suc n)} {n = suc n} u (omega arith)) in
    omega (arith, mul-div_cancel u {n = suc n} (omega arith))

pub brought_late : (u n b : ℕ) → n ≤ b → brought u n (suc b) ≡ brought u n b
unfolding brought
brought_late u n b h = let e : min (suc b) n ≡ min b n = omega arith in ap (λ x. u * x / n) e

pub brought_whole : (u n b : ℕ) → 1 ≤ n → n ≤ b → brought u n b ≡ u
unfolding brought
brought_whole u n b some past =
    let e : min b n ≡ n = omega arith in
    ap (λ x. u * x / n) e ∙ mul-div_cancel u {n = n} some

-- the rules

shares_near : (N D V : ℕ) (ws : List ℕ) → 1 ≤ D → AllNear N D ws (shares N D V ws)
shares_near N D V [] some = tt
shares_near N D V (w ∷ ws) some = (share_near N D V w some, shares_near N D (V + w) ws some)

-- a whole part, by division
whole_part : (N D W : ℕ) → 1 ≤ D → WholePart N D W (whole N D W)
unfolding whole
whole_part N D W some =
    let parts = div-add-mod' (W * N) D in
    let few : W * N % D < D = mod-lt (W * N) some in
    record { not_over = omega arith; not_under = omega arith }

total_whole : (N D : ℕ) (ws : List ℕ) → sum_of (λ s. s) (shares N D 0 ws) ≡ whole N D (sum_of (λ w. w) ws)
total_whole N D ws =
    let all = shares_sum N D 0 ws in
    let none = whole_none N D in
    let start : whole N D (0 + sum_of (λ w. w) ws) ≡ whole N D (sum_of (λ w. w) ws) = ap (whole N D) (zero-add (sum_of (λ w. w) ws)) in
    omega arith

shares_total : (N D : ℕ) (ws : List ℕ) → 1 ≤ D → WholePart N D (sum_of (λ w. w) ws) (sum_of (λ s. s) (shares N D 0 ws))
shares_total N D ws some = subst (WholePart N D (sum_of (λ w. w) ws)) (sym (total_whole N D ws)) (whole_part N D (sum_of (λ w. w) ws) some)

-- the first shares are those of the first rows
shares_take : (N D V i : ℕ) (ws : List ℕ) → shares N D V (take i ws) ≡ take i (shares N D V ws)
shares_take N D V zero ws = refl
shares_take N D V (suc i) [] = refl
shares_take N D V (suc i) (w ∷ ws) = ap (λ ss. share N D V w ∷ ss) (shares_take N D (V + w) i ws)

pub sharing_rule : SharingRule
sharing_rule N D ws some = record {
  total = shares_total N D ws some;
  first = λ i. subst (λ ss. WholePart N D (sum_of (λ w. w) (take i ws)) (sum_of (λ s. s) ss)) (shares_take N D 0 i ws) (shares_total N D (take i ws) some);
  near = shares_near N D 0 ws some;
}

instalments_sum : (u n k : ℕ) → sum_of (λ i. i) (first_instalments u n k) ≡ brought u n k
instalments_sum u n zero = sym (brought_none u n)
instalments_sum u n (suc k) =
    let before = instalments_sum u n k in
    let more = brought_more u n k in
    let one_before : brought u n (suc k - 1) ≡ brought u n k = let e : suc k - 1 ≡ k = omega arith in ap (brought u n) e in
    omega arith

pub instalment_rule : InstalmentRule
instalment_rule u n some = instalments_sum u n n ∙ brought_whole u n n some (omega arith)
