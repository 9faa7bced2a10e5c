-- How units are shared over rows, and an undercharge over bills.
use Rattle.std.specs.Prelude.{◌≡◌, ℕ, zero, suc, ◌+◌, ◌-◌, ◌*◌, ◌/◌, ◌<◌, ◌≤◌, min, List, [], ◌∷◌, take}

-- what f gives over the whole list
abbrev pub sum_of : {X : Type 0} → (X → ℕ) → List X → ℕ
sum_of f [] = 0
sum_of f (x ∷ xs) = f x + sum_of f xs

-- the whole units that rows of weight W together get: ⌊W × N ÷ D⌋
unfoldable pub whole : (N D W : ℕ) → ℕ
whole N D W = W * N / D

-- the share of a row of weight w, where the rows before it weigh V together
abbrev pub share : (N D V w : ℕ) → ℕ
share N D V w = whole N D (V + w) - whole N D V

-- the shares of rows with the weights ws
abbrev pub shares : (N D V : ℕ) → List ℕ → List ℕ
shares N D V [] = []
shares N D V (w ∷ ws) = share N D V w ∷ shares N D (V + w) ws

-- what b bills, of the n that u is spread over, have brought: ⌊u × min(b, n) ÷ n⌋
unfoldable pub brought : (u n b : ℕ) → ℕ
brought u n b = u * min b n / n

-- instalment j, from 1: what bill j brings
abbrev pub instalment : (u n j : ℕ) → ℕ
instalment u n j = brought u n j - brought u n (j - 1)

-- s units are less than one unit from the exact share w × N ÷ D, both compared over D
pub record Near (N D w s : ℕ) : Type 0 where
  pub not_over : s * D < w * N + D
  pub not_under : w * N < s * D + D

-- each of the shares is near the exact share of its weight, and there is one for each
abbrev pub AllNear : (N D : ℕ) → (weights shares : List ℕ) → Type 0
AllNear N D [] [] = Unit
AllNear N D [] (s ∷ ss) = ⊥
AllNear N D (w ∷ ws) [] = ⊥
AllNear N D (w ∷ ws) (s ∷ ss) = Near N D w s × AllNear N D ws ss

-- s is the whole part of W × N ÷ D, compared over D
pub record WholePart (N D W s : ℕ) : Type 0 where
  pub not_over : s * D ≤ W * N
  pub not_under : W * N < s * D + D

-- the sharing rule in so many words: rows of these weights get these units, if
--   all of them together get the whole part of their exact total;
--   so do the first i of them, for every i;
--   each gets less than one unit more or less than its exact share
pub record Shared (N D : ℕ) (weights units : List ℕ) : Type 0 where
  pub total : WholePart N D (sum_of (λ w. w) weights) (sum_of (λ s. s) units)
  pub first : (i : ℕ) → WholePart N D (sum_of (λ w. w) (take i weights)) (sum_of (λ s. s) (take i units))
  pub near : AllNear N D weights units

-- shares keep it, whatever the weights
abbrev pub SharingRule : Type 0
SharingRule = (N D : ℕ) (ws : List ℕ) → 1 ≤ D → Shared N D ws (shares N D 0 ws)

-- the first k instalments of u over n, the last of them first
abbrev pub first_instalments : (u n k : ℕ) → List ℕ
first_instalments u n zero = []
first_instalments u n (suc k) = instalment u n (suc k) ∷ first_instalments u n k

-- the n instalments of u add up to u
abbrev pub InstalmentRule : Type 0
InstalmentRule = (u n : ℕ) → 1 ≤ n → sum_of (λ i. i) (first_instalments u n n) ≡ u
