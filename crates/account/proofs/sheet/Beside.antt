-- Rows beside a span, which no correction rewrites. Assumes nothing.
use Rattle.std.proofs.Common.{◌≡◌, ℕ, suc, ◌+◌, ◌<◌, ◌≤◌, pos, ◌-ℤ◌, Some, Bool, true, false, cond, ◌&&◌, leb, List, [], ◌∷◌, ◌++◌, length, sym, refl, ap, ◌∙◌, ap₂, arith}
use Rattle.std.proofs.lemmas.Bool.{cond-false, leb-true, leb-false}
use Rattle.rules.specs.Subject.{Period, Tariff, Finding, Method, day_weight, peak_weight}
use Rattle.rules.specs.Laid.{laid, with_standing, in_span, rewrites_sort, rewrites, rewritten, corrected}
use Rattle.rules.specs.Shown as show
use Rattle.rules.specs.Machine.{rewritten_row, relaid, posts}
use Rattle.rules.proofs.Runs.{of_cond}

module _ (f : Finding) where
  pub before_span : (i : ℕ) → i < f.first → in_span f i ≡ false
  before_span i h =
      elim (leb f.first i) as (λ b. leb f.first i ≡ b → (b && leb i f.last) ≡ false) [
        | true ↦ λ e. absurd (omega (arith, leb-true f.first i e))
        | false ↦ λ e. refl
      ] refl

  pub past_span : (i : ℕ) → f.last < i → in_span f i ≡ false
  past_span i h =
      elim (leb i f.last) as (λ b. leb i f.last ≡ b → (leb f.first i && b) ≡ false) [
        | true ↦ λ e. absurd (omega (arith, leb-true i f.last e))
        | false ↦ λ e. elim (leb f.first i) as (λ a. (a && false) ≡ false) [ true ↦ refl | false ↦ refl ]
      ] refl

  pub within_span : (i : ℕ) → f.first ≤ i → i ≤ f.last → in_span f i ≡ true
  within_span i a b =
      elim (leb f.first i) as (λ x. leb f.first i ≡ x → (x && leb i f.last) ≡ true) [
        | true ↦ λ e. elim (leb i f.last) as (λ y. leb i f.last ≡ y → y ≡ true) [
          | true ↦ λ k. refl
          | false ↦ λ k. absurd (omega (arith, leb-false i f.last k))
        ] refl
        | false ↦ λ e. absurd (omega (arith, leb-false f.first i e))
      ] refl

  out : (i : ℕ) (p : Period) → in_span f i ≡ false → rewrites f i p ≡ false
  out i p h = ap (λ b. b && rewrites_sort f.cause p.sort) h

  -- a row of the span is rewritten by its sort alone
  pub rewrites_inside : (i : ℕ) (p : Period) → in_span f i ≡ true → rewrites f i p ≡ rewrites_sort f.cause p.sort
  rewrites_inside i p h = ap (λ b. b && rewrites_sort f.cause p.sort) h

  -- of n rows that are all in the span each is rewritten by its sort
  pub by_sort : (from n i : ℕ) (p : Period) (b : Bool) → ((k : ℕ) → k < n → in_span f (from + k) ≡ true) → i < n → b ≡ rewrites_sort f.cause p.sort → rewrites f (from + i) p ≡ b
  by_sort from n i p b inside h k = rewrites_inside (from + i) p (inside i h) ∙ sym k

  cond_same : {X : Type 0} (b : Bool) (x : X) → cond b x x ≡ x
  cond_same true x = refl
  cond_same false x = refl

  pub shifted : (i n : ℕ) → suc i + n ≡ i + suc n
  shifted i n = omega arith

  -- rows before the span, and rows past it

  rewritten_before : (i : ℕ) (xs ys : List Period) → i + length xs ≤ f.first → rewritten f i (xs ++ ys) ≡ rewritten f (i + length xs) ys
  unfolding rewritten
  rewritten_before i [] ys h = let e : i ≡ i + 0 = omega arith in ap (λ j. rewritten f j ys) e
  rewritten_before i (x ∷ xs) ys h =
      cond-false (rewrites f i x) _ _ (out i x (before_span i (omega arith)))
      ∙ rewritten_before (suc i) xs ys (omega arith)
      ∙ ap (λ j. rewritten f j ys) (shifted i (length xs))

  rewritten_past : (i : ℕ) (zs : List Period) → (1 ≤ length zs → f.last < i) → rewritten f i zs ≡ []
  unfolding rewritten
  rewritten_past i [] h = refl
  rewritten_past i (z ∷ zs) h =
      cond-false (rewrites f i z) _ _ (out i z (past_span i (h (omega arith))))
      ∙ rewritten_past (suc i) zs (λ k. omega (arith, h (omega arith)))

  rewritten_up : (i : ℕ) (ys zs : List Period) → (1 ≤ length zs → f.last < i + length ys) → rewritten f i (ys ++ zs) ≡ rewritten f i ys
  unfolding rewritten
  rewritten_up i [] zs h = rewritten_past i zs (λ k. omega (arith, h k))
  rewritten_up i (y ∷ ys) zs h =
      let e = rewritten_up (suc i) ys zs (λ k. omega (arith, h k)) in
      ap₂ (λ a b. cond (rewrites f i y) (y ∷ a) b) e e

  pub rewritten_between : (xs ys zs : List Period) → length xs ≤ f.first → (1 ≤ length zs → f.last < length xs + length ys) → rewritten f 0 (xs ++ (ys ++ zs)) ≡ rewritten f (length xs) ys
  rewritten_between xs ys zs a b =
      let e : 0 + length xs ≡ length xs = omega arith in
      rewritten_before 0 xs (ys ++ zs) (omega arith)
      ∙ ap (λ j. rewritten f j (ys ++ zs)) e
      ∙ rewritten_up (length xs) ys zs b

  module _ (m : Method) where
    corrected_before : (i V W : ℕ) (xs ys : List Period) → i + length xs ≤ f.first → corrected f m i V W (xs ++ ys) ≡ xs ++ corrected f m (i + length xs) V W ys
    unfolding corrected
    corrected_before i V W [] ys h = let e : i ≡ i + 0 = omega arith in ap (λ j. corrected f m j V W ys) e
    corrected_before i V W (x ∷ xs) ys h =
        cond-false (rewrites f i x) _ _ (out i x (before_span i (omega arith)))
        ∙ ap (λ ps. x ∷ ps) (corrected_before (suc i) V W xs ys (omega arith))
        ∙ ap (λ j. x ∷ (xs ++ corrected f m j V W ys)) (shifted i (length xs))

    corrected_past : (i V W : ℕ) (zs : List Period) → (1 ≤ length zs → f.last < i) → corrected f m i V W zs ≡ zs
    unfolding corrected
    corrected_past i V W [] h = refl
    corrected_past i V W (z ∷ zs) h =
        cond-false (rewrites f i z) _ _ (out i z (past_span i (h (omega arith))))
        ∙ ap (λ ps. z ∷ ps) (corrected_past (suc i) V W zs (λ k. omega (arith, h (omega arith))))

    corrected_up : (i V W : ℕ) (ys zs : List Period) → (1 ≤ length zs → f.last < i + length ys) → corrected f m i V W (ys ++ zs) ≡ corrected f m i V W ys ++ zs
    unfolding corrected
    corrected_up i V W [] zs h = corrected_past i V W zs (λ k. omega (arith, h k))
    corrected_up i V W (y ∷ ys) zs h =
        let a = with_standing (laid m V W y) y in
        let V' = V + day_weight m y in
        let W' = W + peak_weight m y in
        let inside : corrected f m (suc i) V' W' (ys ++ zs) ≡ corrected f m (suc i) V' W' ys ++ zs = corrected_up (suc i) V' W' ys zs (λ k. omega (arith, h k)) in
        let over : corrected f m (suc i) V W (ys ++ zs) ≡ corrected f m (suc i) V W ys ++ zs = corrected_up (suc i) V W ys zs (λ k. omega (arith, h k)) in
        ap₂ (λ p q. cond (rewrites f i y) (a ∷ p) (y ∷ q)) inside over ∙ sym (of_cond (λ ps. ps ++ zs) (rewrites f i y) refl refl)

    length-corrected : (i V W : ℕ) (ps : List Period) → length (corrected f m i V W ps) ≡ length ps
    unfolding corrected
    length-corrected i V W [] = refl
    length-corrected i V W (p ∷ ps) =
        of_cond length (rewrites f i p) (ap suc (length-corrected (suc i) (V + day_weight m p) (W + peak_weight m p) ps)) (ap suc (length-corrected (suc i) V W ps))
        ∙ cond_same (rewrites f i p) _

    -- what is asked of the rows that are rewritten
    pub asked_between : (xs ys zs : List Period) → length xs ≤ f.first → (1 ≤ length zs → f.last < length xs + length ys) → rewritten f 0 (corrected f m 0 0 0 (xs ++ (ys ++ zs))) ≡ rewritten f (length xs) (corrected f m (length xs) 0 0 ys)
    asked_between xs ys zs a b =
        let e : 0 + length xs ≡ length xs = omega arith in
        let n : length (corrected f m (length xs) 0 0 ys) ≡ length ys = length-corrected (length xs) 0 0 ys in
        ap (rewritten f 0) (
        corrected_before 0 0 0 xs (ys ++ zs) (omega arith)
        ∙ ap (λ j. xs ++ corrected f m j 0 0 (ys ++ zs)) e
        ∙ ap (λ ps. xs ++ ps) (corrected_up (length xs) 0 0 ys zs b)
        )
        ∙ rewritten_between xs (corrected f m (length xs) 0 0 ys) zs a (λ k. omega (arith, b k))

    module _ (t : Tariff) where
      relaid_before : (i V W : ℕ) (xs ys : List show.Row) → i + length xs ≤ f.first → relaid t f m i V W (xs ++ ys) ≡ xs ++ relaid t f m (i + length xs) V W ys
      unfolding relaid
      relaid_before i V W [] ys h = let e : i ≡ i + 0 = omega arith in ap (λ j. relaid t f m j V W ys) e
      relaid_before i V W (x ∷ xs) ys h =
          cond-false (rewrites f i x.period) _ _ (out i x.period (before_span i (omega arith)))
          ∙ ap (λ ps. x ∷ ps) (relaid_before (suc i) V W xs ys (omega arith))
          ∙ ap (λ j. x ∷ (xs ++ relaid t f m j V W ys)) (shifted i (length xs))

      relaid_past : (i V W : ℕ) (zs : List show.Row) → (1 ≤ length zs → f.last < i) → relaid t f m i V W zs ≡ zs
      unfolding relaid
      relaid_past i V W [] h = refl
      relaid_past i V W (z ∷ zs) h =
          cond-false (rewrites f i z.period) _ _ (out i z.period (past_span i (h (omega arith))))
          ∙ ap (λ ps. z ∷ ps) (relaid_past (suc i) V W zs (λ k. omega (arith, h (omega arith))))

      relaid_up : (i V W : ℕ) (ys zs : List show.Row) → (1 ≤ length zs → f.last < i + length ys) → relaid t f m i V W (ys ++ zs) ≡ relaid t f m i V W ys ++ zs
      unfolding relaid
      relaid_up i V W [] zs h = relaid_past i V W zs (λ k. omega (arith, h k))
      relaid_up i V W (y ∷ ys) zs h =
          let a = rewritten_row t m V W y in
          let V' = V + day_weight m y.period in
          let W' = W + peak_weight m y.period in
          let inside : relaid t f m (suc i) V' W' (ys ++ zs) ≡ relaid t f m (suc i) V' W' ys ++ zs = relaid_up (suc i) V' W' ys zs (λ k. omega (arith, h k)) in
          let over : relaid t f m (suc i) V W (ys ++ zs) ≡ relaid t f m (suc i) V W ys ++ zs = relaid_up (suc i) V W ys zs (λ k. omega (arith, h k)) in
          ap₂ (λ p q. cond (rewrites f i y.period) (a ∷ p) (y ∷ q)) inside over ∙ sym (of_cond (λ ps. ps ++ zs) (rewrites f i y.period) refl refl)

      pub relaid_between : (xs ys zs : List show.Row) → length xs ≤ f.first → (1 ≤ length zs → f.last < length xs + length ys) → relaid t f m 0 0 0 (xs ++ (ys ++ zs)) ≡ xs ++ (relaid t f m (length xs) 0 0 ys ++ zs)
      relaid_between xs ys zs a b =
          let e : 0 + length xs ≡ length xs = omega arith in
          relaid_before 0 0 0 xs (ys ++ zs) (omega arith)
          ∙ ap (λ j. xs ++ relaid t f m j 0 0 (ys ++ zs)) e
          ∙ ap (λ ps. xs ++ ps) (relaid_up (length xs) 0 0 ys zs b)

      module _ (hold : ℕ) where
        posts_before : (i V W : ℕ) (xs ys : List show.Row) → i + length xs ≤ f.first → posts t f m hold i V W (xs ++ ys) ≡ posts t f m hold (i + length xs) V W ys
        unfolding posts
        posts_before i V W [] ys h = let e : i ≡ i + 0 = omega arith in ap (λ j. posts t f m hold j V W ys) e
        posts_before i V W (x ∷ xs) ys h =
            cond-false (rewrites f i x.period) _ _ (out i x.period (before_span i (omega arith)))
            ∙ posts_before (suc i) V W xs ys (omega arith)
            ∙ ap (λ j. posts t f m hold j V W ys) (shifted i (length xs))

        posts_past : (i V W : ℕ) (zs : List show.Row) → (1 ≤ length zs → f.last < i) → posts t f m hold i V W zs ≡ []
        unfolding posts
        posts_past i V W [] h = refl
        posts_past i V W (z ∷ zs) h =
            cond-false (rewrites f i z.period) _ _ (out i z.period (past_span i (h (omega arith))))
            ∙ posts_past (suc i) V W zs (λ k. omega (arith, h (omega arith)))

        posts_up : (i V W : ℕ) (ys zs : List show.Row) → (1 ≤ length zs → f.last < i + length ys) → posts t f m hold i V W (ys ++ zs) ≡ posts t f m hold i V W ys
        unfolding posts
        posts_up i V W [] zs h = posts_past i V W zs (λ k. omega (arith, h k))
        posts_up i V W (y ∷ ys) zs h =
            let V' = V + day_weight m y.period in
            let W' = W + peak_weight m y.period in
            let l : show.Line = record { hold = hold; letter = show.C; row = Some i; cents = pos (rewritten_row t m V W y).cents -ℤ pos y.cents } in
            ap₂ (λ p q. cond (rewrites f i y.period) (l ∷ p) q) (posts_up (suc i) V' W' ys zs (λ k. omega (arith, h k))) (posts_up (suc i) V W ys zs (λ k. omega (arith, h k)))

        pub posts_between : (xs ys zs : List show.Row) → length xs ≤ f.first → (1 ≤ length zs → f.last < length xs + length ys) → posts t f m hold 0 0 0 (xs ++ (ys ++ zs)) ≡ posts t f m hold (length xs) 0 0 ys
        posts_between xs ys zs a b =
            let e : 0 + length xs ≡ length xs = omega arith in
            posts_before 0 0 0 xs (ys ++ zs) (omega arith)
            ∙ ap (λ j. posts t f m hold j 0 0 (ys ++ zs)) e
            ∙ posts_up (length xs) 0 0 ys zs b
