-- One turn of the loops that ask about the rows that a correction rewrites. Assumes nothing.
use Rattle.std.proofs.Common.{◌≡◌, ℕ, suc, ◌+◌, ◌<◌, ◌≤◌, Bool, true, false, ◌&&◌, List, ◌∷◌, length, get_or, drop, sym, ap, ◌∙◌, arith}
use Rattle.std.proofs.lemmas.List.{drop_more, drop_all}
use Rattle.std.proofs.lemmas.Bool.{cond-true, cond-false}
use Rattle.rules.specs.Subject.{Period, Finding, Method, day_weight, peak_weight}
use Rattle.rules.specs.Laid.{laid, with_standing, rewrites, rewritten, corrected}
use Rattle.rules.specs.Questions.{shares_fit, all_fit}
use Rattle.figures.specs.View.{period_seen}
use Rattle.figures.specs.declared.row.Row.{Row}
use Rattle.account.specs.Rows.{periods}

-- what is left, where x was read at i
pub left_at : (rows : List Row) (i : ℕ) (x : Row) → i < length rows → x ≡ get_or rows i x → drop i rows ≡ x ∷ drop (i + 1) rows
left_at rows i x h read = drop_more rows i x h ∙ ap (λ y. y ∷ drop (i + 1) rows) (sym read)

-- rows that begin at a place of the sheet
module _ (f : Finding) (from : ℕ) where
  pub next : (i : ℕ) → suc (from + i) ≡ from + (i + 1)
  next i = omega arith

  -- the rows from i on that are rewritten
  unfoldable pub counted : List Row → ℕ → ℕ
  counted rows i = length (rewritten f (from + i) (periods (drop i rows)))

  pub counted_in : (rows : List Row) (i : ℕ) (x : Row) → drop i rows ≡ x ∷ drop (i + 1) rows → rewrites f (from + i) (period_seen x) ≡ true → counted rows i ≡ suc (counted rows (i + 1))
  unfolding counted rewritten
  counted_in rows i x h b =
      ap (λ xs. length (rewritten f (from + i) (periods xs))) h
      ∙ ap length (cond-true (rewrites f (from + i) (period_seen x)) _ _ b)
      ∙ ap (λ j. suc (length (rewritten f j (periods (drop (i + 1) rows))))) (next i)

  pub counted_out : (rows : List Row) (i : ℕ) (x : Row) → drop i rows ≡ x ∷ drop (i + 1) rows → rewrites f (from + i) (period_seen x) ≡ false → counted rows i ≡ counted rows (i + 1)
  unfolding counted rewritten
  counted_out rows i x h b =
      ap (λ xs. length (rewritten f (from + i) (periods xs))) h
      ∙ ap length (cond-false (rewrites f (from + i) (period_seen x)) _ _ b)
      ∙ ap (λ j. length (rewritten f j (periods (drop (i + 1) rows)))) (next i)

  module _ (m : Method) where
    -- the shares of the rows from i on all fit
    unfoldable pub fitting : List Row → (i V W : ℕ) → Bool
    fitting rows i V W = all_fit (rewritten f (from + i) (corrected f m (from + i) V W (periods (drop i rows))))

    pub fitting_first : (rows : List Row) → fitting rows 0 0 0 ≡ all_fit (rewritten f from (corrected f m from 0 0 (periods rows)))
    unfolding fitting
    fitting_first rows =
        let e : from + 0 ≡ from = omega arith in
        ap (λ j. all_fit (rewritten f j (corrected f m j 0 0 (periods rows)))) e

    pub fitting_in : (rows : List Row) (i V W : ℕ) (x : Row) → drop i rows ≡ x ∷ drop (i + 1) rows → rewrites f (from + i) (period_seen x) ≡ true →
        let p : Period = period_seen x in
        fitting rows i V W ≡ (shares_fit (with_standing (laid m V W p) p) && fitting rows (i + 1) (V + day_weight m p) (W + peak_weight m p))
    unfolding fitting rewritten corrected
    fitting_in rows i V W x h b =
        let p = period_seen x in
        ap (λ xs. all_fit (rewritten f (from + i) (corrected f m (from + i) V W (periods xs)))) h
        ∙ ap (λ ps. all_fit (rewritten f (from + i) ps)) (cond-true (rewrites f (from + i) p) _ _ b)
        ∙ ap all_fit (cond-true (rewrites f (from + i) p) _ _ b)
        ∙ ap (λ j. shares_fit (with_standing (laid m V W p) p) && all_fit (rewritten f j (corrected f m j (V + day_weight m p) (W + peak_weight m p) (periods (drop (i + 1) rows))))) (next i)

    pub fitting_out : (rows : List Row) (i V W : ℕ) (x : Row) → drop i rows ≡ x ∷ drop (i + 1) rows → rewrites f (from + i) (period_seen x) ≡ false → fitting rows i V W ≡ fitting rows (i + 1) V W
    unfolding fitting rewritten corrected
    fitting_out rows i V W x h b =
        let p = period_seen x in
        ap (λ xs. all_fit (rewritten f (from + i) (corrected f m (from + i) V W (periods xs)))) h
        ∙ ap (λ ps. all_fit (rewritten f (from + i) ps)) (cond-false (rewrites f (from + i) p) _ _ b)
        ∙ ap all_fit (cond-false (rewrites f (from + i) p) _ _ b)
        ∙ ap (λ j. all_fit (rewritten f j (corrected f m j V W (periods (drop (i + 1) rows))))) (next i)

    pub fitting_all : (rows : List Row) (i V W : ℕ) → length rows ≤ i → fitting rows i V W ≡ true
    unfolding fitting rewritten corrected
    fitting_all rows i V W h = ap (λ xs. all_fit (rewritten f (from + i) (corrected f m (from + i) V W (periods xs)))) (drop_all i rows h)
