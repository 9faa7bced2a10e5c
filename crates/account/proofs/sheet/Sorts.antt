-- The sorts of rows: those beside a span are not asked, and those that are rewritten have energy. Assumes nothing.
use Rattle.std.proofs.Common.{◌≡◌, ℕ, suc, ◌+◌, ◌<◌, ◌≤◌, true, not, ◌&&◌, ◌||◌, List, [], ◌∷◌, ◌++◌, length, sym, refl, ap, ◌∙◌, arith}
use Rattle.std.specs.Prelude.{◌≢◌}
use Rattle.std.specs.List.{list_all}
use Rattle.std.proofs.lemmas.Bool.{false≢true}
use Rattle.rules.specs.Subject.{Sort, no_energy, is_read, is_estimated, Period, Cause, absent, under, over, stopped, altered, Finding}
use Rattle.rules.specs.Laid.{in_span, rewrites_sort}
use Rattle.rules.specs.Questions.{of_sort, every, sort_fits}
use Rattle.figures.specs.View.{period_seen}
use Rattle.figures.specs.declared.row.Row.{Row}
use Rattle.account.specs.Rows.{periods}
use Rattle.account.proofs.sheet.Beside.{before_span, past_span, shifted}

-- a correction rewrites no row without energy: of the sorts that its cause covers, the estimated or the read rows
pub has_energy : (c : Cause) (s : Sort) → of_sort c s ≡ true → rewrites_sort c s ≡ true → s ≢ no_energy
has_energy absent s fits rewritten e = false≢true (ap is_estimated (sym e) ∙ rewritten)
has_energy under s fits rewritten e = false≢true (ap is_read (sym e) ∙ fits)
has_energy over s fits rewritten e = false≢true (ap is_read (sym e) ∙ fits)
has_energy stopped s fits rewritten e = false≢true (ap is_read (sym e) ∙ fits)
has_energy altered s fits rewritten e = false≢true (ap is_read (sym e) ∙ fits)

module _ (f : Finding) where
  every_before : (i : ℕ) (xs ys : List Period) → i + length xs ≤ f.first → every (sort_fits f) i (xs ++ ys) ≡ every (sort_fits f) (i + length xs) ys
  every_before i [] ys h = let e : i ≡ i + 0 = omega arith in ap (λ j. every (sort_fits f) j ys) e
  every_before i (x ∷ xs) ys h =
      ap (λ b. (not b || of_sort f.cause x.sort) && every (sort_fits f) (suc i) (xs ++ ys)) (before_span f i (omega arith))
      ∙ every_before (suc i) xs ys (omega arith)
      ∙ ap (λ j. every (sort_fits f) j ys) (shifted f i (length xs))

  every_past : (i : ℕ) (zs : List Period) → (1 ≤ length zs → f.last < i) → every (sort_fits f) i zs ≡ true
  every_past i [] h = refl
  every_past i (z ∷ zs) h =
      ap (λ b. (not b || of_sort f.cause z.sort) && every (sort_fits f) (suc i) zs) (past_span f i (h (omega arith)))
      ∙ every_past (suc i) zs (λ k. omega (arith, h (omega arith)))

  every_within : (i : ℕ) (rows : List Row) (zs : List Period) → ((k : ℕ) → k < length rows → in_span f (i + k) ≡ true) → (1 ≤ length zs → f.last < i + length rows) → every (sort_fits f) i (periods rows ++ zs) ≡ list_all (λ r. of_sort f.cause (period_seen r).sort) rows
  every_within i [] zs inside h = every_past i zs (λ k. omega (arith, h k))
  every_within i (r ∷ rows) zs inside h =
      let s = of_sort f.cause (period_seen r).sort in
      let e : i + 0 ≡ i = omega arith in
      ap (λ b. (not b || s) && every (sort_fits f) (suc i) (periods rows ++ zs)) (ap (in_span f) (sym e) ∙ inside 0 (omega arith))
      ∙ ap (λ b. s && b) (every_within (suc i) rows zs (λ k l. ap (in_span f) (shifted f i k) ∙ inside (suc k) (omega arith)) (λ k. omega (arith, h k)))

  pub every_between : (xs : List Period) (rows : List Row) (zs : List Period) → length xs ≤ f.first → (1 ≤ length zs → f.last < length xs + length rows) → ((k : ℕ) → k < length rows → in_span f (length xs + k) ≡ true) → every (sort_fits f) 0 (xs ++ (periods rows ++ zs)) ≡ list_all (λ r. of_sort f.cause (period_seen r).sort) rows
  every_between xs rows zs a b inside =
      let e : 0 + length xs ≡ length xs = omega arith in
      every_before 0 xs (periods rows ++ zs) (omega arith)
      ∙ ap (λ j. every (sort_fits f) j (periods rows ++ zs)) e
      ∙ every_within (length xs) rows zs inside b
