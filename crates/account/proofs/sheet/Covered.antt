-- The rows of a span, as a part of the sheet: what is asked of the sheet is asked of them alone. Assumes nothing.
use Rattle.std.proofs.Common.{◌≡◌, ℕ, ◌+◌, ◌-◌, ◌<◌, ◌≤◌, Bool, true, List, ◌++◌, map, length, take, drop, sym, ap, ◌∙◌, subst, arith}
use Rattle.std.specs.List.{list_all}
use Rattle.std.proofs.lemmas.List.{take-append-drop, length-take-le, length-drop, length-map, map-append, drop-drop, drop-take, take-take}
use Rattle.rules.specs.Subject.{Period, Tariff, Finding, Method}
use Rattle.rules.specs.Laid.{in_span, rewrites_sort, rewrites, rewritten, corrected}
use Rattle.rules.specs.Questions.{of_sort, every, sort_fits}
use Rattle.rules.specs.Machine.{period_of, relaid, posts}
use Rattle.figures.specs.View.{seen, period_seen}
use Rattle.figures.specs.declared.row.Row.{Row}
use Rattle.account.specs.Rows.{periods, span_start, span_end, covered}
use Rattle.account.proofs.sheet.Beside.{within_span, by_sort, rewritten_between, asked_between, relaid_between, posts_between}
use Rattle.account.proofs.sheet.Sorts.{every_between}

module _ (f : Finding) (rows : List Row) where
  abbrev start : ℕ
  start = span_start f (length rows)

  abbrev end : ℕ
  end = span_end f (length rows)

  abbrev ahead : List Row
  ahead = take start rows

  abbrev past : List Row
  past = drop end rows

  length-ahead : length ahead ≡ start
  length-ahead = length-take-le start rows (omega arith)

  length-covered : length (covered f rows) ≡ end - start
  unfolding covered
  length-covered = length-take-le (end - start) (drop start rows) (omega (arith, length-drop start rows))

  pub few_covered : start + length (covered f rows) ≤ length rows
  few_covered = omega (arith, length-covered)

  parted : rows ≡ ahead ++ (covered f rows ++ past)
  unfolding covered
  parted =
      let e : start + (end - start) ≡ end = omega arith in
      sym (take-append-drop start rows)
      ∙ ap (λ xs. ahead ++ xs) (
      sym (take-append-drop (end - start) (drop start rows))
      ∙ ap (λ xs. covered f rows ++ xs) (drop-drop (end - start) start rows ∙ ap (λ k. drop k rows) e)
      )

  ahead_before : length ahead ≤ f.first
  ahead_before = omega (arith, length-ahead)

  past_after : 1 ≤ length past → f.last < length ahead + length (covered f rows)
  past_after h = omega (arith, h, length-drop end rows, length-ahead, length-covered)

  pub covered_inside : (k : ℕ) → k < length (covered f rows) → in_span f (start + k) ≡ true
  covered_inside k h = within_span f (start + k) (omega (arith, length-covered)) (omega (arith, length-covered))

  seen_parted : map seen rows ≡ map seen ahead ++ (map seen (covered f rows) ++ map seen past)
  seen_parted = ap (map seen) parted ∙ map-append seen ahead (covered f rows ++ past) ∙ ap (λ xs. map seen ahead ++ xs) (map-append seen (covered f rows) past)

  periods_parted : periods rows ≡ periods ahead ++ (periods (covered f rows) ++ periods past)
  periods_parted =
      ap (map period_of) seen_parted
      ∙ map-append period_of (map seen ahead) (map seen (covered f rows) ++ map seen past)
      ∙ ap (λ xs. periods ahead ++ xs) (map-append period_of (map seen (covered f rows)) (map seen past))

  length-seen : (xs : List Row) → length (map seen xs) ≡ length xs
  length-seen xs = length-map xs seen

  length-periods : (xs : List Row) → length (periods xs) ≡ length xs
  length-periods xs = length-map (map seen xs) period_of ∙ length-seen xs

  periods_before : length (periods ahead) ≤ f.first
  periods_before = omega (arith, length-periods ahead, ahead_before)

  periods_after : 1 ≤ length (periods past) → f.last < length (periods ahead) + length (periods (covered f rows))
  periods_after h = omega (arith, length-periods ahead, length-periods (covered f rows), past_after (omega (arith, h, length-periods past)))

  seen_before : length (map seen ahead) ≤ f.first
  seen_before = omega (arith, length-seen ahead, ahead_before)

  seen_after : 1 ≤ length (map seen past) → f.last < length (map seen ahead) + length (map seen (covered f rows))
  seen_after h = omega (arith, length-seen ahead, length-seen (covered f rows), past_after (omega (arith, h, length-seen past)))

  pub rewritten_covered : rewritten f 0 (periods rows) ≡ rewritten f start (periods (covered f rows))
  rewritten_covered =
      ap (rewritten f 0) periods_parted
      ∙ rewritten_between f (periods ahead) (periods (covered f rows)) (periods past) periods_before periods_after
      ∙ ap (λ j. rewritten f j (periods (covered f rows))) (length-periods ahead ∙ length-ahead)

  pub every_covered : every (sort_fits f) 0 (periods rows) ≡ list_all (λ r. of_sort f.cause (period_seen r).sort) (covered f rows)
  every_covered =
      ap (every (sort_fits f) 0) periods_parted
      ∙ every_between f (periods ahead) (covered f rows) (periods past) periods_before (λ h. omega (arith, length-periods (covered f rows), periods_after h)) (λ k h. subst (λ j. in_span f (j + k) ≡ true) (sym (length-periods ahead ∙ length-ahead)) (covered_inside k h))

  module _ (m : Method) where
    pub asked_covered : rewritten f 0 (corrected f m 0 0 0 (periods rows)) ≡ rewritten f start (corrected f m start 0 0 (periods (covered f rows)))
    asked_covered =
        ap (λ ps. rewritten f 0 (corrected f m 0 0 0 ps)) periods_parted
        ∙ asked_between f m (periods ahead) (periods (covered f rows)) (periods past) periods_before periods_after
        ∙ ap (λ j. rewritten f j (corrected f m j 0 0 (periods (covered f rows)))) (length-periods ahead ∙ length-ahead)

    pub relaid_covered : (t : Tariff) → relaid t f m 0 0 0 (map seen rows) ≡ map seen ahead ++ (relaid t f m start 0 0 (map seen (covered f rows)) ++ map seen past)
    relaid_covered t =
        ap (relaid t f m 0 0 0) seen_parted
        ∙ relaid_between f m t (map seen ahead) (map seen (covered f rows)) (map seen past) seen_before seen_after
        ∙ ap (λ j. map seen ahead ++ (relaid t f m j 0 0 (map seen (covered f rows)) ++ map seen past)) (length-seen ahead ∙ length-ahead)

    pub posts_covered : (t : Tariff) (hold : ℕ) → posts t f m hold 0 0 0 (map seen rows) ≡ posts t f m hold start 0 0 (map seen (covered f rows))
    posts_covered t hold =
        ap (posts t f m hold 0 0 0) seen_parted
        ∙ posts_between f m t hold (map seen ahead) (map seen (covered f rows)) (map seen past) seen_before seen_after
        ∙ ap (λ j. posts t f m hold j 0 0 (map seen (covered f rows))) (length-seen ahead ∙ length-ahead)

-- the rows of a span are those of the memory, where its first n places are filled
pub covered_part : (f : Finding) (memory : List Row) (n : ℕ) → n ≤ length memory → take (span_end f n - span_start f n) (drop (span_start f n) memory) ≡ covered f (take n memory)
unfolding covered
covered_part f memory n h =
    let s = span_start f n in
    let e = span_end f n in
    let rest : s + (n - s) ≡ n = omega arith in
    sym (take-take (e - s) (n - s) (drop s memory) (omega arith))
    ∙ ap (take (e - s)) (sym (drop-take s (n - s) memory) ∙ ap (λ k. drop s (take k memory)) rest)
    ∙ ap (λ k. take (span_end f k - span_start f k) (drop (span_start f k) (take n memory))) (sym (length-take-le n memory h))

-- a row of the span is rewritten by its sort
pub covered_by_sort : (f : Finding) (all rows : List Row) (i : ℕ) (p : Period) (b : Bool) → rows ≡ covered f all → i < length rows → b ≡ rewrites_sort f.cause p.sort → rewrites f (span_start f (length all) + i) p ≡ b
covered_by_sort f all rows i p b e h k = by_sort f (span_start f (length all)) (length (covered f all)) i p b (covered_inside f all) (omega (arith, ap length e)) k
