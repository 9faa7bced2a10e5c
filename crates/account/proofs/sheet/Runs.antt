-- The unmetered rows that stand at the end. Assumes nothing.
use Rattle.std.proofs.Common.{◌≡◌, ℕ, ◌+◌, Bool, cond, List, [], ◌∷◌, ◌++◌, map, refl, sym, ap, ◌∙◌, arith}
use Rattle.std.specs.Prelude.{reverse}
use Rattle.std.specs.List.{prefix_len}
use Rattle.std.proofs.lemmas.List.{reverse-append, reverse-reverse, map_push}
use Rattle.rules.specs.Subject.{Period, unmetered}
use Rattle.rules.specs.Laid.{run_on, run_past, run}
use Rattle.rules.specs.Machine.{period_of}
use Rattle.figures.specs.View.{seen, period_seen}
use Rattle.figures.specs.declared.row.Row.{Row}
use Rattle.account.specs.Rows.{periods}

abbrev pub is_not_read : Row → Bool
is_not_read r = unmetered (period_seen r)

run_last : (n : ℕ) (ps : List Period) (p : Period) → run_past n (ps ++ (p ∷ [])) ≡ run_on (run_past n ps) p
run_last n [] p = refl
run_last n (q ∷ ps) p = run_last (run_on n q) ps p

-- counted from the end, they are the rows before the first that is read
run_back : (rows : List Row) → run (periods (reverse rows)) ≡ prefix_len is_not_read rows
run_back [] = refl
run_back (r ∷ rows) =
    let n = prefix_len is_not_read rows in
    let more : n + 1 ≡ 1 + n = omega arith in
    ap (λ xs. run (periods xs)) (reverse-append (r ∷ []) rows)
    ∙ ap (λ xs. run (map period_of xs)) (map_push seen (reverse rows) r)
    ∙ ap run (map_push period_of (map seen (reverse rows)) (seen r))
    ∙ run_last 0 (periods (reverse rows)) (period_seen r)
    ∙ ap (λ k. run_on k (period_seen r)) (run_back rows)
    ∙ ap (λ k. cond (is_not_read r) k 0) more

pub run_ends : (rows : List Row) → prefix_len is_not_read (reverse rows) ≡ run (periods rows)
run_ends rows = sym (run_back (reverse rows)) ∙ ap (λ xs. run (periods xs)) (reverse-reverse rows)
