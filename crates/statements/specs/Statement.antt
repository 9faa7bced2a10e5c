-- What the page of a statement shows, by the lines of its text. Assumes nothing.
use Rattle.std.specs.Prelude.{ℕ, List, [], ◌∷◌, ◌++◌, ℤ}
use Rattle.std.specs.List.{flat_map}
use Rattle.rules.specs.Subject.{Tariff, Call, Opening}
use Rattle.rules.specs.Given.{accepted}
use Rattle.rules.specs.Shown.{Line}
use Rattle.rules.specs.Owed.{balance, due}
use Rattle.rules.specs.Journal.{lines}
use Rattle.desk.specs.Calls.{outcome_after, with_call}
use Rattle.desk.specs.Lawful.{call_after}
use Rattle.statements.specs.Texts.{told, journal_line, sums_line}

-- the calls that the lines make, newest first, after those made before them
abbrev pub calls : Opening → List Call → List (List ℕ) → List Call
calls o h [] = h
calls o h (l ∷ ls) = calls o (with_call h (call_after o h l)) ls

-- one answer for each line, after the calls that the lines before it make
abbrev pub replies : Tariff → Opening → List Call → List (List ℕ) → List ℕ
replies t o h [] = []
replies t o h (l ∷ ls) = told (outcome_after t o h (call_after o h l)) ++ replies t o (with_call h (call_after o h l)) ls

-- journal lines and sums on a page
abbrev pub account_text : List Line → (balance due : ℤ) → List ℕ
account_text ls balance due = flat_map journal_line ls ++ sums_line balance due

-- the result: the answers, and then what the accepted calls come to
abbrev pub result_text : Tariff → Opening → List (List ℕ) → List ℕ
result_text t o ls =
    let accepted_calls = accepted o (calls o [] ls) in
    replies t o [] ls ++ account_text (lines t o accepted_calls) (balance t o accepted_calls) (due t o accepted_calls)
