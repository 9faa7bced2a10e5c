-- A list of requests whose answers are written one after another.
use Rattle.std.proofs.Common.{◌≡◌, ℕ, ◌+◌, ◌<◌, List, [], ◌∷◌, ◌++◌, map, length, take, set, Some, Result, option_map, ap, ◌∙◌}
use Rattle.std.proofs.lemmas.List.{take_more_set, map_push}
use Rattle.rules.specs.Subject.{Method}
use Rattle.account.specs.declared.refusal.Refusal.{Refusal}
use Rattle.run.specs.declared.answer.Done.{Done}
use Rattle.run.specs.declared.ask.Ask.{Ask}
use Rattle.run.specs.declared.request.Request.{Request}
use Rattle.run.specs.Calls.{call_of, answer_of, asks_in, calls_in, answers_in}

-- a call made, with its answer beside it
abbrev pub made : {M : Type 0} → Ask M → Result Done Refusal → Request M
made ask r = record { ask = ask; answer = Some r }

module _ {M : Type 0} (xs : List (Request M)) (i : ℕ) (x : Request M) (h : i < length xs) where
  pub calls_next : (mean : M → Method) → calls_in mean (take (i + 1) (set xs i x)) ≡ calls_in mean (take i xs) ++ (call_of mean x.ask ∷ [])
  calls_next mean =
      ap (calls_in mean) (take_more_set xs i x h)
      ∙ ap (map (call_of mean)) (map_push (λ r. r.ask) (take i xs) x)
      ∙ map_push (call_of mean) (asks_in (take i xs)) x.ask

  pub answers_next : answers_in (take (i + 1) (set xs i x)) ≡ answers_in (take i xs) ++ (option_map answer_of x.answer ∷ [])
  answers_next = ap answers_in (take_more_set xs i x h) ∙ map_push (λ r. option_map answer_of r.answer) (take i xs) x
