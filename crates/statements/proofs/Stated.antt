-- A statement under a tariff is the statement under its number. Assumes nothing.
use Rattle.std.proofs.Common.{◌≡◌, ℕ, ◌+◌, ◌-◌, Bool, [], sym, List, [], ◌++◌, length, replicate, Ok, Err, Result, ap, ◌∙◌, arith}
use Rattle.std.proofs.lemmas.List.{length-append, length-replicate}
use Rattle.std.proofs.lemmas.Bool.{eq-eqb}
use Rattle.rules.specs.Subject.{Tariff, Opening}
use Rattle.rules.proofs.Runs.{after}
use Rattle.rules.proofs.Stands.{after_law}
use Rattle.events.specs.Lines.{lines}
use Rattle.page.specs.Answered.{value_of, cleared, page_for}
use Rattle.statements.specs.Statement.{calls, replies, result_text}
use Rattle.statements.specs.declared.refused.Refused.{Refused}
use Rattle.statements.specs.declared.refused.Refused.TheVariants.{Figures, Page, Text}
use Rattle.statements.specs.Refusals.{number_of}
use Rattle.page.specs.Writes.{padded}
use Rattle.statements.proofs.Going.{shows}
use Rattle.statements.specs.Stated.{Stated, LawfulPage}

-- an accepted page shows an account that keeps the law
lawful_page : (t : Tariff) (o : Opening) (text page : List ℕ) (n number : ℕ) → page ≡ page_for n number (result_text t o (lines text)) → number ≡ 0 → LawfulPage t o text page
lawful_page t o text page n number e accepted =
    let w = result_text t o (lines text) in
    let h = calls o [] (lines text) in
    let is : page ≡ w ++ replicate (n - length w) 0 = e ∙ simp (eq-eqb _ _ accepted) in
    let long : length page ≡ length w + (n - length w) = ap length is ∙ simp (length-append, length-replicate) in
    let rest : n - length w ≡ length page - length w = omega arith in
    record {
      account = after t o h;
      law = after_law t o h;
      shows = is ∙ ap (λ m. w ++ replicate m 0) rest ∙ ap (λ x. padded (length page) (replies t o [] (lines text) ++ x)) (sym (shows t o h (after t o h) (after_law t o h)));
    }

-- an accepted statement
pub lawful : {t : Tariff} {o : Opening} {qs : List (ℕ × Bool)} {text before left : List ℕ} {number value : ℕ} → Stated t o qs text before left number value → number ≡ 0 → LawfulPage t o text left
lawful {t} {o} {qs} {text} {before} {left} {number} s accepted = lawful_page t o text left (length before) number s.page accepted

pub lawful_result : {t : Tariff} {o : Opening} {qs : List (ℕ × Bool)} {text before : List ℕ} (r : Result ℕ Refused) (page : List ℕ) → Stated t o qs text before (cleared r page) (number_of r) (value_of r) → number_of r ≡ 0 → LawfulPage t o text page
lawful_result (Ok bytes) page s accepted = lawful s accepted
lawful_result (Err Figures) page s accepted = cc
lawful_result (Err Page) page s accepted = cc
lawful_result (Err Text) page s accepted = cc
