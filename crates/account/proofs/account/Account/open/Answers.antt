use Rattle.std.proofs.Common.{ℕ, pos, refl, ap, sym, ◌∙◌}
use Rattle.rules.specs.Shown.{Answer}
use Rattle.book.specs.Pages.{fresh}
use Rattle.account.proofs.Calls.{pass, opened_is}
use Rattle.account.proofs.account.Account.open.Goals as goal

pub returns-clause-answer : goal.returns-clause-answer
returns-clause-answer g c =
    let worth_nothing : ℕ → Answer = λ q. record { number = q; value = pos 0 } in
    sym (ap worth_nothing (pass _ _ _ _ c.in_ok-opening.ensures.0 refl))

pub returns-clause-made : goal.returns-clause-made
returns-clause-made g c =
    let said = c.in_ok-opening.ensures in
    let m = c.args.memory.now in
    let sheet = c.take.ensures.value in
    let journal = c.take-2.ensures.value in (
      pass _ _ _ _ said.0 refl,
      (
        opened_is g.T.Tariff.meaning _ c.args.day m.sheet.now m.journal.now said.1 refl refl c.new-sums.ensures
            (c.new-sheet.ensures.made ∙ ap (λ r. fresh r.now 120) sheet)
            (c.new-journal.ensures.made ∙ ap (λ r. fresh r.now 1024) journal),
        record { rows = c.new-sheet.ensures.lent ∙ ap (λ r. r.ghost_name) sheet; lines = c.new-journal.ensures.lent ∙ ap (λ r. r.ghost_name) journal },
      ),
    )
