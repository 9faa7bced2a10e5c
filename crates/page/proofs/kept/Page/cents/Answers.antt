use Rattle.std.proofs.Common.{rules}
use Rattle.page.proofs.Steps.{◌then◌, spelled_as}
use Rattle.page.proofs.kept.Page.cents.Goals.{then-amount-lt0+in_ok-push, else-amount-lt0}
use Rattle.page.proofs.kept.Page.cents.Goals as goal

pub returns-else-is_err-clause-after : goal.returns-else-is_err-clause-after
returns-else-is_err-clause-after c = elim c.if-amount-lt0.branch [
  | then-amount-lt0+in_ok-push w ↦
      spelled_as (search rules) (w.in_ok-push.ensures.after then (rw w.self-is at c.figure-digits.ensures.after))
  | else-amount-lt0 w ↦
      spelled_as (search rules) (rw w.self-is at c.figure-digits.ensures.after)
]
