use Rattle.std.proofs.Common.{rules}
use Rattle.page.proofs.Steps.{◌then◌, stopped, risen, spelled_as}
use Rattle.statements.proofs.entries.answer_line.Goals as goal

pub returns-in_err-figure : goal.returns-in_err-figure
returns-in_err-figure c =
    risen c.from_residual-in_err-figure.ensures.0
    (stopped _ (stopped _ (stopped _ ((rw c.layer_letter.ensures at c.in_ok-text.ensures.after) then (rw c.from.ensures at c.in_err-figure.ensures.after)))))

pub returns-in_err-push : goal.returns-in_err-push
returns-in_err-push c =
    risen c.from_residual-in_err-push.ensures.0
    (stopped _
    (stopped _ ((rw c.layer_letter.ensures at c.in_ok-text.ensures.after) then (rw c.from.ensures at c.in_ok-figure.ensures.after) then c.in_err-push.ensures.after)))

pub returns-in_err-cents : goal.returns-in_err-cents
returns-in_err-cents c =
    risen c.from_residual-in_err-cents.ensures.0
    (stopped _
    ((rw c.layer_letter.ensures at c.in_ok-text.ensures.after)
    then (rw c.from.ensures at c.in_ok-figure.ensures.after)
    then c.in_ok-push.ensures.after
    then (spelled_as (search rules) c.in_err-cents.ensures.after)))

pub returns : goal.returns
returns c =
    (rw c.layer_letter.ensures at c.in_ok-text.ensures.after)
    then (rw c.from.ensures at c.in_ok-figure.ensures.after)
    then c.in_ok-push.ensures.after
    then (spelled_as (search rules) c.in_ok-cents.ensures.after)
    then c.push-2.ensures.after
