use Rattle.page.proofs.Steps.{◌then◌, stopped, risen}
use Rattle.statements.proofs.entries.journal.Goals as goal

pub returns-in_err-figure : goal.returns-in_err-figure
returns-in_err-figure c =
    risen c.from_residual-in_err-figure.ensures.0
    (stopped _ (stopped _ (stopped _ (stopped _ (stopped _
    (c.in_ok-text.ensures.after
    then c.in_err-figure.ensures.after))))))

pub returns-in_err-text-2 : goal.returns-in_err-text-2
returns-in_err-text-2 c =
    risen c.from_residual-in_err-text-2.ensures.0
    (stopped _ (stopped _ (stopped _ (stopped _
    (c.in_ok-text.ensures.after
    then c.in_ok-figure.ensures.after
    then (rw c.letter.ensures at c.in_err-text-2.ensures.after))))))

pub returns-in_err-row : goal.returns-in_err-row
returns-in_err-row c =
    risen c.from_residual-in_err-row.ensures.0
    (stopped _ (stopped _ (stopped _
    (c.in_ok-text.ensures.after
    then c.in_ok-figure.ensures.after
    then (rw c.letter.ensures at c.in_ok-text-2.ensures.after)
    then c.in_err-row.ensures))))

pub returns-in_err-push : goal.returns-in_err-push
returns-in_err-push c =
    risen c.from_residual-in_err-push.ensures.0
    (stopped _ (stopped _
    (c.in_ok-text.ensures.after
    then c.in_ok-figure.ensures.after
    then (rw c.letter.ensures at c.in_ok-text-2.ensures.after)
    then c.in_ok-row.ensures
    then c.in_err-push.ensures.after)))

pub returns-in_err-cents : goal.returns-in_err-cents
returns-in_err-cents c =
    risen c.from_residual-in_err-cents.ensures.0
    (stopped _
    (c.in_ok-text.ensures.after
    then c.in_ok-figure.ensures.after
    then (rw c.letter.ensures at c.in_ok-text-2.ensures.after)
    then c.in_ok-row.ensures
    then c.in_ok-push.ensures.after
    then c.in_err-cents.ensures.after))

pub returns : goal.returns
returns c =
    c.in_ok-text.ensures.after
    then c.in_ok-figure.ensures.after
    then (rw c.letter.ensures at c.in_ok-text-2.ensures.after)
    then c.in_ok-row.ensures
    then c.in_ok-push.ensures.after
    then c.in_ok-cents.ensures.after
    then c.push-2.ensures.after
