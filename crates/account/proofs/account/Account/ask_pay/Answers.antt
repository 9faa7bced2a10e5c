use Rattle.std.proofs.Common.{sym, refl, ap, ◌∙◌}
use Rattle.rules.specs.Questions.{asked}
use Rattle.account.specs.Answers.{number_of}
use Rattle.account.specs.declared.refusal.Refusal.TheVariants.{Figures}
use Rattle.account.proofs.Calls.{pass, stop, asked_err}
use Rattle.account.proofs.account.Account.ask_pay.Goals as goal

pub returns-in_err-hold : goal.returns-in_err-hold
unfolding asked
returns-in_err-hold g c =
    let said = c.in_err-hold.ensures in
    asked_err _ _ c.from_residual.result c.in_err-hold.field-0.0 c.from_residual.ensures.1 (stop _ _ _ said.0 ∙ sym (ap number_of said.1))

pub returns-in_err-payment : goal.returns-in_err-payment
unfolding asked
returns-in_err-payment g c =
    asked_err _ _ c.from_residual-in_err-payment.result Figures c.from_residual-in_err-payment.ensures.1
    (pass _ _ _ _ c.in_ok-hold.ensures.0 (stop _ _ _ c.in_err-payment.ensures))

pub returns-in_err-journal_takes : goal.returns-in_err-journal_takes
unfolding asked
returns-in_err-journal_takes g c =
    let said = c.in_err-journal_takes.ensures in
    asked_err _ _ c.from_residual-in_err-journal_takes.result c.in_err-journal_takes.field-0.0 c.from_residual-in_err-journal_takes.ensures.1
    (pass _ _ _ _ c.in_ok-hold.ensures.0 (pass _ _ _ _ c.in_ok-payment.ensures.0 (stop _ _ _ said.0 ∙ sym (ap number_of said.1))))

pub returns : goal.returns
unfolding asked
returns g c =
    let held = c.in_ok-hold.ensures in
    let figures = c.in_ok-payment.ensures in
    let room = c.in_ok-journal_takes.ensures in
    (pass _ _ _ _ held.0 (pass _ _ _ _ figures.0 (pass _ _ _ _ room.0 refl)), (held.1, figures.1, room.1))
