use Rattle.std.proofs.Common.{◌≡◌, ◌+◌, leb, [], ◌∷◌, map, length, sym, refl, ap, ◌∙◌}
use Rattle.rules.specs.Laid.{rewritten}
use Rattle.rules.specs.Questions.{asked, first_no, rows_asked, journal_room}
use Rattle.rules.specs.Machine.{period_of, periods_of}
use Rattle.method.specs.Uses.{finding_of}
use Rattle.account.specs.State.{state_of, opening_of}
use Rattle.account.specs.Answers.{number_of}
use Rattle.account.specs.declared.refusal.Refusal.TheVariants.{Figures}
use Rattle.account.proofs.Calls.{pass, stop, asked_err, number_least, more_asked, all_asked}
use Rattle.account.proofs.account.Account.ask_correct.Goals as goal

pub returns-in_err-hold : goal.returns-in_err-hold
unfolding asked
returns-in_err-hold g c =
    let said = c.in_err-hold.ensures in
    asked_err _ _ c.from_residual.result c.in_err-hold.field-0.0 c.from_residual.ensures.1 (stop _ _ _ said.0 ∙ sym (ap number_of said.1))

pub returns-in_err-new : goal.returns-in_err-new
unfolding asked
returns-in_err-new g c =
    asked_err _ _ c.from_residual-in_err-new.result Figures c.from_residual-in_err-new.ensures.1
    (pass _ _ _ _ c.in_ok-hold.ensures.0 (stop _ _ _ c.in_err-new.ensures))

pub returns-in_err-lines : goal.returns-in_err-lines
unfolding asked
returns-in_err-lines g c =
    let a = c.args.self.now in
    let f = finding_of c.args.f in
    let m = g.M.Method.meaning c.args.m.now in
    let ps = ap (map period_of) c.rows.ensures in
    let e : first_no (rows_asked f m (periods_of (state_of a))) ≡ number_of c.in_err-lines.field-0.0 = ap (λ x. first_no (rows_asked f m x)) (sym ps) ∙ c.in_err-lines.ensures in
    asked_err _ _ c.from_residual-in_err-lines.result c.in_err-lines.field-0.0 c.from_residual-in_err-lines.ensures.1
    (pass _ _ _ _ c.in_ok-hold.ensures.0 (pass _ _ _ _ c.in_ok-new.ensures.0
    (more_asked (rows_asked f m (periods_of (state_of a))) ((10, leb (length (state_of a).lines + length (rewritten f 0 (periods_of (state_of a)))) (journal_room (opening_of a))) ∷ []) _ (number_least c.in_err-lines.field-0.0) e)))

pub returns-in_err-journal_takes : goal.returns-in_err-journal_takes
unfolding asked
returns-in_err-journal_takes g c =
    let a = c.args.self.now in
    let f = finding_of c.args.f in
    let m = g.M.Method.meaning c.args.m.now in
    let ps = ap (map period_of) c.rows.ensures in
    let said = c.in_err-journal_takes.ensures in
    let n : c.in_ok-lines.lines ≡ length (rewritten f 0 (periods_of (state_of a))) = c.in_ok-lines.ensures.1 ∙ ap (λ x. length (rewritten f 0 x)) ps in
    let e : first_no (rows_asked f m (periods_of (state_of a))) ≡ 0 = ap (λ x. first_no (rows_asked f m x)) (sym ps) ∙ c.in_ok-lines.ensures.0 in
    asked_err _ _ c.from_residual-in_err-journal_takes.result c.in_err-journal_takes.field-0.0 c.from_residual-in_err-journal_takes.ensures.1
    (pass _ _ _ _ c.in_ok-hold.ensures.0 (pass _ _ _ _ c.in_ok-new.ensures.0
    (all_asked (rows_asked f m (periods_of (state_of a))) ((10, leb (length (state_of a).lines + length (rewritten f 0 (periods_of (state_of a)))) (journal_room (opening_of a))) ∷ []) _ refl e
    (stop _ _ _ (ap (λ k. leb (length (state_of a).lines + k) (journal_room (opening_of a))) (sym n) ∙ said.0) ∙ sym (ap number_of said.1)))))

pub returns : goal.returns
unfolding asked
returns g c =
    let a = c.args.self.now in
    let f = finding_of c.args.f in
    let m = g.M.Method.meaning c.args.m.now in
    let ps = ap (map period_of) c.rows.ensures in
    let held = c.in_ok-hold.ensures in
    let n : c.in_ok-lines.lines ≡ length (rewritten f 0 (periods_of (state_of a))) = c.in_ok-lines.ensures.1 ∙ ap (λ x. length (rewritten f 0 x)) ps in
    let e : first_no (rows_asked f m (periods_of (state_of a))) ≡ 0 = ap (λ x. first_no (rows_asked f m x)) (sym ps) ∙ c.in_ok-lines.ensures.0 in (
      pass _ _ _ _ held.0 (pass _ _ _ _ c.in_ok-new.ensures.0
          (all_asked (rows_asked f m (periods_of (state_of a))) ((10, leb (length (state_of a).lines + length (rewritten f 0 (periods_of (state_of a)))) (journal_room (opening_of a))) ∷ []) _ refl e
          (pass _ _ _ _ (ap (λ k. leb (length (state_of a).lines + k) (journal_room (opening_of a))) (sym n) ∙ c.in_ok-journal_takes.ensures.0) refl))),
      held.1,
    )
