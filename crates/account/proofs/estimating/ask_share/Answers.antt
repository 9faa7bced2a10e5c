use Rattle.std.proofs.Common.{sym, refl, ap, ◌∙◌}
use Rattle.std.proofs.lemmas.Bool.{or_right}
use Rattle.rules.specs.Laid.{laid, with_standing, unmetered_by}
use Rattle.rules.specs.Questions.{shares_fit}
use Rattle.rules.specs.Shown.{Row}
use Rattle.account.proofs.Calls.{pass}
use Rattle.account.proofs.estimating.ask_share.Goals as goal

pub returns : goal.returns
returns g c =
    let m = g.M.Method.meaning c.args.m.now in
    let first = c.args.term.first.figure in
    let last = c.args.term.last.figure in
    let fits =
    ap (λ b. shares_fit (unmetered_by b first last m)) c.if-late.false
    ∙ ap (λ (r : Row). shares_fit (with_standing (laid m 0 0 r.period) r.period)) (sym c.blank.ensures)
    ∙ sym c.if-not-share_fits.ensures in
    (pass _ _ 8 _ (or_right c.args.late _ (sym c.if-not-may_serve.ensures)) (pass _ 0 9 _ (or_right c.args.late _ fits) refl), λ e. fits)
