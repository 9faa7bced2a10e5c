use Rattle.std.proofs.Common.{◌+◌, not, ◌&&◌, sym, ap, ◌∙◌}
use Rattle.rules.specs.Subject.{unmetered}
use Rattle.rules.specs.Questions.{row_is}
use Rattle.method.specs.Uses.{finding_of}
use Rattle.account.specs.Rows.{periods}
use Rattle.account.proofs.sheet.Tested.{left_out_tested}
use Rattle.account.proofs.sheet.found.Found.none_left_out.Goals as goal

pub returns-then-not-unmetered_before : goal.returns-then-not-unmetered_before
returns-then-not-unmetered_before c =
    let f = finding_of c.args.self.now.finding in
    let ps = periods c.args.self.now.rows.now in
    ap not (c.unmetered_at.ensures ∙ c.after.ensures unmetered)
    ∙ ap (λ b. not b && not (row_is unmetered ps (f.last + 1))) (sym c.if-not-unmetered_before.true ∙ c.unmetered_before.ensures)
    ∙ sym (left_out_tested f ps)

pub returns-else-not-unmetered_before : goal.returns-else-not-unmetered_before
returns-else-not-unmetered_before c =
    let f = finding_of c.args.self.now.finding in
    let ps = periods c.args.self.now.rows.now in
    ap not c.if-not-unmetered_before.false
    ∙ ap (λ b. not b && not (row_is unmetered ps (f.last + 1))) (sym c.if-not-unmetered_before.false ∙ c.unmetered_before.ensures)
    ∙ sym (left_out_tested f ps)
