use Rattle.std.proofs.Common.{map, sym, ap, ◌∙◌, ltb-true}
use Rattle.rules.specs.Laid.{next_day}
use Rattle.rules.specs.Machine.{period_of}
use Rattle.figures.specs.View.{seen}
use Rattle.account.proofs.Rows.{next_is}
use Rattle.account.proofs.account.Account.next_day.Goals as goal

pub returns-in-Some : goal.returns-in-Some
returns-in-Some g c =
    let rows = c.records.result.now in
    let last = c.in-Some.ensures.item in
    record {
      value =
          next_is c.args.self.now.opening.figure rows c.in-Some.row.now (ltb-true 0 _ (sym last.0)) last.1
          ∙ ap (λ xs. next_day c.args.self.now.opening.figure (map period_of (map seen xs))) c.records.ensures;
    }
