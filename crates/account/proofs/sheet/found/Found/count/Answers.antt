use Rattle.std.proofs.Common.{rules, tests, ◌≡◌, length, ap, ◌∙◌, arith}
use Rattle.std.specs.List.{filter}
use Rattle.std.proofs.lemmas.Iterator.{YieldsList-from_slice}
use Rattle.std.proofs.lemmas.Iterator.Consumers.{YieldsList-from_filter, count_from_yields_List}
use Rattle.rules.specs.Laid.{rewrites_sort, rewritten}
use Rattle.method.specs.Uses.{finding_of}
use Rattle.figures.specs.View.{period_seen}
use Rattle.figures.specs.declared.row.Row.{Row}
use Rattle.account.specs.Rows.{periods}
use Rattle.account.proofs.sheet.Listed.{rewritten_listed, rewritten_few}
use Rattle.account.proofs.sheet.found.Found.count.Goals as goal

counted : (c : goal.After-count) → c.count.result ≡ length (rewritten (finding_of c.args.self.now.finding) 0 (periods c.args.self.now.rows.now))
counted c =
    let f = finding_of c.args.self.now.finding in
    let sort = λ (r : Row). rewrites_sort f.cause (period_seen r).sort in
    count_from_yields_List c.filter.result _ c.count.ensures.ran
    (YieldsList-from_filter _ sort (YieldsList-from_slice c.covered.result.now cc) c.filter.ensures.closure (λ x r q k. search (rules, tests)))
    ∙ ap (λ rows. length (filter sort rows)) c.covered.ensures
    ∙ rewritten_listed f c.args.self.now.rows.now

pub returns-clause-value : goal.returns-clause-value
returns-clause-value c = counted c

pub returns-clause-few : goal.returns-clause-few
returns-clause-few c = omega (arith, counted c, rewritten_few (finding_of c.args.self.now.finding) 0 c.args.self.now.rows.now)
