use Rattle.std.proofs.Common.{rules, tests, ◌≡◌, sym, ap, ◌∙◌}
use Rattle.std.specs.List.{list_all}
use Rattle.std.proofs.lemmas.Iterator.{YieldsList-from_slice}
use Rattle.std.proofs.lemmas.Iterator.Search.{all_from_yields_List}
use Rattle.rules.specs.Subject.{absent}
use Rattle.rules.specs.Questions.{of_sort}
use Rattle.method.specs.Uses.{finding_of}
use Rattle.figures.specs.View.{period_seen}
use Rattle.account.proofs.sheet.Covered.{every_covered}
use Rattle.account.proofs.sheet.found.Found.all_of_sort.Goals as goal

pub returns-then-eq : goal.returns-then-eq
returns-then-eq c =
    let f = finding_of c.args.self.now.finding in
    let reading_absent : f.cause ≡ absent = search (rules, tests) in
    all_from_yields_List (λ r. of_sort absent (period_seen r).sort) _ _ _ c.all.ensures.ran
    (YieldsList-from_slice c.covered-rows.result.now cc) (λ x b q k. search (rules, tests))
    ∙ ap (λ k. list_all (λ r. of_sort k (period_seen r).sort) c.covered-rows.result.now) (sym reading_absent)
    ∙ ap (list_all (λ r. of_sort f.cause (period_seen r).sort)) c.covered-rows.ensures
    ∙ sym (every_covered f c.args.self.now.rows.now)

pub returns : goal.returns
returns c =
    let f = finding_of c.args.self.now.finding in
    all_from_yields_List (λ r. of_sort f.cause (period_seen r).sort) _ _ _ c.all-2.ensures.ran
    (YieldsList-from_slice c.covered-rows.result.now cc) (λ x b q k. search (rules, tests))
    ∙ ap (list_all (λ r. of_sort f.cause (period_seen r).sort)) c.covered-rows.ensures
    ∙ sym (every_covered f c.args.self.now.rows.now)
