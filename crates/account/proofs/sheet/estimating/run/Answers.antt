use Rattle.std.proofs.Common.{rules, tests, ap, ◌∙◌}
use Rattle.std.specs.Prelude.{min, reverse}
use Rattle.std.proofs.lemmas.Iterator.{YieldsList-from_take}
use Rattle.std.proofs.lemmas.Iterator.Adapters.{YieldsList-from_rev_slice}
use Rattle.std.proofs.lemmas.Iterator.Consumers.{YieldsList-at, count_from_yields_List}
use Rattle.std.proofs.lemmas.Iterator.Search.{YieldsList-from_take_while}
use Rattle.std.proofs.lemmas.List.{length-take}
use Rattle.std.proofs.lemmas.List.Folds.{length-prefix_len}
use Rattle.account.proofs.sheet.Runs.{is_not_read, run_ends}
use Rattle.account.proofs.sheet.estimating.run.Goals as goal

pub returns : goal.returns
returns c =
    let rows = c.args.rows.now in
    count_from_yields_List c.take.result _ c.count.ensures.ran
    (YieldsList-from_take 6 (YieldsList-at c.take.ensures.source (YieldsList-from_take_while _ is_not_read (YieldsList-from_rev_slice rows cc) c.take_while.ensures.closure c.take_while.ensures.done (λ x b q k. search (rules, tests)))) c.take.ensures.count)
    ∙ length-take 6 _
    ∙ ap (min 6) (length-prefix_len is_not_read (reverse rows) ∙ run_ends rows)
