use Rattle.std.proofs.Common.{rules, sym, ◌∙◌}
use Rattle.std.proofs.lemmas.Iterator.{YieldsList-from_slice}
use Rattle.std.proofs.lemmas.Iterator.Search.{all_from_yields_List}
use Rattle.std.proofs.lemmas.List.Folds.{list_all-map}
use Rattle.events.specs.Carried.{is_short}
use Rattle.events.specs.Writing.{text_of}
use Rattle.events.proofs.write.are_short.Goals as goal

pub returns : goal.returns
returns c =
    let fs = c.args.fields.now in
    all_from_yields_List (λ x. is_short (text_of x)) _ _ _ c.all.ensures.ran (YieldsList-from_slice fs cc) (λ x b q k. search rules)
    ∙ sym (list_all-map is_short text_of fs)
