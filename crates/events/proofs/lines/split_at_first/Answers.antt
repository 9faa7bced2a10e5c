use Rattle.std.proofs.Common.{◌+◌, sym, ◌∙◌, arith}
use Rattle.std.proofs.lemmas.List.{take_rest, take_all}
use Rattle.events.proofs.Found.{found_some, found_none}
use Rattle.events.proofs.lines.split_at_first.Goals as goal

pub returns-in-Some : goal.returns-in-Some
returns-in-Some c =
    let first = found_some c.args.mark c.args.text.now c.in-Some.end c.in-Some.ensures in
    record { before = cc; after = (omega arith, take_rest c.args.text.now (c.in-Some.end + 1) ∙ cc) }

pub returns-in-None : goal.returns-in-None
returns-in-None c =
    let first = found_none c.args.mark c.args.text.now c.in-None.ensures in
    record { before = sym (take_all _ c.args.text.now (omega arith)); after = first }
