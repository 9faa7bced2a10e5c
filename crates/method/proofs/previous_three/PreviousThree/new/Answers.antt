use Rattle.std.proofs.Common.{rules, map, arith}
use Rattle.figures.specs.View.{period_seen}
use Rattle.method.proofs.Three.{with_units}
use Rattle.method.proofs.Made.{previous_made_of}
use Rattle.method.proofs.previous_three.PreviousThree.new.Goals as goal

pub returns-clause-made : goal.returns-clause-made
returns-clause-made c =
    let f = c.args.from in
    let ps = map period_seen c.args.rows.now in
    previous_made_of _ f ps (with_units c.in_ok-three.three f ps (search rules) (search rules) (omega arith)) (search rules) (search rules)
