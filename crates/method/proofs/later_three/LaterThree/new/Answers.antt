use Rattle.std.proofs.Common.{rules, map}
use Rattle.figures.specs.View.{period_seen}
use Rattle.method.proofs.Made.{later_made_of}
use Rattle.method.proofs.later_three.LaterThree.new.Goals as goal

pub returns-clause-made : goal.returns-clause-made
returns-clause-made c = later_made_of _ c.args.from (map period_seen c.args.rows.now) (search rules) (search rules) (search rules)
