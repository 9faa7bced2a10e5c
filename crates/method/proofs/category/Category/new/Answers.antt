use Rattle.std.proofs.Common.{rules}
use Rattle.method.proofs.Made.{category_made_of}
use Rattle.method.proofs.category.Category.new.Goals as goal

pub returns-clause-made : goal.returns-clause-made
returns-clause-made c = category_made_of _ c.args.figure.0 c.args.peak c.args.demand.0 (search rules) (search rules) (search rules) (search rules)
