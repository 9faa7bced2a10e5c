use Rattle.std.proofs.Common.{rules}
use Rattle.method.proofs.Made.{test_made_of}
use Rattle.method.proofs.test_meter.TestMeter.new.Goals as goal

pub returns-clause-made : goal.returns-clause-made
returns-clause-made c =
    test_made_of c.in_ok-shown.shown.ok c.in_ok-tested.tested.ok c.args.shown.0 c.args.tested.0
    (search rules) (search rules) (search rules)
