use Rattle.std.proofs.Common.{rules}
use Rattle.events.proofs.Begins.{unchosen}
use Rattle.events.proofs.read.read_form.Goals as goal

pub returns-in_default : goal.returns-in_default
returns-in_default c = unchosen c.args.line.now (search rules)

pub returns-in_default-2 : goal.returns-in_default-2
returns-in_default-2 c = unchosen c.args.line.now (search rules)

pub returns-in_default-3 : goal.returns-in_default-3
returns-in_default-3 c = unchosen c.args.line.now (search rules)

pub returns-in_default-4 : goal.returns-in_default-4
returns-in_default-4 c = unchosen c.args.line.now (search rules)

pub returns-in_default-5 : goal.returns-in_default-5
returns-in_default-5 c = unchosen c.args.line.now (search rules)

pub returns-in_default-6 : goal.returns-in_default-6
returns-in_default-6 c = unchosen c.args.line.now (search rules)

pub returns-in_default-7 : goal.returns-in_default-7
returns-in_default-7 c = unchosen c.args.line.now (search rules)

pub returns-in_default-8 : goal.returns-in_default-8
returns-in_default-8 c = unchosen c.args.line.now (search rules)
