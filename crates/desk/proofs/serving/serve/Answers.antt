use Rattle.std.proofs.Common.{rules}
use Rattle.desk.proofs.Runs.{lawful_line}
use Rattle.desk.proofs.serving.serve.Goals as goal

pub returns-in_err-event-clause-law : goal.returns-in_err-event-clause-law
returns-in_err-event-clause-law g c = lawful_line g.T.Tariff.meaning c.args.account.now c.args.account.now c.args.line.now c.from_residual.result (search rules)

pub returns-clause-law : goal.returns-clause-law
returns-clause-law g c = lawful_line g.T.Tariff.meaning c.args.account.now c.call.new.account c.args.line.now c.call.result (search rules)
