use Rattle.rules.proofs.Shares.{sharing_rule, instalment_rule}
use Rattle.rules.proofs.sharing_rule_stands.Goals as goal

pub returns : goal.returns
returns c = record { shares = sharing_rule; instalments = instalment_rule }
