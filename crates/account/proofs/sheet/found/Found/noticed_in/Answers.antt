use Rattle.std.proofs.Common.{rules}
use Rattle.rules.specs.Questions.{has_day}
use Rattle.account.proofs.sheet.Tested.{row_asked}
use Rattle.account.proofs.sheet.found.Found.noticed_in.Goals as goal

pub returns : goal.returns
returns c = row_asked (has_day c.args.self.now.finding.notice) c.args.self.now.rows.now c.args.row c.get.result _ c.get.ensures.lookup (search rules)
