use Rattle.std.proofs.Common.{rules}
use Rattle.account.proofs.sheet.Tested.{row_beyond}
use Rattle.account.proofs.sheet.found.Found.after.Goals as goal

pub returns : goal.returns
returns c test = row_beyond test c.args.self.now.rows.now _ c.args.self.now.finding.span.last (search rules)
