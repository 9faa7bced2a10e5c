use Rattle.std.proofs.Common.{rules}
use Rattle.rules.specs.Subject.{is_read}
use Rattle.account.proofs.sheet.Tested.{row_asked}
use Rattle.account.proofs.sheet.found.Found.read_at.Goals as goal

pub returns : goal.returns
returns c = row_asked (λ p. is_read p.sort) c.args.self.now.rows.now c.args.row c.get.result _ c.get.ensures.lookup (search rules)
