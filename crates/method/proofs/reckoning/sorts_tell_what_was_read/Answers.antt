use Rattle.method.proofs.ReadRows.{sorts_tell}
use Rattle.method.proofs.reckoning.sorts_tell_what_was_read.Goals as goal

pub returns : goal.returns
returns c = sorts_tell
