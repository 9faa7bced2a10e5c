use Rattle.events.proofs.RoundTrip.{read_so, unread_so}
use Rattle.events.proofs.write.write_event.Goals as goal

pub returns-then-is_err-clause-unread : goal.returns-then-is_err-clause-unread
returns-then-is_err-clause-unread c = unread_so c.args.event c.args.page.now c.write_line-result.new.page _ c.write_line-result.ensures

pub returns-else-is_err-clause-read : goal.returns-else-is_err-clause-read
returns-else-is_err-clause-read c = read_so c.args.event c.args.page.now c.write_line-result.new.page _ c.write_line-result.ensures
