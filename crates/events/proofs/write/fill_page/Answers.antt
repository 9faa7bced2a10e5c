use Rattle.std.proofs.Common.{length}
use Rattle.page.proofs.Steps.{unfit}
use Rattle.events.proofs.write.fill_page.Goals as goal

pub returns-in_err-put_line-clause-value : goal.returns-in_err-put_line-clause-value
returns-in_err-put_line-clause-value c =
    unfit (length c.args.page.now) _ c.from_residual.ensures.0 c.new-page.ensures.made.0 c.new-page.ensures.made.1 c.in_err-put_line.ensures
