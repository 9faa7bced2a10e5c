use Rattle.std.proofs.Common.{refl}
use Rattle.rules.specs.Sharing.{whole, brought}
use Rattle.rules.specs.Laid.{rewritten, corrected}
use Rattle.rules.specs.Questions.{asked}
use Rattle.rules.specs.Given.{billed, used}
use Rattle.rules.specs.Owed.{undercharges, instalments}
use Rattle.rules.specs.Journal.{changes, lines_of, lines}
use Rattle.worked.proofs.worked_figures_stand.Goals as goal

pub returns : goal.returns
unfolding whole brought rewritten corrected asked billed used undercharges instalments changes lines_of lines
returns c = record { figures = refl; totals = refl }
