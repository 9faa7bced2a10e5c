use Rattle.std.proofs.Common.{refl}
use Rattle.std.specs.Fmt.{digits}
use Rattle.rules.specs.Sharing.{whole, brought}
use Rattle.rules.specs.Laid.{without_reading, rewritten, corrected}
use Rattle.rules.specs.Questions.{asked}
use Rattle.rules.specs.Given.{billed, used, accepted}
use Rattle.rules.specs.Owed.{undercharges}
use Rattle.rules.specs.Journal.{changes, lines_of, lines}
use Rattle.worked_page.proofs.worked_page_stands.Goals as goal

pub returns : goal.returns
unfolding digits whole brought without_reading rewritten corrected asked billed used accepted changes lines_of lines undercharges
returns c = record { page = refl; rows = refl; year_page = refl; year_rows = refl }
