use Rattle.std.proofs.Common.{◌-◌, take, drop, ap₂}
use Rattle.account.specs.Rows.{covered}
use Rattle.account.proofs.sheet.found.Found.covered.Goals as goal

pub returns : goal.returns
unfolding covered
returns c =
    let places = c.places-places.ensures in
    ap₂ (λ a b. take (b - a) (drop a c.args.self.now.rows.now)) places.start places.end
