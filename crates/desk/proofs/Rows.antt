-- The rows that an account shows, as the periods that a method is made of. Assumes nothing.
use Rattle.std.proofs.Common.{◌≡◌, List, map, sym}
use Rattle.std.proofs.lemmas.Simd.{map-map}
use Rattle.rules.specs.Machine.{period_of}
use Rattle.figures.specs.declared.row.Row.{Row}
use Rattle.figures.specs.View.{seen, period_seen}

pub seen_periods : (rs : List Row) → map period_seen rs ≡ map period_of (map seen rs)
seen_periods rs = sym (map-map period_of seen rs)
