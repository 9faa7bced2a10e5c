use Rattle.std.proofs.Common.{◌*◌, div-lt_iff_lt-mul, sym, leb-true, le-leb, mul_comm, arith}
use Rattle.std.proofs.lemmas.Bool.{ltb_from_iff}
use Rattle.rules.specs.Sharing.{whole}
use Rattle.account.proofs.sheet.laying.whole_fits.Goals as goal

-- a quotient is below 1,000,001 where what is divided is below so many divisors
pub returns : goal.returns
unfolding whole
returns c =
    let both = div-lt_iff_lt-mul {k = c.args.lower} {x = c.args.weight * c.args.upper} {y = 1000001} c.requires.0 in
    let swapped = mul_comm c.args.lower 1000001 in
    sym (ltb_from_iff (
      λ h. omega (arith, swapped, both.0 (omega (arith, leb-true _ 1000000 h))),
      λ h. le-leb _ 1000000 (omega (arith, both.1 (omega (arith, swapped, h)))),
    ))
