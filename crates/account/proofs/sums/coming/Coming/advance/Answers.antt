use Rattle.std.proofs.Common.{◌≡◌, ◌-◌, ◌++◌, map, length, take, drop, set, sym, refl, ap, ◌∙◌, arith, rules}
use Rattle.account.specs.Bounds.{seen, none}
use Rattle.account.proofs.sums.Tables.{turned}
use Rattle.account.proofs.sums.coming.Coming.advance.Goals as goal

pub returns : goal.returns
returns c =
    let old = c.args.self.now.places in
    let twelve : length old ≡ 12 = search rules in
    let last : length old - 1 ≡ 11 = omega arith in
    ap (λ t. map seen (set t 11 none)) c.rotate_left.ensures.after
    ∙ ap (λ i. map seen (set (drop 1 old ++ take 1 old) i none)) (sym last)
    ∙ turned old none refl (omega arith)
