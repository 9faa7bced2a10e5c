use Rattle.std.proofs.Common.{◌≡◌, ◌+◌, ◌++◌, decimal, take, arith}
use Rattle.std.proofs.lemmas.Grind.{common_steps}
use Rattle.page.proofs.Places.{placed}
use Rattle.page.proofs.kept.Page.figure.Goals as goal

pub returns : goal.returns
returns c =
    let p = c.args.self.now in
    let w = c.write_digits in
    let e : take (p.at + c.count_digits-digits.result) w.new.buf ≡ take p.at p.bytes.now ++ decimal c.args.n = placed _ _ _ _ _ _ w.ensures.before w.ensures.written (omega arith) (omega arith) in
    grind (arith, common_steps, e)
