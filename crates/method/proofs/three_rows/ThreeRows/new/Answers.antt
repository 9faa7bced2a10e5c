use Rattle.std.proofs.Common.{◌≡◌, ◌-◌, length, drop, sym, ◌∙◌, subst, arith, length-drop, take_all}
use Rattle.method.specs.Reckoned.{ReckonedFrom}
use Rattle.method.proofs.Three.{three_are, not_three}
use Rattle.method.proofs.three_rows.ThreeRows.new.Goals as goal

pub returns-in_default : goal.returns-in_default
returns-in_default c =
    let few = c.in_default.len_below in
    let part = c.in_ok-get.ensures.lookup.0 in
    not_three c.args.rows.now c.args.from (omega (arith, part.3))

pub returns-in-len3-up : goal.returns-in-len3-up
returns-in-len3-up c =
    let xs = c.args.rows.now in
    let f = c.args.from in
    let ys = c.in_ok-get.field-0.now in
    let part = c.in_ok-get.ensures.lookup.0 in
    let all : ys ≡ drop f xs = part.2 ∙ take_all (length xs - f) (drop f xs) (omega (arith, length-drop f xs)) in
    let e = three_are xs ys f c.a-item.result c.b-item.result c.c-item.result all c.in-len3-up.len_at_least c.a-item.is c.b-item.is c.c-item.is in
    subst (λ ps. ReckonedFrom f ps c.of.result) (sym e) c.of.ensures
