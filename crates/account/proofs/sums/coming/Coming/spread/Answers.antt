use Rattle.std.proofs.Common.{suc, ◌+◌, ◌<◌, ◌++◌, map, length, get_or, drop, ap, ◌∙◌, add-one, arith}
use Rattle.std.proofs.lemmas.List.{get_or_default, map-append}
use Rattle.std.proofs.lemmas.Bool.{le-leb}
use Rattle.rules.specs.Sharing.{instalment}
use Rattle.account.specs.Bounds.{seen, none}
use Rattle.account.proofs.sums.Tables.{turn_low, turn_in, turn_all, instalment_most, spread_front, low_front}
use Rattle.account.proofs.sums.coming.Coming.spread.Goals as goal

pub raise-requires : goal.raise-requires
raise-requires c =
    let u = c.args.s.cents.0 in
    let n = c.args.s.bills.count in
    let places = c.loop-b.place-items in
    let b = c.loop-b.b in
    let x = get_or places b none in
    let l = turn_low u n _ places b c.loop-b.invariant (omega arith) x (get_or_default places b none x (omega arith)) 1024 (low_front _ _ 1024 c.requires) in
    record {
      fits = omega (arith, l.0, c.instalment.ensures, instalment_most u n (b + 1), c.args.s.modest);
      counted = omega (arith, l.1);
    }

pub loop-b-preserved : goal.loop-b-preserved
loop-b-preserved c =
    let u = c.args.s.cents.0 in
    let n = c.args.s.bills.count in
    let places = c.loop-b.place-items in
    let b = c.loop-b.b in
    let x = get_or places b none in
    let part = c.instalment.ensures ∙ ap (instalment u n) (add-one b) in
    turn_in u n _ places b c.loop-b.invariant (omega arith) x _ (get_or_default places b none x (omega arith)) (le-leb (suc b) n (omega arith))
    (ap seen c.raise.ensures ∙ ap (λ (p : _). record { cents = x.cents.0 + p; count = x.count + 1 }) part)

pub returns : goal.returns
returns c =
    let u = c.args.s.cents.0 in
    let n = c.args.s.bills.count in
    let old = c.args.self.now.places in
    let done = turn_all u n _ _ _ c.loop-b.invariant (omega arith) (omega arith) in
    map-append seen c.loop-b.place-items (drop n old)
    ∙ ap (λ (is : _). is ++ map seen (drop n old)) done
    ∙ spread_front u n 1 n old (λ (h : n < length old). omega arith)
