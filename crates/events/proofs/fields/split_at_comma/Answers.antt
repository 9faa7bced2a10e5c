use Rattle.std.proofs.Common.{ℕ, ◌+◌, ◌<◌, ◌==◌, length, take, drop, sym, ap, ◌∙◌, arith, rules, take_all}
use Rattle.std.proofs.lemmas.List.Sums.{position_or_len_is}
use Rattle.std.proofs.lemmas.List.{take_rest}
use Rattle.events.proofs.fields.split_at_comma.Goals as goal

pub returns-in-Some : goal.returns-in-Some
returns-in-Some c =
    let inside : c.in-Some.end < length c.args.text.now = search rules in
    let found = position_or_len_is (λ (b : ℕ). b == 44) c.args.text.now c.in-Some.end 0 (search rules) (search rules) (search rules) in
    record { before = ap (λ n. take n c.args.text.now) (sym found); after = (omega arith, take_rest c.args.text.now _ ∙ ap (λ n. drop (n + 1) c.args.text.now) (sym found)) }

pub returns-in-None : goal.returns-in-None
returns-in-None c =
    let none = position_or_len_is (λ (b : ℕ). b == 44) c.args.text.now (length c.args.text.now) 0 (omega arith) (search rules) (search rules) in
    record { before = sym (ap (λ n. take n c.args.text.now) none ∙ take_all (length c.args.text.now) c.args.text.now (omega arith)); after = none }
