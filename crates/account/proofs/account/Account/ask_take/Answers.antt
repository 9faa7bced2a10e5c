use Rattle.std.proofs.Common.{refl, arith}
use Rattle.std.proofs.lemmas.Bool.Decides.{nat_tests}
use Rattle.rules.specs.Questions.{asked}
use Rattle.account.proofs.Calls.{asked_err}
use Rattle.account.proofs.account.Account.ask_take.Goals as goal

pub returns-then-moment-gt1000000000000 : goal.returns-then-moment-gt1000000000000
unfolding asked
returns-then-moment-gt1000000000000 g c = grind (arith, nat_tests)

pub returns-in_err-is_free : goal.returns-in_err-is_free
unfolding asked
returns-in_err-is_free g c =
    let said = c.in_err-is_free.ensures in
    asked_err _ _ c.from_residual.result c.in_err-is_free.field-0.0 c.from_residual.ensures.1 (grind (arith, nat_tests))

pub returns-then-self : goal.returns-then-self
unfolding asked
returns-then-self g c = let said = c.in_ok-is_free.ensures in grind (arith, nat_tests)

pub returns : goal.returns
unfolding asked
returns g c = let said = c.in_ok-is_free.ensures in (grind (arith, nat_tests), (refl, omega arith, omega arith))
