-- An account before and after a line of the text. Assumes nothing.
use Rattle.std.specs.Prelude.{◌≡◌, ◌≤◌, ℤ, pos, Ok, Err, Result}
use Rattle.rules.specs.Subject.{Tariff, Call}
use Rattle.account.specs.declared.account.Account.{Account}
use Rattle.account.specs.State.{state_of, opening_of, Same}
use Rattle.desk.specs.declared.fault.Fault.{Fault}
use Rattle.desk.specs.declared.fault.Layer.TheVariants.{Account as By-account}
use Rattle.desk.specs.Faults.{layer_of, fault_number, fault_value}
use Rattle.desk.specs.Calls.{Outcome, answered}

-- the outcome that a value or a refusal is: the account's where it was accepted, with number 0
abbrev pub outcome_of : Result ℤ Fault → Outcome
outcome_of (Ok value) = record { layer = By-account; number = 0; value = value }
outcome_of (Err f) = record { layer = layer_of f; number = fault_number f; value = pos (fault_value f) }

-- b is a after this call, if one is made, and the line was answered r; a refused line does not even ask the tariff
pub record Called {T : Type 0} (mean : T → Tariff) (a b : Account T) (c : Result Call Outcome) (r : Result ℤ Fault) : Type 0 where
  pub answer : outcome_of r ≡ (answered (mean a.tariff) (opening_of a) (state_of a) c).0
  pub state : state_of b ≡ (answered (mean a.tariff) (opening_of a) (state_of a) c).1
  pub same : Same mean a b
  pub unasked : 1 ≤ (outcome_of r).number → b.tariff ≡ a.tariff
