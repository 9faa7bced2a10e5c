-- The call that a line makes after a history, and what serving the line promises by the law. Histories are newest first.
use Rattle.std.specs.Prelude.{◌≡◌, ℕ, List, ℤ, Result}
use Rattle.rules.specs.Subject.{Tariff, Call, Opening}
use Rattle.rules.specs.Given.{accepted, billed}
use Rattle.account.specs.declared.account.Account.{Account}
use Rattle.account.specs.State.{opening_of, Same, Keeps}
use Rattle.events.specs.Events.{event_of}
use Rattle.desk.specs.declared.fault.Fault.{Fault}
use Rattle.desk.specs.Calls.{Outcome, line_call, outcome_after, with_call}
use Rattle.desk.specs.Called.{outcome_of}

-- the call that a line makes after these calls: its method is made of the periods that the accepted ones give
abbrev pub call_after : Opening → List Call → List ℕ → Result Call Outcome
call_after o h line = line_call (billed o (accepted o h)) (event_of line)

-- a line by the law: b is opened as a was, over the same memory (Same); and whatever history a keeps the law of, b keeps
-- the law of it with the line's call, if it makes one, and the line was answered as the history has it
pub record LawfulLine {T : Type 0} (mean : T → Tariff) (a b : Account T) (line : List ℕ) (r : Result ℤ Fault) : Type 0 where
  pub same : Same mean a b
  pub law : (h : List Call) → Keeps mean h a → Keeps mean (with_call h (call_after (opening_of a) h line)) b
  pub answer : (h : List Call) → Keeps mean h a →
      outcome_of r ≡ outcome_after (mean a.tariff) (opening_of a) h (call_after (opening_of a) h line)
