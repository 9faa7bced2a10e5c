-- The call that a line of the text makes, and what the line is answered. Assumes nothing.
use Rattle.std.specs.Prelude.{ℕ, List, ◌∷◌, ℤ, pos, Ok, Err, Result}
use Rattle.rules.specs.Shown.{State}
use Rattle.rules.specs.Subject as rules
use Rattle.rules.specs.Subject.{Period, Tariff, Method, Call, Opening}
use Rattle.rules.specs.Law.{answer_to}
use Rattle.rules.specs.Machine.{step}
use Rattle.figures.specs.View.{reading_of}
use Rattle.method.specs.Uses.{finding_of}
use Rattle.method.specs.Made.{test_made, category_made, contract_made, previous_made, later_made}
use Rattle.events.specs.declared.event.Basis.{Basis}
use Rattle.events.specs.declared.event.Basis.TheVariants.{TestMeter, PreviousThree, LaterThree, ContractDemand}
use Rattle.events.specs.declared.event.Event.{Event}
use Rattle.events.specs.declared.event.Event.TheVariants.{Take, HandBack, Bill, Estimate, Correct, Pay}
use Rattle.events.specs.declared.fault.ReaderFault.{ReaderFault}
use Rattle.events.specs.Faults as reader
use Rattle.desk.specs.declared.fault.Layer.{Layer}
use Rattle.desk.specs.declared.fault.Layer.TheVariants.{Reader, Method as By-method, Account}

-- the method that a correction's line names, for a sheet with these periods, or the number by which it is refused
abbrev pub method_of : List Period → Basis → Result Method ℕ
method_of ps (TestMeter shown tested) = test_made shown.0 tested.0
method_of ps (PreviousThree from) = previous_made from ps
method_of ps (LaterThree from) = later_made from ps
method_of ps (ContractDemand kva utilization power load peak) = contract_made kva.0 utilization power load peak

-- what a line is answered: the layer, the number of the question that said no, or 0, and the value
pub record Outcome : Type 0 where
  pub layer : Layer
  pub number : ℕ
  pub value : ℤ

-- a call that brings a method: the method is made before it, or answers in its place
abbrev pub call_by : (Method → Call) → Result Method ℕ → Result Call Outcome
call_by call (Ok m) = Ok (call m)
call_by call (Err n) = Err (record { layer = By-method; number = n; value = pos 0 })

-- the call that an event makes, for a sheet with these periods
abbrev pub call_of : List Period → Event → Result Call Outcome
call_of ps (Take moment span) = Ok (rules.take moment span)
call_of ps (HandBack hold) = Ok (rules.hand_back hold)
call_of ps (Bill hold last reading) = Ok (rules.bill hold last (reading_of reading))
call_of ps (Estimate hold last figure peak demand) = call_by (rules.estimate hold last) (category_made figure.0 peak demand.0)
call_of ps (Correct hold finding basis) = call_by (rules.correct hold (finding_of finding)) (method_of ps basis)
call_of ps (Pay hold cents) = Ok (rules.pay hold cents.0)

-- the call that a line makes: of its event, or the reader answers in its place
abbrev pub line_call : List Period → Result Event ReaderFault → Result Call Outcome
line_call ps (Ok e) = call_of ps e
line_call ps (Err f) = Err (record { layer = Reader; number = reader.fault_number f; value = pos (reader.fault_value f) })

-- a call is answered by the account; where none is made the account stays as it was
abbrev pub answered : Tariff → Opening → State → Result Call Outcome → Outcome × State
answered t o s (Ok c) = let done = step t o s c in (record { layer = Account; number = done.0.number; value = done.0.value }, done.1)
answered t o s (Err out) = (out, s)

-- what a line is answered after a history: its call as the history has it
abbrev pub outcome_after : Tariff → Opening → List Call → Result Call Outcome → Outcome
outcome_after t o h (Ok c) = let a = answer_to t o h c in record { layer = Account; number = a.number; value = a.value }
outcome_after t o h (Err out) = out

-- the calls made, newest first, and then this one, if it is made
abbrev pub with_call : List Call → Result Call Outcome → List Call
with_call h (Ok c) = c ∷ h
with_call h (Err out) = h
