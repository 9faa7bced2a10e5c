-- An account follows the run of the calls that lines make. Assumes nothing.
use Rattle.std.proofs.Common.{◌≡◌, ℕ, List, map, ℤ, Ok, Err, Result, refl, ap, ◌∙◌}
use Rattle.rules.specs.Subject.{Period, Tariff, Call, Opening}
use Rattle.rules.specs.Given.{accepted, billed}
use Rattle.rules.specs.Law.{Law}
use Rattle.rules.specs.Machine.{period_of, periods_of}
use Rattle.rules.proofs.Runs.{rows_periods}
use Rattle.rules.specs.Shown.{Answer, State}
use Rattle.rules.proofs.Stands.{law_step}
use Rattle.account.specs.declared.account.Account as account
use Rattle.account.specs.State.{state_of, opening_of, Keeps}
use Rattle.events.specs.Events.{event_of}
use Rattle.desk.specs.declared.fault.Fault.{Fault}
use Rattle.desk.specs.declared.fault.Layer.TheVariants.{Account}
use Rattle.desk.specs.Calls.{Outcome, line_call, answered, outcome_after, with_call}
use Rattle.desk.specs.Called.{Called}
use Rattle.account.proofs.Calls.{kept_by}
use Rattle.desk.specs.Lawful.{call_after, LawfulLine}

-- the account's periods are those that the accepted calls give
law_periods : (t : Tariff) (o : Opening) (h : List Call) (s : State) → Law t o h s → periods_of s ≡ billed o (accepted o h)
law_periods t o h s l = ap (map period_of) l.rows ∙ rows_periods t (billed o (accepted o h))

-- a call, if one is made
pub answered_law : (t : Tariff) (o : Opening) (h : List Call) (s : State) (c : Result Call Outcome) → Law t o h s → Law t o (with_call h c) (answered t o s c).1 × ((answered t o s c).0 ≡ outcome_after t o h c)
answered_law t o h s (Ok c) l =
    let n = law_step t o h s c l in
    (n.0, ap (λ (a : Answer). record { layer = Account; number = a.number; value = a.value }) n.1)
answered_law t o h s (Err out) l = (l, refl)

-- a line's call, whose method is made of the account's periods
pub answered_so : (t : Tariff) (o : Opening) (h : List Call) (s : State) (line : List ℕ) → Law t o h s → answered t o s (line_call (periods_of s) (event_of line)) ≡ answered t o s (call_after o h line)
answered_so t o h s line l = ap (λ (ps : List Period). answered t o s (line_call ps (event_of line))) (law_periods t o h s l)

pub lawful_line : {T : Type 0} (mean : T → Tariff) (a b : account.Account T) (line : List ℕ) (r : Result ℤ Fault) → Called mean a b (line_call (periods_of (state_of a)) (event_of line)) r → LawfulLine mean a b line r
lawful_line mean a b line r s =
    let t = mean a.tariff in
    let o = opening_of a in
    let so = λ (h : List Call) (l : Keeps mean h a). answered_so t o h (state_of a) line l in
    let after = λ (h : List Call) (l : Keeps mean h a). answered_law t o h (state_of a) (call_after o h line) l in
    record {
      same = s.same;
      law = λ h l. kept_by mean a b (with_call h (call_after o h line)) _ (after h l).0 (s.state ∙ ap (λ x. x.1) (so h l)) s.same;
      answer = λ h l. s.answer ∙ ap (λ x. x.0) (so h l) ∙ (after h l).1;
    }
