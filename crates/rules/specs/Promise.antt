-- The theorem of the law.
use Rattle.std.specs.Prelude.{◌≡◌, List, [], ◌∷◌}
use Rattle.rules.specs.Subject.{Tariff, Call, Opening}
use Rattle.rules.specs.Shown.{State}
use Rattle.rules.specs.Law.{Law, answer_to}
use Rattle.rules.specs.Machine.{opened, step}

-- An account just opened keeps the law of no calls. Where one keeps the law of a history, it keeps after one call
-- more the law of the history with that call, and the call is answered as the history has it. And the law tells
-- everything that an account shows: two that keep the law of one history are the same.
pub record AccountLaw : Type 0 where
  pub opened_keeps : (t : Tariff) (o : Opening) → Law t o [] opened
  pub call_keeps : (t : Tariff) (o : Opening) (h : List Call) (s : State) (c : Call) → Law t o h s →
      Law t o (c ∷ h) (step t o s c).1 × ((step t o s c).0 ≡ answer_to t o h c)
  pub same : (t : Tariff) (o : Opening) (h : List Call) (a b : State) → Law t o h a → Law t o h b → a ≡ b
