use Rattle.std.proofs.Common.{pos, sym, refl, ap, ◌∙◌}
use Rattle.rules.specs.Subject.{hand_back}
use Rattle.rules.specs.Questions.{asked}
use Rattle.rules.specs.Machine.{effect}
use Rattle.account.specs.Answers.{number_of}
use Rattle.account.proofs.Calls.{pass, stop, refused_by, lawful, done}
use Rattle.account.proofs.account.Account.hand_back.Goals as goal

pub returns-in_err-held : goal.returns-in_err-held
unfolding asked
returns-in_err-held g c =
    let said = c.in_err-held.ensures in
    let r = refused_by g.T.Tariff.meaning c.args.self.now (hand_back c.args.hold) (λ u. pos 0) c.from_residual.result c.in_err-held.field-0.0 c.from_residual.ensures.1 (stop _ _ _ said.0 ∙ sym (ap number_of said.1)) in
    record { after = r.0; law = r.1 }

pub returns : goal.returns
unfolding asked effect
returns g c =
    let s = done g.T.Tariff.meaning c.args.self.now _ (hand_back c.args.hold) (pos 0) (record {
      accepted = pass _ _ _ _ c.in_ok-held.ensures.0 refl;
      value = refl;
      state = refl;
      same = record { opening = refl; tariff = refl; sheet_past = refl; journal_past = refl; memory = record { sheet = refl; journal = refl } };
    }) in
    record { after = s; law = lawful g.T.Tariff.meaning _ _ _ _ s }
