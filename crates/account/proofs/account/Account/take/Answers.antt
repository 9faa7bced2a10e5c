use Rattle.std.proofs.Common.{◌+◌, pos, refl, ap}
use Rattle.rules.specs.Subject.{take}
use Rattle.rules.specs.Machine.{effect}
use Rattle.account.specs.State.{state_of}
use Rattle.account.proofs.Calls.{refused_by, lawful, done, granting}
use Rattle.account.proofs.account.Account.take.Goals as goal

pub returns-in_err-number : goal.returns-in_err-number
returns-in_err-number g c =
    let r = refused_by g.T.Tariff.meaning c.args.self.now (take c.args.moment c.args.span) pos c.from_residual.result c.in_err-number.field-0.0 c.from_residual.ensures.1 c.in_err-number.ensures in
    record { after = r.0; law = r.1 }

pub returns : goal.returns
unfolding effect
returns g c =
    let a = c.args.self.now in
    let said = c.in_ok-number.ensures in
    let s = done g.T.Tariff.meaning a _ (take c.args.moment c.args.span) (pos c.in_ok-number.number) (record {
      accepted = said.0;
      value = ap pos said.1.0;
      state = ap (granting (state_of a) (c.args.moment + c.args.span)) said.1.0;
      same = record { opening = refl; tariff = refl; sheet_past = refl; journal_past = refl; memory = record { sheet = refl; journal = refl } };
    }) in
    record { after = s; law = lawful g.T.Tariff.meaning _ _ _ _ s }
