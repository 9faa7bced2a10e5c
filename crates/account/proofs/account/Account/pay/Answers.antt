use Rattle.std.proofs.Common.{◌≡◌, ℕ, ◌+◌, [], ◌∷◌, ℤ, pos, neg_ℤ, None, sym, refl, ap, ◌∙◌, ap₂, arith}
use Rattle.std.proofs.lemmas.Int.{ints}
use Rattle.rules.specs.Subject.{pay}
use Rattle.rules.specs.Shown as show
use Rattle.rules.specs.Machine.{effect}
use Rattle.account.specs.Sums.{Amounts, amounts_of, paid_by}
use Rattle.account.proofs.Calls.{refused_by, appended_by, grown_by, grown_limit, changed_done}
use Rattle.account.proofs.Lines.{moved_more}
use Rattle.account.proofs.account.Account.pay.Goals as goal

abbrev paying : ℕ → ℤ → show.Line
paying hold cents = record { hold = hold; letter = show.P; row = None; cents = cents }

pub returns-in_err-hold : goal.returns-in_err-hold
returns-in_err-hold g c =
    let r = refused_by g.T.Tariff.meaning c.args.self.now (pay c.args.hold c.args.cents.0) (λ p. pos p.cents.0) c.from_residual.result c.in_err-hold.field-0.0 c.from_residual.ensures.1 c.in_err-hold.ensures in
    record { after = r.0; law = r.1 }

pub pay-requires : goal.pay-requires
pay-requires g c =
    let a = c.args.self.now in
    let room = c.in_ok-hold.ensures.1.2 in
    let l = a.journal_limit in
    omega (arith, a.counted)

pub invariant_of-self : goal.invariant_of-self
invariant_of-self g c =
    let a = c.args.self.now in
    let room = c.in_ok-hold.ensures.1.2 in
    let w = grown_by a _ _ _ room refl (appended_by a _ _ room c.append.ensures.after) in
    let lines = ap (λ (t : Amounts). t.lines) c.pay.ensures in
    record {
      sheet_limit = a.sheet_limit;
      journal_limit = grown_limit a _ _ w;
      counted = lines ∙ ap (λ n. n + 1) a.counted ∙ sym w.filled;
      moved = moved_more a _ _ _ w (omega (arith, ints, ap (λ (t : Amounts). t.balance) c.pay.ensures, c.negated.ensures));
      runs = a.runs;
    }

pub returns : goal.returns
unfolding effect
returns g c =
    let a = c.args.self.now in
    let said = c.in_ok-hold.ensures in
    let p = c.in_ok-hold.field-0 in
    let hold = c.args.hold in
    let cents = c.args.cents.0 in
    let seen : paying p.hold c.negated.result.0 ≡ paying hold (neg_ℤ (pos cents)) = ap₂ paying said.1.0 (c.negated.ensures ∙ ap (λ n. neg_ℤ (pos n)) said.1.1) in
    let r = changed_done g.T.Tariff.meaning a _ _ (paying hold (neg_ℤ (pos cents)) ∷ []) (paid_by (amounts_of a.sums) cents) (record {
      granted = refl;
      holding = refl;
      day = refl;
      tariff = refl;
      rows = refl;
      sheet_size = refl;
      sheet_past = refl;
      journal = grown_by a _ _ _ said.1.2 seen (appended_by a _ _ said.1.2 c.append.ensures.after);
      sums = c.pay.ensures ∙ ap (paid_by (amounts_of a.sums)) said.1.1;
      memory = record { sheet = refl; journal = c.append.ensures.lent };
    }) (pay hold cents) (pos p.payment.cents.0) said.0 (ap pos said.1.1) refl in
    record { after = r.0; law = r.1 }
