use Rattle.std.proofs.Common.{◌≡◌, pos, ap, ◌∙◌, ap₂}
use Rattle.rules.specs.Subject.{estimate}
use Rattle.rules.specs.Laid.{next_day, is_late, unmetered_by, without_reading}
use Rattle.rules.specs.Shown as show
use Rattle.rules.specs.Machine.{effect, periods_of}
use Rattle.figures.specs.View.{seen}
use Rattle.account.specs.State.{state_of}
use Rattle.account.proofs.Calls.{refused_by, changed_done}
use Rattle.account.proofs.Rows.{entered_is}
use Rattle.account.proofs.account.Account.estimate.Goals as goal

pub returns-in_err-hold : goal.returns-in_err-hold
returns-in_err-hold g c =
    let r = refused_by g.T.Tariff.meaning c.args.self.now (estimate c.args.hold c.args.last (g.M.Method.meaning c.args.m.now)) (λ p. pos p.figure.0) c.from_residual.result c.in_err-hold.field-0.0 c.from_residual.ensures.1 c.in_err-hold.ensures in
    record { after = r.0; law = r.1 }

pub returns : goal.returns
unfolding effect without_reading
returns g c =
    let mean = g.T.Tariff.meaning in
    let a = c.args.self.now in
    let t = mean a.tariff in
    let m = g.M.Method.meaning c.args.m.now in
    let said = c.in_ok-hold.ensures in
    let b = c.in_ok-hold.field-0 in
    let last = c.args.last in
    let ps = periods_of (state_of a) in
    let first = next_day a.opening.figure ps in
    let e = c.enter.ensures in
    let row : seen c.without_reading-row.result ≡ show.row_of t (without_reading first last m ps) =
    c.without_reading-row.ensures.row
    ∙ ap (λ x. show.row_of t (unmetered_by x b.term.first.figure b.term.last.figure m)) said.1.3
    ∙ ap₂ (λ x y. show.row_of t (unmetered_by (is_late ps) x y m)) said.1.1 said.1.2 in
    let r = changed_done mean a c.enter.new.self _ _ _ (record {
      granted = e.granted;
      holding = e.holding;
      day = e.day;
      tariff = e.tariff ∙ c.without_reading-row.ensures.same;
      rows = e.rows;
      sheet_size = e.sheet_size;
      sheet_past = e.sheet_past;
      journal = e.journal;
      sums = e.sums;
      memory = record { sheet = e.memory.sheet; journal = e.memory.journal };
    }) (estimate c.args.hold last m) (pos c.without_reading-row.result.charge.figure.0) said.0 (ap (λ (x : show.Row). pos x.cents) row) (entered_is t a b.hold c.args.hold _ (without_reading first last m ps) said.1.0 row) in
    record { after = r.0; law = r.1 }
