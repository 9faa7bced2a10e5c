use Rattle.std.proofs.Common.{◌-◌, min, sym, refl, ap, ◌∙◌, arith}
use Rattle.std.proofs.lemmas.Int.{ints}
use Rattle.rules.specs.Subject.{correct}
use Rattle.rules.specs.Journal.{cents_of}
use Rattle.rules.specs.Machine.{posts}
use Rattle.rules.proofs.Runs.{length-posts}
use Rattle.method.specs.Uses.{finding_of}
use Rattle.account.specs.Sums.{Amounts}
use Rattle.account.specs.State.{state_of, opening_of}
use Rattle.account.proofs.Calls.{refused_by, changed_done, grown_limit}
use Rattle.account.proofs.Corrections.{correct_yes, corrected_is, added, runs_relaid}
use Rattle.account.proofs.Lines.{moved_more}
use Rattle.account.proofs.account.Account.correct.Goals as goal

pub returns-in_err-hold : goal.returns-in_err-hold
returns-in_err-hold g c =
    let r = refused_by g.T.Tariff.meaning c.args.self.now (correct c.args.hold (finding_of c.args.f) (g.M.Method.meaning c.args.m.now)) (λ u. u.0) c.from_residual.result c.in_err-hold.field-0.0 c.from_residual.ensures.1 c.in_err-hold.ensures in
    record { after = r.0; law = r.1 }

pub relay_sheet-u-requires : goal.relay_sheet-u-requires
relay_sheet-u-requires g c =
    let a = c.args.self.now in
    let y = correct_yes a c.args.hold (finding_of c.args.f) (g.M.Method.meaning c.args.m.now) c.in_ok-hold.ensures.0 in
    let s = a.sheet.within_limit in
    let l = a.sheet_limit in
    record { few = omega arith; sorts = y.sorts; fits = y.fits; room = y.room }

pub overflow_cast-lines : goal.overflow_cast-lines
overflow_cast-lines g c =
    let a = c.args.self.now in
    let f = finding_of c.args.f in
    let m = g.M.Method.meaning c.args.m.now in
    let y = correct_yes a c.args.hold f m c.in_ok-hold.ensures.0 in
    let d = added a _ (g.T.Tariff.meaning a.tariff) c.in_ok-hold.hold f m y c.relay_sheet-u.ensures.lines in
    omega (arith, d.within, d.most)

pub bills_for-requires : goal.bills_for-requires
bills_for-requires g c =
    let a = c.args.self.now in
    let y = correct_yes a c.args.hold (finding_of c.args.f) (g.M.Method.meaning c.args.m.now) c.in_ok-hold.ensures.0 in
    let s = a.sheet.within_limit in
    let l = a.sheet_limit in
    (y.ordered, omega (arith, y.billed), y.bills)

pub correct-requires : goal.correct-requires
correct-requires g c =
    let a = c.args.self.now in
    let f = finding_of c.args.f in
    let m = g.M.Method.meaning c.args.m.now in
    let y = correct_yes a c.args.hold f m c.in_ok-hold.ensures.0 in
    let d = added a _ (g.T.Tariff.meaning a.tariff) c.in_ok-hold.hold f m y c.relay_sheet-u.ensures.lines in
    let n = a.counted in
    let filled = d.filled in
    let u = c.relay_sheet-u.ensures.small in
    let low = u.low in
    let high = u.high in
    record { few = omega (arith, d.within, d.most); within = (omega (arith, ints), omega (arith, ints)); modest = omega (arith, ints, y.few, length-posts (g.T.Tariff.meaning a.tariff) f m c.in_ok-hold.hold 0 0 0 (state_of a).rows) }

pub invariant_of-self : goal.invariant_of-self
invariant_of-self g c =
    let a = c.args.self.now in
    let f = finding_of c.args.f in
    let m = g.M.Method.meaning c.args.m.now in
    let y = correct_yes a c.args.hold f m c.in_ok-hold.ensures.0 in
    let w = c.relay_sheet-u.ensures.lines in
    let r = c.relay_sheet-u.ensures.rows in
    let d = added a _ (g.T.Tariff.meaning a.tariff) c.in_ok-hold.hold f m y w in
    let lines = ap (λ (t : Amounts). t.lines) c.correct.ensures in
    let n = a.counted in
    record {
      sheet_limit = r.limit ∙ a.sheet_limit ∙ ap (λ k. min k 120) (sym r.size);
      journal_limit = grown_limit a _ _ w;
      counted = omega (arith, lines, d.filled);
      moved = moved_more a _ _ _ w (omega (arith, ints, ap (λ (t : Amounts). t.balance) c.correct.ensures, c.relay_sheet-u.ensures.sum));
      runs = runs_relaid a _ (g.T.Tariff.meaning a.tariff) f m r.rows;
    }

pub returns : goal.returns
returns g c =
    let mean = g.T.Tariff.meaning in
    let a = c.args.self.now in
    let t = mean a.tariff in
    let f = finding_of c.args.f in
    let m = g.M.Method.meaning c.args.m.now in
    let e = c.relay_sheet-u.ensures in
    let r = changed_done mean a _ _ _ _ (record {
      granted = refl;
      holding = refl;
      day = refl;
      tariff = e.same;
      rows = e.rows.rows;
      sheet_size = e.rows.size;
      sheet_past = e.rows.past;
      journal = e.lines;
      sums = c.correct.ensures;
      memory = record { sheet = e.lent.0; journal = e.lent.1 };
    }) (correct c.args.hold f m) c.relay_sheet-u.result.0 c.in_ok-hold.ensures.0 (e.sum ∙ ap (λ z. cents_of (posts t f m z 0 0 0 (state_of a).rows)) c.in_ok-hold.ensures.1) (corrected_is t (opening_of a) a c.in_ok-hold.hold c.args.hold f m c.relay_sheet-u.result.0 c.bills_for.result.count (c.relay_sheet-u.new.journal.filled - a.journal.filled) c.in_ok-hold.ensures.1 e.sum c.bills_for.ensures) in
    record { after = r.0; law = r.1 }
