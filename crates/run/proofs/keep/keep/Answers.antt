use Rattle.std.proofs.Common.{rules, [], length, sym, ap, ◌∙◌}
use Rattle.std.proofs.lemmas.List.{length-map}
use Rattle.run.specs.Calls.{calls_in, answers_in}
use Rattle.run.proofs.Left.{left_by}
use Rattle.run.proofs.keep.keep.Goals as goal

pub returns-clause-left : goal.returns-clause-left
returns-clause-left g c =
    let mean = g.T.Tariff.meaning in
    let args = c.args in
    let account = c.in_ok-account.account in
    let made = c.in_ok-account.ensures.made in
    let follows = c.serve_all.ensures.law in
    let served = follows [] made.1.0.law in
    let sheet = c.close.ensures.sheet in
    let journal = c.close.ensures.journal in
    let sheet-name = ap (λ r. r.ghost_name) sheet ∙ served.same.memory.sheet ∙ made.1.1.rows in
    let journal-name = ap (λ r. r.ghost_name) journal ∙ served.same.memory.journal ∙ made.1.1.lines in (
      made.0,
      left_by mean account _ args.tariff args.day args.sheet.now args.journal.now (calls_in g.M.Chosen.means args.requests.now) (answers_in c.serve_all.new.requests) _ _ _ made.1.0 follows
          (record {
            granted = c.granted.ensures;
            hold = c.hold.ensures;
            balance = c.balance.ensures;
            due = c.due.ensures;
            coming = c.coming.ensures;
            rows = sym (length-map _ _) ∙ ap length c.rows.ensures;
            lines = sym (length-map _ _) ∙ ap length c.lines.ensures;
          })
          (search (rules, sheet-name) ∙ ap (λ r. r.now) sheet)
          (search (rules, journal-name) ∙ ap (λ r. r.now) journal),
    )
