use Rattle.std.proofs.Common.{rules, [], length}
use Rattle.rules.specs.Given.{accepted}
use Rattle.rules.specs.Owed.{balance, due}
use Rattle.rules.specs.Journal.{lines as journal_lines}
use Rattle.account.specs.State.{opening_of}
use Rattle.events.specs.Lines.{lines}
use Rattle.statements.specs.Statement.{calls as calls_of, account_text}
use Rattle.page.proofs.Steps.{unfit}
use Rattle.statements.proofs.Going.{going_from, going_more, going_stopped}
use Rattle.statements.proofs.writing.write.Goals as goal

pub loop-line-init : goal.loop-line-init
loop-line-init g c = going_from g.T.Tariff.meaning c.args.account.now c.new-page.result _ _ (search rules) c.requires

pub loop-line-preserved : goal.loop-line-preserved
loop-line-preserved g c =
    going_more g.T.Tariff.meaning c.args.account.now c.new-page.result _ _ _ _ _ _ _ _ _ c.loop-line.invariant c.in-Some.ensures.steps c.serve-outcome.ensures.after (search rules)

pub returns-in_err-answer-clause-value : goal.returns-in_err-answer-clause-value
returns-in_err-answer-clause-value g c =
    let t = g.T.Tariff.meaning c.args.account.now.tariff in
    let o = opening_of c.args.account.now in
    let calls = accepted o (calls_of o [] (lines c.args.text.now)) in
    unfit (length c.args.page.now) _ c.from_residual.ensures.0 c.new-page.ensures.made.0 c.new-page.ensures.made.1
    (going_stopped g.T.Tariff.meaning c.args.account.now c.new-page.result _ _ _ _ _ _ _ _ _ c.loop-line.invariant c.in-Some.ensures.steps c.serve-outcome.ensures.after (account_text (journal_lines t o calls) (balance t o calls) (due t o calls)) c.in_err-answer.ensures)
