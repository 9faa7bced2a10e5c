use Rattle.std.proofs.Common.{rules, tests, ◌≡◌, ◌+◌, ◌≤◌, arith}
use Rattle.std.proofs.lemmas.Bool.{and_parts}
use Rattle.rules.specs.Subject.{absent}
use Rattle.method.specs.Uses.{finding_of}
use Rattle.account.specs.Rows.{periods}
use Rattle.account.proofs.Narrowed.{Alike, first_six, all_alike, rewritten_alike, fit_alike}
use Rattle.account.proofs.sheet.found.Found.narrowed.Goals as goal

alike : (c : goal.After-result-4-1) → Alike (first_six (finding_of c.args.self.finding)) (finding_of c.args.self.finding) 0 (periods c.args.self.rows.now)
alike c =
    let f = finding_of c.args.self.finding in
    let reading_absent : f.cause ≡ absent = search (rules, tests) in
    let long : f.first + 5 ≤ f.last = omega (arith, c.if-span-lt6.false) in
    all_alike f reading_absent long 0 0 (periods c.args.self.rows.now) (λ h. omega arith) (and_parts _ _ c.requires.sorts).0 c.args.self.runs

pub returns-clause-rewritten : goal.returns-clause-rewritten
returns-clause-rewritten c = rewritten_alike _ _ 0 _ (alike c)

pub returns-clause-fits : goal.returns-clause-fits
returns-clause-fits c m = fit_alike m _ _ _ (alike c)
