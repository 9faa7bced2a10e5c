use Rattle.std.proofs.Common.{◌≡◌, length}
use Rattle.rules.specs.Laid.{rewritten, corrected}
use Rattle.rules.specs.Questions.{all_fit}
use Rattle.method.specs.Uses.{finding_of}
use Rattle.account.specs.Rows.{periods, span_start}
use Rattle.account.specs.Weighing.{Weighed, Whole}
use Rattle.account.proofs.sheet.Asked.{fitting}
use Rattle.account.proofs.sheet.found.Found.each_fits.Given as goal

abbrev pub invariant-loop-row : goal.invariant-loop-row
invariant-loop-row g l =
    let f = finding_of l.self.finding in
    let from = span_start f (length l.self.rows.now) in
    let m = g.M.Method.meaning l.m in
    record {
      fitting : fitting f from m l.rows l.row-index l.sharing.weights.day l.sharing.weights.peak ≡ all_fit (rewritten f from (corrected f m from 0 0 (periods l.rows)));
      weighed : Weighed m l.row-index l.sharing.weights.day l.sharing.weights.peak;
      wholes : Whole m l.sharing;
    }
