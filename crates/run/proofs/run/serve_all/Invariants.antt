use Rattle.std.proofs.Common.{◌≡◌, take}
use Rattle.run.specs.Calls.{asks_in, calls_in, answers_in}
use Rattle.run.specs.Runs.{Follows, OpenedAlike}
use Rattle.run.proofs.run.serve_all.Given as goal

abbrev pub invariant-loop-request : goal.invariant-loop-request
invariant-loop-request g l =
    record {
      followed : Follows g.T.Tariff.meaning l.initial.a l.a (calls_in g.M.Chosen.means (take l.request-index l.requests)) (answers_in (take l.request-index l.requests));
      asks : asks_in l.requests ≡ asks_in l.initial.requests;
      same : OpenedAlike g.T.Tariff.meaning l.initial.a l.a;
    }
