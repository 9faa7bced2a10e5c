use Rattle.account.proofs.sums.Tables.{Turn}
use Rattle.account.proofs.sums.coming.Coming.spread.Given as goal

abbrev pub invariant-loop-b : goal.invariant-loop-b
invariant-loop-b l = Turn l.s.cents.0 l.s.bills.count l.initial.place-items l.place-items l.b
