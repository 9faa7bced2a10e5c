use Rattle.std.proofs.Common.{mul-le-mul, arith}
use Rattle.method.proofs.contract_demand.ContractDemandMethod.demand.Goals as goal

pub invariant_of-result : goal.invariant_of-result
invariant_of-result c =
    let m = c.args.self.now in
    record { ok = omega (arith, mul-le-mul m.contract.ok m.utilization.ok) }
