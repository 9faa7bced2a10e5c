use Rattle.std.proofs.Common.{refl, arith}
use Rattle.method.specs.Meaning.{daily_most}
use Rattle.method.proofs.contract_demand.ContractDemand.a_day.Goals as goal

pub overflow_mul-result-2 : goal.overflow_mul-result-2
overflow_mul-result-2 c =
    let m = c.args.self.now in
    omega (arith, daily_most m.contract.ok m.utilization.ok m.power.ok m.load.ok)

pub returns : goal.returns
returns c =
    let m = c.args.self.now in
    (refl, daily_most m.contract.ok m.utilization.ok m.power.ok m.load.ok)
