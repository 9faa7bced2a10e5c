use Rattle.std.proofs.Common.{rules}
use Rattle.method.proofs.Made.{contract_made_of}
use Rattle.method.proofs.contract_demand.ContractDemand.new.Goals as goal

pub returns-clause-made : goal.returns-clause-made
returns-clause-made c =
    contract_made_of _ c.args.kva.0 c.args.utilization c.args.power c.args.load c.args.peak
    (search rules) (search rules) (search rules) (search rules) (search rules) (search rules)
