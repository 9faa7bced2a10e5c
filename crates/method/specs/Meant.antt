-- What the methods of the code mean. Assumes nothing.
use Rattle.std.specs.Prelude.{ℕ, Bool}
use Rattle.rules.specs.Subject.{Use, Method}
use Rattle.method.specs.declared.test_meter.TestMeter.{TestMeter}
use Rattle.method.specs.declared.category.Category.{Category}
use Rattle.method.specs.declared.contract_demand.ContractDemand.{ContractDemand}
use Rattle.method.specs.declared.three_rows.ThreeRows.{ThreeRows}
use Rattle.method.specs.declared.previous_three.PreviousThree.{PreviousThree}
use Rattle.method.specs.declared.later_three.LaterThree.{LaterThree}
use Rattle.method.specs.Meaning.{by_test, by_category, by_contract, by_three, stopping, missing, just_before, just_after}

abbrev pub test_of : TestMeter → Method
test_of m = by_test m.shown.figure.0 m.tested.figure.0 m.turned m.shown.ok m.tested.ok

abbrev pub category_of : Category → Method
category_of m = by_category m.figure.figure.0 m.peak.figure m.demand.figure.0 m.figure.ok m.peak.ok m.demand.ok

abbrev pub contract_of : ContractDemand → Method
contract_of m =
    by_contract m.contract.figure.0 m.utilization.figure m.power.figure m.load.figure m.peak.figure
    m.contract.ok m.utilization.ok m.power.ok m.load.ok m.peak.ok

abbrev pub three_of : (Use → Bool) → (Use → ℕ → ℕ → Bool) → ThreeRows → Method
three_of uses fitness t =
    by_three uses fitness t.day.0 t.peak.0 t.days t.demand.figure.0
    t.day_most t.peak_most t.days_least t.days_most t.demand.ok

abbrev pub previous_of : PreviousThree → Method
previous_of m = three_of stopping (just_before m.three.from) m.three

abbrev pub later_of : LaterThree → Method
later_of m = three_of missing (just_after m.three.from) m.three
