-- What any of the five methods means. Assumes nothing.
use Rattle.rules.specs.Subject.{Method}
use Rattle.method.specs.Meant.{test_of, category_of, contract_of, previous_of, later_of}
use Rattle.run.specs.declared.any_method.AnyMethod.{AnyMethod}
use Rattle.run.specs.declared.any_method.AnyMethod.TheVariants.{Category, TestMeter, PreviousThree, LaterThree, ContractDemand}

abbrev pub any_of : AnyMethod → Method
any_of (Category m) = category_of m
any_of (TestMeter m) = test_of m
any_of (PreviousThree m) = previous_of m
any_of (LaterThree m) = later_of m
any_of (ContractDemand m) = contract_of m
