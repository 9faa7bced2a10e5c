-- No one set of uses is that of each of the five methods. Assumes nothing.
use Rattle.std.proofs.Common.{◌≡◌, true, false, ◌∙◌, sym}
use Rattle.rules.specs.Subject.{Use, estimates}
use Rattle.method.specs.Uses.{named_in}
use Rattle.method.specs.declared.uses.Uses.{Uses}
use Rattle.method.specs.declared.category.Category as category
use Rattle.method.specs.declared.test_meter.TestMeter as meter
use Rattle.run.specs.declared.any_method.AnyMethod.{AnyMethod}
use Rattle.run.specs.declared.any_method.AnyMethod.TheVariants.{Category, TestMeter}
use Rattle.run.specs.Any.{any_of}

pub no_set : (n : Uses) → (c : category.Category) → (t : meter.TestMeter) → ((m : AnyMethod) (u : Use) → named_in n u ≡ (any_of m).serves u) → ⊥
no_set n c t tied =
    let e : true ≡ false = sym (tied (Category c) estimates) ∙ tied (TestMeter t) estimates in
    cc
