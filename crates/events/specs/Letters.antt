-- The kinds of fields that hold one byte, a letter or 0, by tables. Assumes nothing.
use Rattle.std.specs.Prelude.{ℕ, Bool, true, false, cond, List, [], ◌∷◌, length, Some, None, Option, ◌==◌, slice_index}
use Rattle.method.specs.declared.finding.Cause.{Cause}
use Rattle.method.specs.declared.finding.Cause.TheVariants.{Absent, Under, Over, Stopped, Altered}
use Rattle.method.specs.declared.finding.Side.{Side}
use Rattle.method.specs.declared.finding.Side.TheVariants.{Consumer, Supplier}
use Rattle.events.specs.declared.letters.MethodName.{MethodName}
use Rattle.events.specs.declared.letters.MethodName.TheVariants.{TestMeter, PreviousThree, LaterThree, ContractDemand}
use Rattle.events.specs.declared.letters.Unused.{Unused}

-- what a byte stands for in a table
abbrev pub named : {X : Type 0} → List (ℕ × X) → ℕ → Option X
named [] c = None
named (e ∷ es) c = cond (c == e.0) (Some e.1) (named es c)

-- the byte of a field of one byte
abbrev pub only : List ℕ → Option ℕ
only f = cond (length f == 1) (Some (slice_index f 0)) None

-- what a field of one byte stands for
abbrev pub one_of : {X : Type 0} → List (ℕ × X) → List ℕ → Option X
one_of table f = cond (length f == 1) (named table (slice_index f 0)) None

-- A U O S X
abbrev pub causes : List (ℕ × Cause)
causes = (65, Absent) ∷ (85, Under) ∷ (79, Over) ∷ (83, Stopped) ∷ (88, Altered) ∷ []

-- c s
abbrev pub sides : List (ℕ × Side)
sides = (99, Consumer) ∷ (115, Supplier) ∷ []

-- y n
abbrev pub knowns : List (ℕ × Bool)
knowns = (121, true) ∷ (110, false) ∷ []

-- M P L D
abbrev pub methods : List (ℕ × MethodName)
methods = (77, TestMeter) ∷ (80, PreviousThree) ∷ (76, LaterThree) ∷ (68, ContractDemand) ∷ []

abbrev pub cause_of : List ℕ → Option Cause
cause_of f = one_of causes f

abbrev pub side_of : List ℕ → Option Side
side_of f = one_of sides f

abbrev pub known_of : List ℕ → Option Bool
known_of f = one_of knowns f

abbrev pub method_of : List ℕ → Option MethodName
method_of f = one_of methods f

-- a field that its method does not use holds 0
abbrev pub unused_of : List ℕ → Option Unused
unused_of f = one_of ((48, record {}) ∷ []) f
