-- Fields read one after another, each beside the column at which it begins. Assumes nothing.
use Rattle.std.specs.Prelude.{ℕ, List, [], ◌∷◌, Ok, Err, Option, Result}
use Rattle.std.specs.Option.{ok_or}
use Rattle.std.specs.Result.{result_and}
use Rattle.events.specs.declared.fault.ReaderFault.{ReaderFault}
use Rattle.events.specs.declared.fault.ReaderFault.TheVariants.{Shape, Field}
use Rattle.events.specs.Letters.{unused_of}

-- what a field holds, where that is lawful
abbrev pub lawful : {A : Type 0} → (List ℕ → Option A) → ℕ × List ℕ → Result A ReaderFault
lawful held f = ok_or (held f.1) (Field f.0)

-- what the first field holds, and the fields after it
abbrev pub field : {A : Type 0} → (List ℕ → Option A) → List (ℕ × List ℕ) → Result (A × List (ℕ × List ℕ)) ReaderFault
field held [] = Err Shape
field held (f ∷ fs) = elim (lawful held f) [ Ok x ↦ Ok (x, fs) | Err e ↦ Err e ]

-- what was read and the fields after it, handed on
abbrev pub on : {A B : Type 0} → Result (A × List (ℕ × List ℕ)) ReaderFault → (A → List (ℕ × List ℕ) → Result B ReaderFault) → Result B ReaderFault
on (Ok r) next = next r.0 r.1
on (Err e) next = Err e

-- the first field read, and then those after it
abbrev pub read : {A B : Type 0} → (List ℕ → Option A) → List (ℕ × List ℕ) → (A → List (ℕ × List ℕ) → Result B ReaderFault) → Result B ReaderFault
read held fs next = on (field held fs) next

-- each field holds 0
abbrev pub unused : List (ℕ × List ℕ) → Result (Unit {0}) ReaderFault
unused [] = Ok tt
unused (f ∷ fs) = result_and (lawful unused_of f) (unused fs)
