-- What is read of the fields of a line, and what has yet to be. Assumes nothing.
use Rattle.std.specs.Prelude.{◌≡◌, ℕ, ◌+◌, List, length, Ok, Err, IfOk, Result}
use Rattle.events.specs.declared.line_fields.LineFields.{LineFields}
use Rattle.events.specs.declared.event.Basis.{Basis}
use Rattle.events.specs.declared.event.Event.{Event}
use Rattle.events.specs.declared.fault.ReaderFault.{ReaderFault}
use Rattle.events.specs.FieldsLeft.{fields_left}

abbrev pub unread : LineFields → List (ℕ × List ℕ)
unread f = fields_left f.fields

-- what was read, and the fields that are then yet to be read
abbrev pub with_unread : {A : Type 0} → Result A ReaderFault → LineFields → Result (A × List (ℕ × List ℕ)) ReaderFault
with_unread (Ok x) f = Ok (x, unread f)
with_unread (Err e) f = Err e

-- where reading went well, so many fields were read
abbrev pub Handed : {A : Type 0} → (many : ℕ) → Result A ReaderFault → (before after : LineFields) → Type 0
Handed many r before after = IfOk r (λ x. length (unread before) ≡ length (unread after) + many)

-- the event made of a form's parts, where they were read
abbrev pub made : {A : Type 0} → (A → Event) → Result A ReaderFault → Result Event ReaderFault
made event (Ok parts) = Ok (event parts)
made event (Err e) = Err e

-- a method that was read, and the fields that are then yet to be read
abbrev pub with_basis : Result (Basis × ℕ) ReaderFault → LineFields → Result (Basis × List (ℕ × List ℕ)) ReaderFault
with_basis (Ok b) f = Ok (b.0, unread f)
with_basis (Err e) f = Err e

-- of a method's letter and its five fields those that it does not use are left
abbrev pub BasisHanded : Result (Basis × ℕ) ReaderFault → (before after : LineFields) → Type 0
BasisHanded r before after = IfOk r (λ b. length (unread before) + b.1 ≡ length (unread after) + 6)
