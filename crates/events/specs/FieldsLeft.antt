-- What a walk over the fields of a line has yet to hand out. Assumes nothing.
use Rattle.std.specs.Prelude.{ℕ, List, [], Some, None, Option}
use Rattle.std.specs.Borrow.{Bor}
use Rattle.events.specs.declared.fields.Field.{Field}
use Rattle.events.specs.declared.fields.Fields.{Fields}
use Rattle.events.specs.Lines.{fields, placed}

-- a field that is handed out: its column and its bytes
abbrev pub placed_at : Field → ℕ × List ℕ
placed_at f = (f.column, f.bytes.now)

-- the fields of what is left of a line, which begins at the column, if anything is
abbrev pub fields_from : (column : ℕ) → Option (Bor (List ℕ)) → List (ℕ × List ℕ)
fields_from column None = []
fields_from column (Some rest) = placed column (fields rest.now)

abbrev pub fields_left : Fields → List (ℕ × List ℕ)
fields_left f = fields_from f.column f.rest
