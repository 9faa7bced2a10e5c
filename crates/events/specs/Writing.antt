-- What the writing of an event asks, answers and leaves on the page. Assumes nothing.
use Rattle.std.specs.Prelude.{ℕ, Bool, List, [], ◌∷◌, ◌++◌, length, Result, decimal, nat_le}
use Rattle.std.specs.List.{list_all, join_with_byte}
use Rattle.page.specs.Answered.{Answered, number_by, value_of}
use Rattle.events.specs.declared.event.Event.{Event}
use Rattle.events.specs.declared.cell.Cell.{Cell}
use Rattle.events.specs.declared.cell.Cell.TheVariants.{Letter, Figure}
use Rattle.events.specs.declared.unwritten.Unwritten.{Unwritten}
use Rattle.events.specs.declared.unwritten.Unwritten.TheVariants as unwritten
use Rattle.events.specs.Carried.{is_short, is_carried, line_of}

-- what a field is written as
abbrev pub text_of : Cell → List ℕ
text_of (Letter c) = c ∷ []
text_of (Figure n) = decimal n

-- the question that was answered no
abbrev pub unwritten_number : Unwritten → ℕ
unwritten_number unwritten.NoLine = 19
unwritten_number unwritten.Page = 21

-- the line of fields, and its end
abbrev pub line_end : List (List ℕ) → List ℕ
line_end fs = join_with_byte 44 fs ++ 10 ∷ []

-- 19, is each field short enough? 21, does the line with its end fit a page of n bytes?
abbrev pub writing_asked : List (List ℕ) → (n : ℕ) → List (ℕ × Bool)
writing_asked fs n = (19, list_all is_short fs) ∷ (21, nat_le (length (line_end fs)) n) ∷ []

-- the writing of a line answered so, and left the page so
abbrev pub Written : (fields : List (List ℕ)) → (before left : List ℕ) → Result ℕ Unwritten → Type 0
Written fs before left r = Answered (writing_asked fs (length before)) (line_end fs) before left (number_by unwritten_number r) (value_of r)

-- 19, can a line carry the event? 21, does its line with the end fit a page of n bytes?
abbrev pub event_asked : Event → (n : ℕ) → List (ℕ × Bool)
event_asked e n = (19, is_carried e) ∷ (21, nat_le (length (line_of e ++ 10 ∷ [])) n) ∷ []

-- the writing of an event answered so, and left the page so
abbrev pub EventWritten : Event → (before left : List ℕ) → Result ℕ Unwritten → Type 0
EventWritten e before left r = Answered (event_asked e (length before)) (line_of e ++ 10 ∷ []) before left (number_by unwritten_number r) (value_of r)
