-- Events written and read. Assumes nothing.
use Rattle.std.specs.Prelude.{◌≡◌, List, ℕ, [], ◌∷◌, map, true, Ok}
use Rattle.events.specs.declared.event.Event.{Event}
use Rattle.events.specs.Lines.{lines}
use Rattle.events.specs.Events.{event_of}
use Rattle.events.specs.Carried.{line_of, is_carried}

-- the lines of a text read as this event alone
abbrev pub ReadsAs : (text : List ℕ) → Event → Type 0
ReadsAs text e = map event_of (lines text) ≡ Ok e ∷ []

-- no line reads as the event
abbrev pub NeverRead : Event → Type 0
NeverRead e = (line : List ℕ) → event_of line ≡ Ok e → ⊥

-- this line is the one that is written for the event, and a line can carry the event
abbrev pub IsLineOf : (line : List ℕ) → Event → Type 0
IsLineOf line e = (line_of e ≡ line) × (is_carried e ≡ true)
