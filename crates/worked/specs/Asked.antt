-- Accounts and rows of which the questions are asked.
use Rattle.std.specs.Prelude.{ℕ, zero, suc, ◌+◌, ◌*◌, Bool, cond, List, [], ◌∷◌, Some, Ok, Err, Result, ◌==◌}
use Rattle.rules.specs.Subject.{Registers, Period, estimated, no_energy, Cause, Side, Finding, Method, Call, Opening}
use Rattle.rules.specs.Laid.{metered, blank}
use Rattle.rules.specs.Questions.{Books, question}

abbrev pub units : (day peak demand : ℕ) → Registers
units day peak demand = record { day = day; peak = peak; demand = demand }

-- room for so many rows and journal lines
abbrev pub room : (sheet journal : ℕ) → Opening
room sheet journal = record { day = 0; sheet = sheet; journal = journal }

-- hold 1 stands, and runs out at second 110; these periods are billed, and so many journal lines are used
abbrev pub books : (used : ℕ) → List Period → Books
books used ps = record { granted = 1; holding = Some (record { number = 1; until = 110 }); periods = ps; used = used }

-- the number of the question that refuses a call, or 0
abbrev pub asked : List Period → Call → ℕ
asked ps c = question (room 120 1024) (books 0 ps) c

-- of a call by a method; or the number of the one that refuses the method
abbrev pub asked_in : Opening → (used : ℕ) → List Period → (Method → Call) → Result Method ℕ → ℕ
asked_in o used ps call (Ok m) = question o (books used ps) (call m)
asked_in o used ps call (Err n) = n

abbrev pub asked_by : List Period → (Method → Call) → Result Method ℕ → ℕ
asked_by ps call m = asked_in (room 120 1024) 0 ps call m

-- n rows of ten days from row k on, of which row k begins on day 10 × k: read at 100 units each
abbrev pub tens : (n k : ℕ) → List Period
tens zero k = []
tens (suc n) k = metered (10 * k) (10 * k + 9) (units 100 0 0) ∷ tens n (suc k)

-- and unmetered: row 7 without energy, every other estimated
abbrev pub unread : (n k : ℕ) → List Period
unread zero k = []
unread (suc n) k = blank (10 * k) (10 * k + 9) (cond (k == 7) no_energy estimated) ∷ unread n (suc k)

abbrev pub found : Cause → Side → (notice : ℕ) → (known : Bool) → (first last : ℕ) → Finding
found cause side notice known first last =
    record { cause = cause; side = side; notice = notice; ascertained = known; first = first; last = last }
