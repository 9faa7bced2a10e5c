-- The event that a line carries. Assumes nothing.
use Rattle.std.specs.Prelude.{ℕ, cond, List, [], ◌∷◌, length, Some, None, Ok, Err, Option, Result, ◌==◌, nat_lt}
use Rattle.std.specs.Result.{result_and}
use Rattle.events.specs.declared.event.Event.{Event}
use Rattle.events.specs.declared.event.Event.TheVariants.{Take, HandBack, Bill, Estimate, Correct, Pay}
use Rattle.events.specs.declared.fault.ReaderFault.{ReaderFault}
use Rattle.events.specs.declared.fault.ReaderFault.TheVariants.{TooLong, Shape}
use Rattle.events.specs.Lines.{fields, placed}
use Rattle.events.specs.Figures.{figure_of, kwh_of, kva_of, cents_of}
use Rattle.events.specs.Letters.{one_of}
use Rattle.events.specs.Reads.{on, read, unused}
use Rattle.events.specs.Corrections.{finding_in, basis_in}

-- the forms of an event, by letter
pub data Form : Type 0 where
  t_line h_line b_line e_line c_line p_line : Form

-- T H B E C P
abbrev pub forms : List (ℕ × Form)
forms = (84, t_line) ∷ (72, h_line) ∷ (66, b_line) ∷ (69, e_line) ∷ (67, c_line) ∷ (80, p_line) ∷ []

-- the form that the first field names: it is one letter
abbrev pub form_of : List ℕ → Option Form
form_of f = one_of forms f

-- how many fields follow the letter
abbrev pub fields_after : Form → ℕ
fields_after t_line = 2
fields_after h_line = 1
fields_after b_line = 5
fields_after e_line = 5
fields_after c_line = 13
fields_after p_line = 2

-- T,now,length
-- H,hold
-- B,hold,last,day,peak,demand
-- E,hold,last,figure,s,demand
-- C,hold,cause,side,notice,known,first,last,method and five fields, in which 0 stands after the method's own
-- P,hold,cents
abbrev pub event : Form → List (ℕ × List ℕ) → Result Event ReaderFault
event t_line fs = read figure_of fs (λ moment fs. read figure_of fs (λ span fs. Ok (Take moment span)))
event h_line fs = read figure_of fs (λ hold fs. Ok (HandBack hold))
event b_line fs =
    read figure_of fs (λ hold fs. read figure_of fs (λ last fs.
    read kwh_of fs (λ day fs. read kwh_of fs (λ peak fs. read kva_of fs (λ demand fs.
    Ok (Bill hold last (record { day = day; peak = peak; demand = demand })))))))
event e_line fs =
    read figure_of fs (λ hold fs. read figure_of fs (λ last fs.
    read kwh_of fs (λ figure fs. read figure_of fs (λ peak fs. read kva_of fs (λ demand fs.
    Ok (Estimate hold last figure peak demand))))))
event c_line fs =
    read figure_of fs (λ hold fs. on (finding_in fs) (λ finding fs. on (basis_in fs) (λ basis fs.
    result_and (unused fs) (Ok (Correct hold finding basis)))))
event p_line fs = read figure_of fs (λ hold fs. read cents_of fs (λ cents fs. Ok (Pay hold cents)))

-- the event in the fields after the letter, where there are as many as the form has
abbrev pub event_in : Form → List (ℕ × List ℕ) → Result Event ReaderFault
event_in k fs = cond (length fs == fields_after k) (event k fs) (Err Shape)

abbrev pub event_with : Option Form → List (ℕ × List ℕ) → Result Event ReaderFault
event_with (Some k) fs = event_in k fs
event_with None fs = Err Shape

-- the first field fixes the rest; it and its comma take the first two columns
abbrev pub event_from : List (List ℕ) → Result Event ReaderFault
event_from [] = Err Shape
event_from (letter ∷ fs) = event_with (form_of letter) (placed 3 fs)

-- a line over 140 bytes is not read
abbrev pub event_of : List ℕ → Result Event ReaderFault
event_of line = cond (nat_lt 140 (length line)) (Err TooLong) (event_from (fields line))
