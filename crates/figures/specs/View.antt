-- The figures of the code as the rules have them, their limits forgotten. Assumes nothing.
use Rattle.rules.specs.Subject as rules
use Rattle.rules.specs.Shown as show
pub use Rattle.figures.specs.Parts.{regs, sort_of}
use Rattle.figures.specs.declared.reported.Cents.{Cents}
use Rattle.figures.specs.declared.reported.Reading.{Reading}
use Rattle.figures.specs.declared.units.Register.{Register}
use Rattle.figures.specs.declared.units.Register.TheVariants.{Day, Peak}
use Rattle.figures.specs.declared.row.Row.{Row}
use Rattle.figures.specs.declared.line.Line.{Line}
use Rattle.figures.specs.declared.up_to.UpTo.{UpTo}
use Rattle.figures.specs.declared.line.Letter.{Letter}
use Rattle.figures.specs.declared.line.Letter.TheVariants.{Bill, Correction, Payment}

abbrev pub reading_of : Reading → rules.Registers
reading_of r = record { day = r.day.0; peak = r.peak.0; demand = r.demand.0 }

abbrev pub register_of : Register → rules.Register
register_of Day = rules.day_units
register_of Peak = rules.peak_units

abbrev pub period_seen : Row → rules.Period
period_seen r = record {
  first = r.term.first.figure;
  last = r.term.last.figure;
  sort = sort_of r.sort;
  recorded = regs r.recorded;
  standing = regs r.standing;
}

abbrev pub seen : Row → show.Row
seen r = record { period = period_seen r; cents = r.charge.figure.0 }

abbrev pub letter_of : Letter → show.Letter
letter_of Bill = show.B
letter_of Correction = show.C
letter_of Payment = show.P

abbrev pub line_seen : Line → show.Line
line_seen l = record { hold = l.hold; letter = letter_of l.letter; row = l.row; cents = l.cents.0 }

-- what one row is charged
abbrev pub Charge : Type 0
Charge = UpTo Cents 210000000000 (record { size = λ c. c.0 })
