-- The parts of a row that the facts of its type speak of, as the rules have them. Assumes nothing.
use Rattle.rules.specs.Subject as rules
use Rattle.figures.specs.declared.units.Registers.{Registers}
use Rattle.figures.specs.declared.row.Sort.{Sort}
use Rattle.figures.specs.declared.row.Sort.TheVariants.{Read, Estimated, NoEnergy}

abbrev pub regs : Registers → rules.Registers
regs r = record { day = r.day.figure.0; peak = r.peak.figure.0; demand = r.demand.figure.0 }

abbrev pub sort_of : Sort → rules.Sort
sort_of Read = rules.read
sort_of Estimated = rules.estimated
sort_of NoEnergy = rules.no_energy
