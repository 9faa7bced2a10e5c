-- The number and the value of each refusal of the reader. Assumes nothing.
use Rattle.std.specs.Prelude.{ℕ}
use Rattle.events.specs.declared.fault.ReaderFault.{ReaderFault}
use Rattle.events.specs.declared.fault.ReaderFault.TheVariants.{TooLong, Shape, Field}

abbrev pub fault_number : ReaderFault → ℕ
fault_number TooLong = 20
fault_number Shape = 18
fault_number (Field column) = 19

abbrev pub fault_value : ReaderFault → ℕ
fault_value TooLong = 141
fault_value Shape = 1
fault_value (Field column) = column
