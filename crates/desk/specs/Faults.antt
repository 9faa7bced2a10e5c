-- The layer, the number and the value of each refusal. Assumes nothing.
use Rattle.std.specs.Prelude.{ℕ}
use Rattle.events.specs.Faults as reader
use Rattle.method.specs.Making as method
use Rattle.account.specs.Answers as account
use Rattle.desk.specs.declared.fault.Fault.{Fault}
use Rattle.desk.specs.declared.fault.Fault.TheVariants as faults
use Rattle.desk.specs.declared.fault.Layer.{Layer}
use Rattle.desk.specs.declared.fault.Layer.TheVariants as layers

abbrev pub layer_of : Fault → Layer
layer_of (faults.Reader f) = layers.Reader
layer_of (faults.Method f) = layers.Method
layer_of (faults.Account r) = layers.Account

abbrev pub fault_number : Fault → ℕ
fault_number (faults.Reader f) = reader.fault_number f
fault_number (faults.Method f) = method.number_of f
fault_number (faults.Account r) = account.number_of r

-- the reader points at a column; the others' refusals have the value 0
abbrev pub fault_value : Fault → ℕ
fault_value (faults.Reader f) = reader.fault_value f
fault_value (faults.Method f) = 0
fault_value (faults.Account r) = 0
