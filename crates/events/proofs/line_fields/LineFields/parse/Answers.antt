use Rattle.std.proofs.Common.{arith, rules}
use Rattle.events.specs.FieldsLeft.{fields_left}
use Rattle.events.proofs.Columns.{columns_left, column_fits}
use Rattle.events.proofs.line_fields.LineFields.parse.Goals as goal

pub invariant_of-self : goal.invariant_of-self
invariant_of-self g c =
    record { narrow = columns_left c.next.result (fields_left c.args.self.now.fields) (fields_left c.next.new.self) c.next.ensures.steps c.args.self.now.narrow }

pub overflow_cast-field : goal.overflow_cast-field
overflow_cast-field g c =
    omega (arith, column_fits c.next.result c.in_ok-field.field (fields_left c.args.self.now.fields) (fields_left c.next.new.self) (search rules) c.next.ensures.steps c.args.self.now.narrow)
