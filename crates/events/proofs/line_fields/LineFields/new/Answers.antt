use Rattle.events.proofs.Columns.{columns_fit}
use Rattle.events.proofs.line_fields.LineFields.new.Goals as goal

pub invariant_of-result : goal.invariant_of-result
invariant_of-result c = record { narrow = rw c.new.ensures.made (columns_fit c.args.rest.now c.requires) }
