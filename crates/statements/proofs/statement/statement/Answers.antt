use Rattle.statements.proofs.Stated.{lawful_result}
use Rattle.statements.proofs.statement.statement.Goals as goal

pub returns-else-is_err-clause-law : goal.returns-else-is_err-clause-law
returns-else-is_err-clause-law c = λ accepted. lawful_result _ _ c.statement_numbered-result.ensures accepted
