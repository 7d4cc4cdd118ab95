use Rattle.shape_check.proofs.TypedStatements.{statements_are_typed}
use Rattle.shape_check.proofs.laws.statements_are_typed.Goals as goal

pub returns : goal.returns
returns c = statements_are_typed
