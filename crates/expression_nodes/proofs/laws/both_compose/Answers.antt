use Rattle.expression_nodes.proofs.Made.{both_come}
use Rattle.expression_nodes.proofs.laws.both_compose.Goals as goal

pub returns : goal.returns
returns c c' = both_come
