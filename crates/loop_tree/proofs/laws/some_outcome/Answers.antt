use Rattle.loop_tree.proofs.Exists.{some_outcome}
use Rattle.loop_tree.proofs.laws.some_outcome.Goals as goal

pub returns : goal.returns
returns c = some_outcome
