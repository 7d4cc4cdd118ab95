use Rattle.loop_tree.proofs.Outcomes.{one_outcome}
use Rattle.loop_tree.proofs.laws.one_outcome.Goals as goal

pub returns : goal.returns
returns c = one_outcome
