use Rattle.loop_tree.proofs.Outcomes.{turns_add}
use Rattle.loop_tree.proofs.laws.turns_add.Goals as goal

pub returns : goal.returns
returns c = turns_add
