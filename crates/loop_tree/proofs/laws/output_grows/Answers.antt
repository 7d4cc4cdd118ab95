use Rattle.loop_tree.proofs.Outcomes.{output_grows}
use Rattle.loop_tree.proofs.laws.output_grows.Goals as goal

pub returns : goal.returns
returns c = output_grows
