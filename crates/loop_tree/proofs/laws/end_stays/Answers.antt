use Rattle.loop_tree.proofs.Outcomes.{end_stays}
use Rattle.loop_tree.proofs.laws.end_stays.Goals as goal

pub returns : goal.returns
returns c = end_stays
