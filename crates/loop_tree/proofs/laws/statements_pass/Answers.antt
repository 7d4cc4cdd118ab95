use Rattle.loop_tree.proofs.Balanced.{exits-flats}
use Rattle.loop_tree.proofs.laws.statements_pass.Goals as goal

pub returns : goal.returns
returns c = exits-flats
