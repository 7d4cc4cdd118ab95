use Rattle.expression_nodes.proofs.Made.{asking_made, asking_broken}
use Rattle.expression_nodes.proofs.laws.asking_composes.Goals as goal

pub returns : goal.returns
returns c c' = record { made = asking_made; broken = asking_broken }
