use Rattle.constant_operators.proofs.Within.{known_within}
use Rattle.constant_operators.proofs.laws.known_within.Goals as goal

pub returns : goal.returns
returns c = known_within
