use Rattle.control_lower.proofs.laws.lowered_does.Goals as goal
use Rattle.control_lower.proofs.Whole.{lowered_does}

pub returns : goal.returns
returns c = lowered_does
