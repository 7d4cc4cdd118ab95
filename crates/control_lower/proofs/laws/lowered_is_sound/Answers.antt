use Rattle.control_lower.proofs.laws.lowered_is_sound.Goals as goal
use Rattle.control_lower.proofs.FitsOfLists.{lowered_is_sound}

pub returns : goal.returns
returns c = lowered_is_sound
