use Rattle.proc_check.proofs.Walking.{unit_is}
use Rattle.proc_check.proofs.laws.walk_keeps_first.Goals as goal

pub returns : goal.returns
returns c = unit_is
