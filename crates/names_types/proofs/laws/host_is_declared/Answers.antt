use Rattle.names_types.proofs.Declaring.{host_is_declared}
use Rattle.names_types.proofs.laws.host_is_declared.Goals as goal

pub returns : goal.returns
returns c = host_is_declared
