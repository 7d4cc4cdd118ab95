use Rattle.names_types.proofs.Declaring.{each_declared_once}
use Rattle.names_types.proofs.laws.each_declared_once.Goals as goal

pub returns : goal.returns
returns c = each_declared_once
