use Rattle.shape_check.proofs.OneUnit.{one_unit, some_unit}
use Rattle.shape_check.proofs.laws.has_one_unit.Goals as goal

pub returns : goal.returns
returns c = record { most = one_unit; least = some_unit }
