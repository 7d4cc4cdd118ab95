use Rattle.shape_check.proofs.TypedUnits.{units_are_typed}
use Rattle.shape_check.proofs.laws.units_are_typed.Goals as goal

pub returns : goal.returns
returns c = units_are_typed
