use Rattle.f95_source.proofs.UnitLaws.{one_unit}
use Rattle.f95_source.proofs.laws.one_unit.Goals as goal

pub returns : goal.returns
returns c = one_unit c.one_source.ensures
