use Rattle.f95_source.proofs.UnitLaws.{breaks_nothing}
use Rattle.f95_source.proofs.laws.breaks_nothing.Goals as goal

pub returns : goal.returns
returns c = breaks_nothing c.one_source.ensures c.breaks_nothing.ensures
