-- A source has one typed unit.
use Rattle.std.proofs.Common.{refl, sym, ◌∙◌}
use Rattle.shape_check.specs.Laws.{OneUnit, SomeUnit}

pub one_unit : OneUnit
one_unit s u v h g = sym h.1 ∙ g.1

pub some_unit : SomeUnit
some_unit s h = (h, refl)
