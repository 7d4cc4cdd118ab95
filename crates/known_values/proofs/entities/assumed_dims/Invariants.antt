use Rattle.std.proofs.Common.{◌≡◌, ◌++◌, map, drop}
use Rattle.f95_unit.specs.View.{bound_of}
use Rattle.well_typed.specs.Entities.{assumed_dim}
use Rattle.known_values.proofs.entities.assumed_dims.Given as goal

abbrev pub invariant-loop-lower : goal.invariant-loop-lower
invariant-loop-lower l =
    l.dims ++ map (assumed_dim l.constants) (map bound_of (drop l.lower-index l.lowers))
    ≡ map (assumed_dim l.constants) (map bound_of l.lowers)
