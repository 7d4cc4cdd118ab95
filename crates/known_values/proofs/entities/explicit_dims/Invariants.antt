use Rattle.std.proofs.Common.{◌≡◌, ◌++◌, map, drop}
use Rattle.f95_unit.specs.View.{span_of}
use Rattle.well_typed.specs.Entities.{span_dim}
use Rattle.known_values.proofs.entities.explicit_dims.Given as goal

abbrev pub invariant-loop-s : goal.invariant-loop-s
invariant-loop-s l =
    l.dims ++ map (span_dim l.constants) (map span_of (drop l.s-index l.spans)) ≡ map (span_dim l.constants) (map span_of l.spans)
