use Rattle.std.proofs.Common.{◌≡◌, replicate}
use Rattle.well_typed.specs.Entities.{unknown_dim}
use Rattle.known_values.proofs.entities.unknown_dims.Given as goal

abbrev pub invariant-loop-dimension : goal.invariant-loop-dimension
invariant-loop-dimension l = l.dims ≡ replicate l._dimension unknown_dim
