use Rattle.std.proofs.Common.{◌≡◌, ◌++◌, drop}
use Rattle.well_typed.specs.Known.{declared_extents}
use Rattle.typed_facts.proofs.counts.declared_extents.Given as goal

abbrev pub invariant-loop-d : goal.invariant-loop-d
invariant-loop-d l = l.extents ++ declared_extents (drop l.d-index l.dims) ≡ declared_extents l.dims
