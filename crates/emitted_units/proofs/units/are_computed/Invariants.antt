use Rattle.std.proofs.Common.{◌≡◌, drop}
use Rattle.std.specs.List.{list_all}
use Rattle.nest_emit.specs.Emits.{is_computed}
use Rattle.nest_tree.specs.declared.access.Dimension.{Dimension}
use Rattle.emitted_units.proofs.units.are_computed.Given as goal

abbrev pub invariant-loop-dimension : goal.invariant-loop-dimension
invariant-loop-dimension l =
    list_all (λ (d : Dimension). is_computed d.along) (drop l.dimension-index l.dimensions)
    ≡ list_all (λ (d : Dimension). is_computed d.along) l.dimensions
