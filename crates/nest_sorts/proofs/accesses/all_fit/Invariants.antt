use Rattle.std.proofs.Common.{◌≡◌, drop}
use Rattle.std.specs.List.{list_all}
use Rattle.nest_tree.specs.Sound.{fits_along}
use Rattle.nest_tree.specs.declared.access.Dimension.{Dimension}
use Rattle.nest_sorts.specs.Seen.{scope_of}
use Rattle.nest_sorts.proofs.accesses.all_fit.Given as goal

abbrev pub invariant-loop-dimension : goal.invariant-loop-dimension
invariant-loop-dimension l =
    list_all (λ (d : Dimension). fits_along (scope_of l.scope) d.along) (drop l.dimension-index l.dimensions)
    ≡ list_all (λ (d : Dimension). fits_along (scope_of l.scope) d.along) l.dimensions
