use Rattle.std.proofs.Common.{drop, map}
use Rattle.names_types.specs.Rules.{constant_size}
use Rattle.names_types.specs.View.{dim_of}
use Rattle.known_scopes.specs.View.{senses_of}
use Rattle.scope_rules.proofs.Caps.{Product}
use Rattle.scope_rules.proofs.sizes.size.Given as goal

abbrev pub invariant-loop-dim : goal.invariant-loop-dim
invariant-loop-dim l =
    Product l.known (constant_size (senses_of l.senses) (map dim_of (drop l.dim-index l.dims)))
    (constant_size (senses_of l.senses) (map dim_of l.dims))
