use Rattle.std.proofs.Common.{◌≡◌, drop, map}
use Rattle.std.specs.List.{list_any, flat_map}
use Rattle.names_types.specs.Rules.{bound_exprs}
use Rattle.names_types.specs.View.{dim_of}
use Rattle.known_scopes.specs.View.{scope_of}
use Rattle.scope_rules.specs.Specifying.{is_none_of, said_by}
use Rattle.scope_rules.proofs.bounds.none_in_dims.Given as goal

abbrev pub invariant-loop-dim : goal.invariant-loop-dim
invariant-loop-dim l =
    list_any (is_none_of (scope_of l.senses.known.now.scope) (said_by l.senses)) (flat_map bound_exprs (map dim_of (drop l.dim-index l.dims)))
    ≡ list_any (is_none_of (scope_of l.senses.known.now.scope) (said_by l.senses)) (flat_map bound_exprs (map dim_of l.dims))
