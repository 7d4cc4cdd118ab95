use Rattle.std.proofs.Common.{◌≡◌, drop, map}
use Rattle.std.specs.List.{flat_map}
use Rattle.a95_base.specs.declared.scalar.Kind.TheVariants as kind
use Rattle.names_types.specs.Rules.{bound_exprs}
use Rattle.names_types.specs.View.{dim_of}
use Rattle.scope_rules.specs.Asking.{told_exprs}
use Rattle.scope_rules.specs.Told.{all_told}
use Rattle.scope_rules.proofs.demands.tell_dims.Given as goal

abbrev pub invariant-loop-dim : goal.invariant-loop-dim
invariant-loop-dim l =
    all_told l.breaks (told_exprs l.asked kind.Int (flat_map bound_exprs (map dim_of (drop l.dim-index l.dims))))
    ≡ all_told l.initial.breaks (told_exprs l.asked kind.Int (flat_map bound_exprs (map dim_of l.dims)))
