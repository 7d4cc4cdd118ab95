use Rattle.std.proofs.Common.{◌≡◌, drop, map}
use Rattle.names_types.specs.Rules.{has_loop}
use Rattle.names_types.specs.View.{value_of, joined_values}
use Rattle.scope_rules.proofs.demands.has_loop.Given as goal

abbrev pub invariant-loop-value : goal.invariant-loop-value
invariant-loop-value l =
    has_loop (joined_values (map value_of (drop l.value-index l.values))) ≡ has_loop (joined_values (map value_of l.values))
