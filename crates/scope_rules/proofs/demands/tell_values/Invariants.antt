use Rattle.std.proofs.Common.{◌≡◌, drop, map}
use Rattle.names_types.specs.Rules.{value_exprs}
use Rattle.names_types.specs.View.{value_of, joined_values}
use Rattle.scope_rules.specs.Asking.{told_exprs}
use Rattle.scope_rules.specs.Told.{all_told}
use Rattle.scope_rules.proofs.demands.tell_values.Given as goal

abbrev pub invariant-loop-value : goal.invariant-loop-value
invariant-loop-value l =
    all_told l.breaks (told_exprs l.asked l.kind (value_exprs (joined_values (map value_of (drop l.value-index l.values)))))
    ≡ all_told l.initial.breaks (told_exprs l.asked l.kind (value_exprs (joined_values (map value_of l.values))))
