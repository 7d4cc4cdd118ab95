use Rattle.std.proofs.Common.{◌≡◌, ◌++◌, map, drop}
use Rattle.names_types.specs.Mentions.{names_in_items, names_in_values}
use Rattle.names_types.specs.View.{joined_items, joined_values, item_of, value_of}
use Rattle.statement_names.proofs.expressions.+names.Given as goal

abbrev pub invariant-items_names-loop-item : goal.invariant-items_names-loop-item
invariant-items_names-loop-item l =
    l.names.items ++ names_in_items (joined_items (map item_of (drop l.item-index l.items)))
    ≡ l.initial.names.items ++ names_in_items (joined_items (map item_of l.items))

abbrev pub invariant-values_names-loop-value : goal.invariant-values_names-loop-value
invariant-values_names-loop-value l =
    l.names.items ++ names_in_values (joined_values (map value_of (drop l.value-index l.values)))
    ≡ l.initial.names.items ++ names_in_values (joined_values (map value_of l.values))
