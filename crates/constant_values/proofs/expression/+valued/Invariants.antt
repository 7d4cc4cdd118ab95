use Rattle.std.proofs.Common.{◌≡◌, ◌++◌, map, drop}
use Rattle.names_types.specs.Constants.{arguments}
use Rattle.names_types.specs.View.{joined_items, item_of}
use Rattle.constant_values.proofs.expression.+valued.Given as goal

abbrev pub invariant-arguments-loop-item : goal.invariant-arguments-loop-item
invariant-arguments-loop-item g l =
    l.made.items ++ arguments (g.S.Senses.meant l.senses) (joined_items (map item_of (drop l.item-index l.items)))
    ≡ arguments (g.S.Senses.meant l.senses) (joined_items (map item_of l.items))
