use Rattle.std.proofs.Common.{◌≡◌, drop}
use Rattle.nest_emit.specs.Emits.{emits_trees}
use Rattle.nest_sorts.specs.Seen.{trees_of}
use Rattle.emitted_units.proofs.units.+emits_tree.Given as goal

abbrev pub invariant-emits_trees-loop-operand : goal.invariant-emits_trees-loop-operand
invariant-emits_trees-loop-operand l =
    emits_trees (trees_of (drop l.operand-index l.operands)) ≡ emits_trees (trees_of l.operands)
