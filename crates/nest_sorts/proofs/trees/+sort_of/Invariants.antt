use Rattle.std.proofs.Common.{◌≡◌, ◌++◌, drop}
use Rattle.nest_tree.specs.Sound.{sorts_of}
use Rattle.nest_sorts.specs.Seen.{scope_of, trees_of}
use Rattle.nest_sorts.proofs.trees.+sort_of.Given as goal

abbrev pub invariant-sorts_of-loop-operand : goal.invariant-sorts_of-loop-operand
invariant-sorts_of-loop-operand l =
    l.sorts.items ++ sorts_of (scope_of l.scope) (trees_of (drop l.operand-index l.operands))
    ≡ sorts_of (scope_of l.scope) (trees_of l.operands)
