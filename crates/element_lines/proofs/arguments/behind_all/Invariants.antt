use Rattle.std.proofs.Common.{◌≡◌, ◌+◌, drop}
use Rattle.nest_emit.specs.Trees.{count_trees}
use Rattle.nest_sorts.specs.Seen.{trees_of}
use Rattle.element_lines.proofs.arguments.behind_all.Given as goal

abbrev pub invariant-loop-operand : goal.invariant-loop-operand
invariant-loop-operand l =
    l.u + count_trees (trees_of (drop l.operand-index l.operands)) ≡ l.t + count_trees (trees_of l.operands)
