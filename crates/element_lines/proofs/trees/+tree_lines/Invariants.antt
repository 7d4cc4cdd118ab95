use Rattle.std.proofs.Common.{◌≡◌, ◌++◌, drop}
use Rattle.nest_emit.specs.Trees.{trees_lines}
use Rattle.nest_sorts.specs.Seen.{trees_of}
use Rattle.element_atoms.specs.Added.{IsSameBody}
use Rattle.element_atoms.specs.Positions.{scope_at}
use Rattle.element_lines.proofs.trees.+tree_lines.Given as goal

abbrev pub invariant-trees_lines-loop-operand : goal.invariant-trees_lines-loop-operand
invariant-trees_lines-loop-operand l = record {
  rows : l.code.statements
      ++ trees_lines (scope_at l.position) l.position.nests l.u (trees_of (drop l.operand-index l.operands))
      ≡ l.initial.code.statements ++ trees_lines (scope_at l.position) l.position.nests l.t (trees_of l.operands);
  body : IsSameBody l.initial.code l.code;
}
