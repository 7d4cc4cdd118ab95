use Rattle.std.proofs.Common.{◌≡◌, ◌++◌, drop}
use Rattle.nest_emit.specs.Trees.{better_lines}
use Rattle.nest_sorts.specs.Seen.{trees_of}
use Rattle.element_atoms.specs.Added.{IsSameBody}
use Rattle.element_atoms.specs.Positions.{scope_at}
use Rattle.element_lines.proofs.choices.better_lines.Given as goal

abbrev pub invariant-loop-operand : goal.invariant-loop-operand
invariant-loop-operand l = record {
  rows : l.code.statements
      ++ better_lines (scope_at l.position) l.position.nests l.greatest l.best l.k (trees_of (drop l.operand-index l.operands))
      ≡ l.initial.code.statements
      ++ better_lines (scope_at l.position) l.position.nests l.greatest l.best l.fn.numbers.1 (trees_of l.operands);
  body : IsSameBody l.initial.code l.code;
}
