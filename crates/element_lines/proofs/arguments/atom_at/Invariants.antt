use Rattle.std.proofs.Common.{◌≡◌, drop}
use Rattle.nest_emit.specs.Trees.{atom_at}
use Rattle.nest_sorts.specs.Seen.{trees_of}
use Rattle.element_atoms.specs.Positions.{scope_at}
use Rattle.element_lines.proofs.arguments.atom_at.Given as goal

abbrev pub invariant-loop-operand : goal.invariant-loop-operand
invariant-loop-operand l =
    atom_at (scope_at l.position) l.position.nests l.place l.u (trees_of (drop l.operand-index l.operands))
    ≡ atom_at (scope_at l.position) l.position.nests l.place l.t (trees_of l.operands)
