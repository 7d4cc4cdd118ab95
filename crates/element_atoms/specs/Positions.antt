-- The lines and the atoms of the trees of the code, at a position.
use Rattle.std.specs.Prelude.{ℕ, List}
use Rattle.f95_unit.specs.declared.operation.Elemental.{Elemental}
use Rattle.nest_tree.specs.Sound as sound
use Rattle.nest_tree.specs.Plain as plain
use Rattle.nest_tree.specs.View.{tree_of, procedure_of}
use Rattle.nest_tree.specs.declared.access.Dimension.{Dimension}
use Rattle.nest_tree.specs.declared.tree.Tree.{Tree}
use Rattle.loop_tree.specs.declared.atom.Atom.{Atom}
use Rattle.loop_tree.specs.declared.atom.TextAtom.{TextAtom}
use Rattle.loop_tree.specs.declared.tree.Stmt.{Stmt}
use Rattle.nest_emit.specs.Trees as lines
use Rattle.nest_sorts.specs.Seen.{scope_of}
use Rattle.element_atoms.specs.declared.position.Position.{Position}

abbrev pub scope_at : Position → sound.Scope
scope_at p = scope_of p.scope

abbrev pub own_at : Position → plain.Procedure
own_at p = procedure_of p.scope.own.now

abbrev pub lines_at : Position → ℕ → Tree → List Stmt
lines_at p t x = lines.tree_lines (scope_at p) p.nests t (tree_of x)

abbrev pub atom_at : Position → ℕ → Tree → Atom
atom_at p t x = lines.atom_of (scope_at p) p.nests t (tree_of x)

abbrev pub words_at : Position → ℕ → Tree → TextAtom
words_at p t x = lines.words_of (scope_at p) p.nests t (tree_of x)

-- the lines of an elemental function behind those of its arguments
abbrev pub each_at : Position → Elemental → ℕ → plain.Trees → List Stmt
each_at p which t ts = lines.each_lines (scope_at p) p.nests which t ts
