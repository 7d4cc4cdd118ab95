-- The scope and the arguments of the code as those of the definitions.
use Rattle.std.specs.Prelude.{List, map}
use Rattle.nest_tree.specs.Plain as plain
use Rattle.nest_tree.specs.Sound as sound
use Rattle.nest_tree.specs.View.{AddTree, tree_at, operand_at, joined_trees, statement_at, nest_at, procedure_of, unit_of}
use Rattle.nest_tree.specs.declared.tree.Operand.{Operand}
use Rattle.nest_tree.specs.declared.tree.Tree.TheFolds.{fold-Operand}
use Rattle.nest_tree.specs.declared.statement.Nest.{Nest}
use Rattle.nest_tree.specs.declared.statement.Statement.TheFolds.{fold-Nest}
use Rattle.nest_sorts.specs.declared.scope.Scope.{Scope}

abbrev pub scope_of : Scope → sound.Scope
scope_of c = record { unit = unit_of c.unit.now; own = procedure_of c.own.now; loops = c.loops }

-- what an argument puts in front of the others
abbrev pub operand_of : Operand → AddTree
operand_of = fold-Operand plain.Tree AddTree tree_at operand_at

abbrev pub trees_of : List Operand → plain.Trees
trees_of operands = joined_trees (map operand_of operands)

abbrev pub nest_of : Nest → plain.Statement
nest_of = fold-Nest plain.Statement plain.Statement statement_at nest_at
