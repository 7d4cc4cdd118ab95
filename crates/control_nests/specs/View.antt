-- What is made of an expression, as plain data; and arguments one behind the other.
use Rattle.std.specs.Prelude.{ℕ, List, [], ◌∷◌, map}
use Rattle.f95_unit.specs.Plain.{Arguments}
use Rattle.nest_tree.specs.declared.tree.Operand.{Operand}
use Rattle.nest_tree.specs.declared.tree.Tree.TheFolds.{fold-Operand}
use Rattle.nest_tree.specs.Plain as plain
use Rattle.nest_tree.specs.Plain.{Trees, Statements, joined}
use Rattle.nest_tree.specs.View.{AddTree, joined_trees, tree_at, operand_at, tree_of, statements_of}
use Rattle.control_lower.specs.Trees as made
use Rattle.control_nests.specs.declared.made.Lowered.{Lowered}
use Rattle.control_nests.specs.declared.made.LoweredAll.{LoweredAll}

abbrev pub operand_of : Operand → AddTree
operand_of = fold-Operand plain.Tree AddTree tree_at operand_at

abbrev pub trees_of : List Operand → Trees
trees_of operands = joined_trees (map operand_of operands)

abbrev pub lowered_of : Lowered → made.Lowered
lowered_of l = record { parts = statements_of l.parts; tree = tree_of l.tree; scalars = l.scalars }

abbrev pub all_of : LoweredAll → made.LoweredAll
all_of l = record { parts = statements_of l.parts; trees = trees_of l.operands; scalars = l.scalars }

-- arguments in front of others
abbrev pub onto : List AddTree → Trees → Trees
onto [] more = more
onto (add ∷ rest) more = add (onto rest more)

abbrev pub then_all : Statements → List AddTree → made.LoweredAll → made.LoweredAll
then_all parts adds next = record { parts = joined parts next.parts; trees = onto adds next.trees; scalars = next.scalars }

-- what is made so far of arguments, and the rest behind it
abbrev pub all_then : ℕ → LoweredAll → Arguments → made.LoweredAll
all_then line l more = then_all (statements_of l.parts) (map operand_of l.operands) (made.arguments line l.scalars more)
