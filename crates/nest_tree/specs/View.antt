-- The nest unit of the code as plain data: one fold over element trees, one over statements.
use Rattle.std.specs.Prelude.{List, [], ◌∷◌, map, option_map}
use Rattle.f95_unit.specs.View.{line_of}
use Rattle.nest_tree.specs.Plain as plain
use Rattle.nest_tree.specs.declared.frame.AnyFrame.{AnyFrame}
use Rattle.nest_tree.specs.declared.frame.AnyFrame.TheVariants as ranked
use Rattle.nest_tree.specs.declared.tree.Tree.{Tree}
use Rattle.nest_tree.specs.declared.tree.Tree.TheOpen.{Tree-F, Operand-F}
use Rattle.nest_tree.specs.declared.tree.Tree.TheFolds.{fold-Tree}
use Rattle.nest_tree.specs.declared.statement.Guard.{Guard}
use Rattle.nest_tree.specs.declared.statement.Piece.{Piece}
use Rattle.nest_tree.specs.declared.statement.Passed.{Passed}
use Rattle.nest_tree.specs.declared.statement.Passed.TheVariants as passed
use Rattle.nest_tree.specs.declared.statement.Statement.{Statement}
use Rattle.nest_tree.specs.declared.statement.Statement.TheOpen.{Statement-F, Nest-F}
use Rattle.nest_tree.specs.declared.statement.Statement.TheFolds.{fold-Statement}
use Rattle.nest_tree.specs.declared.unit.Procedure.{Procedure}
use Rattle.nest_tree.specs.declared.unit.NestUnit.{NestUnit}

-- ---- element trees. An argument is seen as what it puts in front of the rest

abbrev pub AddTree : Type 0
AddTree = plain.Trees → plain.Trees

abbrev pub joined_trees : List AddTree → plain.Trees
joined_trees [] = plain.no_tree
joined_trees (add ∷ more) = add (joined_trees more)

abbrev pub tree_at : Tree-F plain.Tree AddTree → plain.Tree
tree_at (Tree-F.Literal x) = plain.Literal x
tree_at (Tree-F.Number z) = plain.Number z
tree_at (Tree-F.Constant n) = plain.Constant n
tree_at (Tree-F.Fixed k) = plain.Fixed k
tree_at (Tree-F.Read a) = plain.Read a
tree_at (Tree-F.Cell n t) = plain.Cell n t
tree_at (Tree-F.Entry l t) = plain.Entry l t
tree_at (Tree-F.Turn loop) = plain.Turn loop
tree_at (Tree-F.Place a) = plain.Place a
tree_at (Tree-F.Asked q n) = plain.Asked q n
tree_at (Tree-F.Unary op t) = plain.Unary op t
tree_at (Tree-F.Binary op t u) = plain.Binary op t u
tree_at (Tree-F.Exact op t u) = plain.Exactly op t u
tree_at (Tree-F.Wrapped t) = plain.Wrapped t
tree_at (Tree-F.Elemental which ts) = plain.Each which (joined_trees ts)
tree_at (Tree-F.Trim t) = plain.Trim t
tree_at (Tree-F.Len t) = plain.Len t
tree_at (Tree-F.Applied r blank p ts) = plain.Applied r blank p (joined_trees ts)

abbrev pub operand_at : Operand-F plain.Tree AddTree → AddTree
operand_at o more = plain.tree o.place o.value more

abbrev pub tree_of : Tree → plain.Tree
tree_of = fold-Tree plain.Tree AddTree tree_at operand_at

-- ---- frames

abbrev pub frame_of : AnyFrame → plain.Frame
frame_of (ranked.One f) = record { extents = f.extents; order = f.order }
frame_of (ranked.Two f) = record { extents = f.extents; order = f.order }
frame_of (ranked.Three f) = record { extents = f.extents; order = f.order }
frame_of (ranked.Four f) = record { extents = f.extents; order = f.order }
frame_of (ranked.Five f) = record { extents = f.extents; order = f.order }
frame_of (ranked.Six f) = record { extents = f.extents; order = f.order }
frame_of (ranked.Seven f) = record { extents = f.extents; order = f.order }

-- ---- statements

abbrev pub guard_of : Guard → plain.Guard
guard_of g = record { line = line_of g.line; test = tree_of g.test }

abbrev pub piece_of : Piece → plain.Piece
piece_of p = record { line = line_of p.line; target = p.target; guard = option_map guard_of p.guard; value = tree_of p.value }

abbrev pub passed_of : Passed → plain.Passed
passed_of (passed.Value t) = plain.Value (tree_of t)
passed_of (passed.Whole n) = plain.Whole n
passed_of (passed.Result t) = plain.ResultIn t

abbrev pub joined_statements : List plain.Statement → plain.Statements
joined_statements [] = plain.no_statement
joined_statements (s ∷ more) = plain.statement s (joined_statements more)

abbrev pub statement_at : Statement-F plain.Statement plain.Statement → plain.Statement
statement_at (Statement-F.Set line k t) = plain.Set (line_of line) k (tree_of t)
statement_at (Statement-F.Test line kind t) = plain.Test (line_of line) kind (tree_of t)
statement_at (Statement-F.Store p) = plain.Store (piece_of p)
statement_at (Statement-F.StoreCell line n t u) = plain.StoreCell (line_of line) n (tree_of t) (tree_of u)
statement_at (Statement-F.Make line b) = plain.Make (line_of line) b
statement_at (Statement-F.Grow line n a) = plain.Grow (line_of line) n a
statement_at (Statement-F.Rebound line n spans) = plain.Rebound (line_of line) n spans
statement_at (Statement-F.Free line n) = plain.Free (line_of line) n
statement_at (Statement-F.MakeList line l a) = plain.MakeList (line_of line) l a
statement_at (Statement-F.StoreEntry line l t u) = plain.StoreEntry (line_of line) l (tree_of t) (tree_of u)
statement_at (Statement-F.FreeList line l) = plain.FreeList (line_of line) l
statement_at (Statement-F.Nest n) = n
statement_at (Statement-F.If line t yes_part no_part) =
    plain.If (line_of line) (tree_of t) (joined_statements yes_part) (joined_statements no_part)
statement_at (Statement-F.While line head t body) =
    plain.While (line_of line) (joined_statements head) (tree_of t) (joined_statements body)
statement_at (Statement-F.Call line p ps) = plain.Call (line_of line) p (map passed_of ps)
statement_at (Statement-F.Put line t) = plain.Put (line_of line) (tree_of t)
statement_at Statement-F.Write = plain.Write
statement_at (Statement-F.Take line k behind) = plain.Take (line_of line) k behind
statement_at (Statement-F.Skip line behind) = plain.Skip (line_of line) behind
statement_at (Statement-F.Exit out) = plain.Exit out
statement_at (Statement-F.Cycle out) = plain.Cycle out
statement_at Statement-F.Return = plain.Return
statement_at Statement-F.Stop = plain.Stop

abbrev pub nest_at : Nest-F plain.Statement plain.Statement → plain.Statement
nest_at n = plain.Nest n.own (frame_of n.frame) n.headers (joined_statements n.checks) (joined_statements n.body)

abbrev pub statement_of : Statement → plain.Statement
statement_of = fold-Statement plain.Statement plain.Statement statement_at nest_at

abbrev pub statements_of : List Statement → plain.Statements
statements_of body = joined_statements (map statement_of body)

-- ---- the whole

abbrev pub procedure_of : Procedure → plain.Procedure
procedure_of p = record {
  line = line_of p.line;
  variables = p.variables;
  scalars = p.scalars;
  blocks = p.blocks;
  lists = p.lists;
  body = statements_of p.body;
}

abbrev pub unit_of : NestUnit → plain.NestUnit
unit_of u = record { constants = u.constants; main = procedure_of u.main; procedures = map procedure_of u.procedures }
