-- The lines of statements, within so many nests. They use the variables from number t on.
use Rattle.std.specs.Prelude.{ℕ, zero, suc, ℤ, pos, negsuc, ◌+◌, ◌-◌, Bool, true, false, ◌||◌, nat_le, List, [], ◌∷◌, ◌++◌, Option, Some, None, length, map}
use Rattle.std.specs.Prelude.{slice_get}
use Rattle.a95_base.specs.declared.fault.FaultKind.TheVariants as fault
use Rattle.rank_shape.specs.Order.{Level}
use Rattle.nest_tree.specs.declared.access.Access.{Access}
use Rattle.nest_tree.specs.declared.access.Amount.{Amount}
use Rattle.nest_tree.specs.declared.access.Name.{Name}
use Rattle.nest_tree.specs.declared.access.Portion.{Portion}
use Rattle.nest_tree.specs.declared.tree.Blank.{Blank}
use Rattle.nest_tree.specs.declared.tree.Blank.TheVariants as blank
use Rattle.nest_tree.specs.declared.statement.Made.{Made}
use Rattle.nest_tree.specs.declared.statement.Made.TheVariants as made
use Rattle.nest_tree.specs.declared.statement.Span.{Span}
use Rattle.nest_tree.specs.declared.unit.Sort.{Sort}
use Rattle.nest_tree.specs.declared.unit.Sort.TheVariants as sort
use Rattle.nest_tree.specs.Plain.{Tree, Guard, Statement, Set, Test, Store, Make, Grow, Rebound, Free, Nest, If, While, Put, Write, Take, Skip, Exit, Cycle, Return, Stop, Statements, no_statement, statement, Procedure, NestUnit, StoreCell}
use Rattle.nest_tree.specs.Sound.{Scope, in_nest, sort_of, sort_of_name, is_own_text}
use Rattle.loop_tree.specs.declared.atom.Atom.{Atom}
use Rattle.loop_tree.specs.declared.atom.Atom.TheVariants as atom
use Rattle.loop_tree.specs.declared.atom.TextAtom.{TextAtom}
use Rattle.loop_tree.specs.declared.atom.TextAtom.TheVariants as text
use Rattle.loop_tree.specs.declared.atom.Reference.{Reference}
use Rattle.loop_tree.specs.declared.atom.Operator.TheVariants as operator
use Rattle.loop_tree.specs.declared.row.IntValue.TheVariants as int
use Rattle.loop_tree.specs.declared.row.TextValue.TheVariants as words
use Rattle.loop_tree.specs.declared.row.BlockRow.TheVariants as block
use Rattle.loop_tree.specs.declared.row.ControlRow.{ControlRow}
use Rattle.loop_tree.specs.declared.row.ControlRow.TheVariants as control
use Rattle.loop_tree.specs.declared.row.RecordRow.TheVariants as record_row
use Rattle.loop_tree.specs.declared.row.Row.TheVariants as row
use Rattle.loop_tree.specs.declared.tree.Stmt.{Stmt}
use Rattle.loop_tree.specs.declared.tree.Stmt.TheVariants as stmt
use Rattle.loop_tree.specs.declared.tree.Function.{Function}
use Rattle.nest_emit.specs.Numbers.{array_number, lower_number, extent_number, length_number, scalar_number, leaving_number, first_free, loop_number}
use Rattle.nest_emit.specs.Trees.{set, say, keep, compute, unless_fault, amount_atom, place_atom, place_lines, atom_of, words_of, tree_lines, reference_to}

-- ---- rows

abbrev pub control_row : ControlRow → Stmt
control_row r = stmt.Row (row.Control r)

-- the line of the source that is being executed
abbrev pub at_line : ℕ → Stmt
at_line n = control_row (control.At n)

-- a value by its sort: into a cell, into the record
abbrev pub store : Option Sort → ℕ → Atom → Atom → TextAtom → Stmt
store (Some sort.Text) array place a w = stmt.Row (row.Block (block.StoreText array place w))
store s array place a w = stmt.Row (row.Block (block.StoreInt array place a))

abbrev pub put : Option Sort → Atom → TextAtom → Stmt
put (Some sort.Text) a w = stmt.Row (row.Record (record_row.PutText w))
put (Some sort.Log) a w = stmt.Row (row.Record (record_row.PutLog a))
put s a w = stmt.Row (row.Record (record_row.PutInt a))

-- An element takes a value. That of a declared text variable is cut or padded to the variable's length, and where bytes of it are
-- named, put in their place
module _ (q : Procedure) (n : Name) (t : ℕ) (at : Atom) where
  abbrev pub stored_lines : (own_text : Bool) → Option Portion → Atom → TextAtom → List Stmt
  stored_lines false p a w = store (sort_of_name q n) (array_number q n) at a w ∷ []
  stored_lines true None a w = say t (words.Fit w (atom.Int (length_number (array_number q n))))
      ∷ store (Some sort.Text) (array_number q n) at a (text.Variable t) ∷ []
  stored_lines true (Some p) a w = say (suc t) (words.Cell (array_number q n) at)
      ∷ say (suc (suc t)) (words.Part (text.Variable (suc t)) (amount_atom q p.first) (amount_atom q p.last))
      ∷ set (suc (suc t)) (int.Length (text.Variable (suc (suc t)))) ∷ say t (words.Fit w (atom.Int (suc (suc t))))
      ∷ say t (words.Over (text.Variable (suc t)) (amount_atom q p.first) (text.Variable t))
      ∷ store (Some sort.Text) (array_number q n) at a (text.Variable t) ∷ []

-- ---- blocks

-- the bounds of an array, and the number of its elements in variable t
module _ (q : Procedure) (array t : ℕ) where
  abbrev pub bounds_lines : ℕ → List Span → List Stmt
  bounds_lines dim [] = set t (int.Atom (atom.Number (pos 1))) ∷ []
  bounds_lines dim (s ∷ spans) =
      set (lower_number array dim) (int.Atom (amount_atom q s.lower))
      ∷ compute (suc t) (amount_atom q s.upper) operator.Less (amount_atom q s.lower)
      ∷ stmt.IfElse (atom.Int (suc t)) (set (extent_number array dim) (int.Atom (atom.Number (pos 0))) ∷ [])
      (compute (extent_number array dim) (amount_atom q s.upper) operator.Subtract (amount_atom q s.lower)
      ∷ compute (extent_number array dim) (atom.Int (extent_number array dim)) operator.Add (atom.Number (pos 1)) ∷ [])
      ∷ (bounds_lines (suc dim) spans
      ++ (compute t (atom.Int (extent_number array dim)) operator.Multiply (atom.Int t) ∷ []))

-- so many integers
abbrev pub make_ints : Made → ℕ → ℕ → Stmt
make_ints made.New array t = stmt.Row (row.Block (block.New array (atom.Int t)))
make_ints made.Temporary array t = stmt.Row (row.Block (block.Temp array (atom.Int t)))
make_ints made.Copy array t = stmt.Row (row.Block (block.Copy array (atom.Int t)))
make_ints made.Mark array t = stmt.Row (row.Block (block.Mark array (atom.Int t)))

-- so many texts: those of a declared variable are blanks, of this length
abbrev pub make_texts : Made → ℕ → ℕ → Stmt
make_texts made.New array t = stmt.Row (row.Block (block.NewText array (atom.Int t) (atom.Int (length_number array))))
make_texts made.Temporary array t = stmt.Row (row.Block (block.TempText array (atom.Int t)))
make_texts other array t = stmt.Row (row.Block (block.CopyText array (atom.Int t)))

-- the length of the texts of an array, where a negative one is none
abbrev pub length_lines : Procedure → ℕ → ℕ → Amount → List Stmt
length_lines q array t a = set (length_number array) (int.Atom (amount_atom q a))
    ∷ compute t (atom.Int (length_number array)) operator.Less (atom.Number (pos 0))
    ∷ stmt.If (atom.Int t) (set (length_number array) (int.Atom (atom.Number (pos 0))) ∷ []) ∷ []

abbrev pub make_lines : Procedure → Made → Blank → ℕ → ℕ → List Stmt
make_lines q made (blank.Text a) array t = length_lines q array (suc t) a ++ (make_texts made array t ∷ [])
make_lines q made other array t = make_ints made array t ∷ []

-- a block that has grown is one row, counted from 1
abbrev pub row_lines : Reference → ℕ → List Stmt
row_lines r array = set (lower_number array 0) (int.Atom (atom.Number (pos 1))) ∷ set (extent_number array 0) (int.Size r) ∷ []

-- ---- input

-- an integer of the input, of a READ that took some before or none: where none is next, its fault
abbrev pub take_lines : ℕ → ℕ → Atom → List Stmt
take_lines t n behind = set t (int.Look behind) ∷ compute (suc t) (atom.Int t) operator.NotEqual (atom.Number (pos 1))
    ∷ unless_fault (atom.Int (suc t)) fault.EndOfInput ∷ compute (suc t) (atom.Int t) operator.NotEqual (atom.Number (pos 2))
    ∷ unless_fault (atom.Int (suc t)) fault.BadInput ∷ set n (int.Take behind) ∷ []

-- the rest of the record, of which a READ that took none needs one
abbrev pub skip_lines : ℕ → Atom → List Stmt
skip_lines t behind = set t int.More ∷ compute t behind operator.Or (atom.Int t) ∷ unless_fault (atom.Int t) fault.EndOfInput
    ∷ stmt.Row (row.Record record_row.Skip) ∷ []

-- ---- nests

-- the extents, in the variables from number t on
abbrev pub extent_lines : Procedure → ℕ → List Amount → List Stmt
extent_lines q t [] = []
extent_lines q t (a ∷ extents) = set t (int.Atom (amount_atom q a)) ∷ extent_lines q (suc t) extents

-- what is done where all of so many extents, from number t on, are greater than 0
abbrev pub where_elements : ℕ → ℕ → ℕ → List Stmt → List Stmt
where_elements test t zero inner = inner
where_elements test t (suc rank) inner =
    compute test (atom.Number (pos 0)) operator.Less (atom.Int t)
    ∷ stmt.If (atom.Int test) (where_elements test (suc t) rank inner) ∷ []

abbrev pub loop_line : Bool → ℕ → Atom → List Stmt → Stmt
loop_line false k bound inner = stmt.ForUp k bound inner
loop_line true k bound inner = stmt.ForDown k bound inner

-- loops in their order, the outermost first
abbrev pub loop_lines : ℕ → ℕ → List Level → List Stmt → List Stmt
loop_lines nests t [] inner = inner
loop_lines nests t (level ∷ order) inner =
    loop_line level.down (loop_number nests level.number) (atom.Int (t + (level.number - 1))) (loop_lines nests t order inner) ∷ []

-- ---- loops that are left

-- Where a loop is left, a variable says how: 0 where that is all, n where n loops more are left, - n - 1 where n loops more are left
-- and then a round of the next one
abbrev pub leave_lines : Procedure → ℤ → List Stmt
leave_lines q z = set (leaving_number q) (int.Atom (atom.Number z)) ∷ control_row control.Break ∷ []

-- behind a loop, what leaves the loop around it too
abbrev pub further_lines : Procedure → ℕ → List Stmt
further_lines q t = stmt.If (atom.Int (leaving_number q))
    (compute t (atom.Int (leaving_number q)) operator.Less (atom.Number (pos 0))
    ∷ stmt.IfElse (atom.Int t)
    (compute (leaving_number q) (atom.Int (leaving_number q)) operator.Add (atom.Number (pos 1))
    ∷ stmt.IfElse (atom.Int (leaving_number q)) (control_row control.Break ∷ []) (control_row control.Continue ∷ []) ∷ [])
    (compute (leaving_number q) (atom.Int (leaving_number q)) operator.Subtract (atom.Number (pos 1))
    ∷ control_row control.Break ∷ []) ∷ []) ∷ []

-- whether statements within so many loops leave loops further out
abbrev mutual
  pub leaves_more : ℕ → Statement → Bool
  leaves_more depth (If line test yes_part no_part) = all_leave_more depth yes_part || all_leave_more depth no_part
  leaves_more depth (While line head test body) = all_leave_more (suc depth) body
  leaves_more depth (Exit out) = nat_le depth out
  leaves_more depth (Cycle out) = nat_le depth out
  leaves_more depth other = false

  pub all_leave_more : ℕ → Statements → Bool
  all_leave_more depth no_statement = false
  all_leave_more depth (statement s more) = leaves_more depth s || all_leave_more depth more

abbrev pub behind_loop : Procedure → ℕ → Bool → List Stmt
behind_loop q t true = further_lines q t
behind_loop q t false = []

-- ---- statements

module _ (c : Scope) where
  -- the value of a piece, into the element that its access names
  abbrev pub store_lines : ℕ → ℕ → Access → Tree → List Stmt
  store_lines nests t target x = tree_lines c nests t x
      ++ (place_lines c.own nests (suc t) (array_number c.own target.name) 0 target.dimensions
      ++ stored_lines c.own target.name t (place_atom c.own nests (suc t) target.dimensions) (is_own_text c.own target.name)
      target.portion (atom_of c nests t x) (words_of c nests t x))

  abbrev pub piece_lines : ℕ → ℕ → Access → Option Guard → ℕ → Tree → List Stmt
  piece_lines nests t target None line x = at_line line ∷ store_lines nests t target x
  piece_lines nests t target (Some guard) line x = at_line guard.line ∷ (tree_lines c nests t guard.test
      ++ (stmt.If (atom_of c nests t guard.test) (at_line line ∷ store_lines nests t target x) ∷ []))

abbrev mutual
  pub lines_of : Scope → ℕ → ℕ → Statement → List Stmt
  lines_of c nests t (Set line k x) = at_line line ∷ (tree_lines c nests t x
      ++ (keep (slice_get c.own.scalars k) (scalar_number c.own k) (atom_of c nests t x) (words_of c nests t x) ∷ []))
  lines_of c nests t (Test line kind x) = at_line line ∷ (tree_lines c nests t x
      ++ (unless_fault (atom_of c nests t x) kind ∷ []))
  lines_of c nests t (Store p) = piece_lines c nests t p.target p.guard p.line p.value
  lines_of c nests t (StoreCell line n i x) = at_line line ∷ (tree_lines c nests t i ++ (tree_lines c nests (suc t) x
      ++ stored_lines c.own n (suc t) (atom_of c nests t i) (is_own_text c.own n) None (atom_of c nests (suc t) x)
      (words_of c nests (suc t) x)))
  lines_of c nests t (Make line b) = at_line line ∷ (bounds_lines c.own (array_number c.own b.name) t 0 b.bounds
      ++ make_lines c.own b.made b.blank (array_number c.own b.name) t)
  lines_of c nests t (Grow line n a) = at_line line
      ∷ stmt.Row (row.Block (block.Grow (reference_to (sort_of_name c.own n) (array_number c.own n)) (amount_atom c.own a)))
      ∷ row_lines (reference_to (sort_of_name c.own n) (array_number c.own n)) (array_number c.own n)
  lines_of c nests t (Rebound line n spans) = at_line line ∷ bounds_lines c.own (array_number c.own n) t 0 spans
  lines_of c nests t (Free line n) = at_line line
      ∷ stmt.Row (row.Block (block.Free (reference_to (sort_of_name c.own n) (array_number c.own n)))) ∷ []
  lines_of c nests t (Nest own frame headers checks body) = all_lines c nests t checks
      ++ (extent_lines c.own t frame.extents
      ++ where_elements (t + length frame.extents) t (length frame.extents)
      (loop_lines (suc nests) t frame.order
      (all_lines (in_nest c (length frame.extents)) (suc nests) (t + length frame.extents) body)))
  lines_of c nests t (If line test yes_part no_part) = at_line line ∷ (tree_lines c nests t test
      ++ (stmt.IfElse (atom_of c nests t test) (all_lines c nests t yes_part) (all_lines c nests t no_part) ∷ []))
  lines_of c nests t (While line head test body) = stmt.Forever (all_lines c nests t head ++ (at_line line
      ∷ (tree_lines c nests t test ++ (stmt.IfElse (atom_of c nests t test) [] (leave_lines c.own (pos 0))
      ∷ all_lines c nests t body)))) ∷ behind_loop c.own t (all_leave_more 1 body)
  lines_of c nests t (Put line x) = at_line line ∷ (tree_lines c nests t x
      ++ (put (sort_of c x) (atom_of c nests t x) (words_of c nests t x) ∷ []))
  lines_of c nests t (Take line k behind) = at_line line
      ∷ take_lines t (scalar_number c.own k) (atom.Int (scalar_number c.own behind))
  lines_of c nests t (Skip line behind) = at_line line ∷ skip_lines t (atom.Int (scalar_number c.own behind))
  lines_of c nests t Write = stmt.Row (row.Record record_row.Write) ∷ []
  lines_of c nests t (Exit out) = leave_lines c.own (pos out)
  lines_of c nests t (Cycle zero) = control_row control.Continue ∷ []
  lines_of c nests t (Cycle (suc out)) = leave_lines c.own (negsuc out)
  lines_of c nests t Return = control_row control.Return ∷ []
  lines_of c nests t Stop = control_row control.Stop ∷ []
  lines_of c nests t other = []

  pub all_lines : Scope → ℕ → ℕ → Statements → List Stmt
  all_lines c nests t no_statement = []
  all_lines c nests t (statement s more) = lines_of c nests t s ++ all_lines c nests t more

-- ---- the whole

abbrev pub scope_of : NestUnit → Procedure → Scope
scope_of unit q = record { unit = unit; own = q; loops = 0 }

abbrev pub function_of : NestUnit → Procedure → Function
function_of unit q = record { parameters = []; body = all_lines (scope_of unit q) 0 (first_free q) q.body }

abbrev pub program_of : NestUnit → List Function
program_of unit = function_of unit unit.main ∷ map (function_of unit) unit.procedures
