-- The rows of a loop's body as they are kept for all its turns. No public clause cites this.
use Rattle.std.specs.Prelude.{◌≡◌, ℕ, ℤ, ◌+◌, List, slice_get, Option, Some, Result, Ok, ⊤}
use Rattle.a95_base.specs.Integer.{wrapped}
use Rattle.loop_tree.specs.declared.stuck.StuckState.{StuckState}
use Rattle.loop_tree.specs.declared.atom.Atom.{Atom}
use Rattle.loop_tree.specs.declared.atom.Atom.TheVariants as atom
use Rattle.loop_tree.specs.declared.atom.Operator.TheVariants as operator
use Rattle.loop_tree.specs.declared.row.IntValue.{IntValue}
use Rattle.loop_tree.specs.declared.row.IntValue.TheVariants as int
use Rattle.loop_tree.specs.declared.row.BlockRow.TheVariants as block
use Rattle.loop_tree.specs.declared.row.ControlRow.TheVariants as control
use Rattle.loop_tree.specs.declared.row.Row.{Row}
use Rattle.loop_tree.specs.declared.row.Row.TheVariants as row
use Rattle.loop_tree.specs.declared.tree.CodeLine.{CodeLine}
use Rattle.loop_tree.specs.declared.tree.CodeLine.TheVariants as code
use Rattle.loop_tree.specs.Values.{block_at, atom_in, operation}
use Rattle.loop_heap.specs.Heap.{Heap}
use Rattle.loop_rows.specs.declared.state.Core.{Core}
use Rattle.loop_machine.specs.declared.sweep.Same.{Same}
use Rattle.loop_machine.specs.declared.sweep.Same.TheVariants as same
use Rattle.loop_machine.specs.declared.sweep.Value.{Value}
use Rattle.loop_machine.specs.declared.sweep.Value.TheVariants as value
use Rattle.loop_machine.specs.declared.sweep.Index.{Index}
use Rattle.loop_machine.specs.declared.sweep.Index.TheVariants as index
use Rattle.loop_machine.specs.declared.sweep.Operand.{Operand}
use Rattle.loop_machine.specs.declared.sweep.Operand.TheVariants as operand
use Rattle.loop_machine.specs.declared.sweep.CellRow.{CellRow}
use Rattle.loop_machine.specs.declared.sweep.CellRow.TheVariants as cell
use Rattle.loop_machine.specs.declared.sweep.Frequent.{Frequent}
use Rattle.loop_machine.specs.declared.sweep.Frequent.TheVariants as frequent
use Rattle.loop_machine.specs.declared.sweep.Plain.{Plain}
use Rattle.loop_machine.specs.declared.sweep.Plain.TheVariants as plain
use Rattle.loop_machine.specs.declared.sweep.Planned.{Planned}
use Rattle.loop_machine.specs.declared.sweep.Planned.TheVariants as planned

abbrev pub atom_of_index : ℕ → Index → Atom
atom_of_index k index.Own = atom.Loop k
atom_of_index k (index.Other a) = a

abbrev pub atom_of_operand : Operand → Atom
atom_of_operand (operand.Int n) = atom.Int n
atom_of_operand (operand.Other a) = a

abbrev pub cell_row : ℕ → CellRow → Row
cell_row k (cell.Load n m at link) = row.Int n (int.Cell m (atom_of_index k at))
cell_row k (cell.Store m at from link) = row.Block (block.StoreInt m (atom_of_index k at) (atom_of_operand from))

abbrev pub same_value : Same → IntValue
same_value (same.Atom a) = int.Atom (atom_of_operand a)
same_value (same.Wrap a) = int.Wrap (atom_of_operand a)

abbrev pub int_value_of : Value → IntValue
int_value_of (value.Sum a b) = int.Operation (atom_of_operand a) operator.Add (atom_of_operand b)
int_value_of (value.Operation a op b) = int.Operation (atom_of_operand a) op (atom_of_operand b)
int_value_of (value.Same v) = same_value v

-- what a variable is set to, where the variables have these values
abbrev pub found_in : List ℤ → List ℤ → Value → Result ℤ StuckState
found_in ints indices (value.Sum a b) =
    operation operator.Add (atom_in ints indices (atom_of_operand a)) (atom_in ints indices (atom_of_operand b))
found_in ints indices (value.Operation a op b) =
    operation op (atom_in ints indices (atom_of_operand a)) (atom_in ints indices (atom_of_operand b))
found_in ints indices (value.Same (same.Atom a)) = Ok (atom_in ints indices (atom_of_operand a))
found_in ints indices (value.Same (same.Wrap a)) = Ok (wrapped (atom_in ints indices (atom_of_operand a)))

abbrev pub frequent_row : ℕ → Frequent → Row
frequent_row k (frequent.Load n m link) = row.Int n (int.Cell m (atom.Loop k))
frequent_row k (frequent.Store m i link) = row.Block (block.StoreInt m (atom.Loop k) (atom.Int i))
frequent_row k (frequent.Sum n x y) = row.Int n (int.Operation (atom.Int x) operator.Add (atom.Int y))

abbrev pub plain_row : Plain → Row
plain_row (plain.Set n v) = row.Int n (int_value_of v)
plain_row (plain.At n) = row.Control (control.At n)

-- the row, in the body of the loop over variable k
abbrev pub row_of : ℕ → Planned → Row
row_of k (planned.Frequent f) = frequent_row k f
row_of k (planned.Cell c) = cell_row k c
row_of k (planned.Plain r) = plain_row r

-- the reference that is kept is the one that the variable holds
abbrev pub CellLinked : List (Option ℕ) → CellRow → Type 0
CellLinked references (cell.Load n m at link) = block_at references m ≡ Some link
CellLinked references (cell.Store m at from link) = block_at references m ≡ Some link

abbrev pub FrequentLinked : List (Option ℕ) → Frequent → Type 0
FrequentLinked references (frequent.Load n m link) = block_at references m ≡ Some link
FrequentLinked references (frequent.Store m i link) = block_at references m ≡ Some link
FrequentLinked references (frequent.Sum n x y) = ⊤

abbrev pub AtLine : ℕ → Plain → Type 0
AtLine line (plain.Set n v) = ⊤
AtLine line (plain.At n) = line ≡ n

-- and the line that is to be set is set
abbrev pub IsSettled : List (Option ℕ) → ℕ → Planned → Type 0
IsSettled references line (planned.Frequent f) = FrequentLinked references f
IsSettled references line (planned.Cell c) = CellLinked references c
IsSettled references line (planned.Plain r) = AtLine line r

-- each stands for a line, from a place on
abbrev pub Plans : List (Option ℕ) → ℕ → ℕ → List CodeLine → ℕ → List Planned → Type 0
Plans references line k lines from plan =
    (i : ℕ) (p : Planned) → slice_get plan i ≡ Some p → (slice_get lines (from + i) ≡ Some (code.Row (row_of k p))) ×
    IsSettled references line p

-- a machine with these integers and blocks in place of its own: all that such rows change
abbrev pub assembled : Core → List ℤ → Heap → Core
assembled core ints blocks = record core { blocks = blocks; active = record core.active { ints = ints } }

-- the same with another line next
abbrev pub placed : Core → ℕ → Core
placed core place = record core { active = record core.active { place = place } }
