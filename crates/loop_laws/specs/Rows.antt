-- One step at each row of LoopC: what it reads, as a value or the stuck state, and what it leaves, whatever the variables,
-- the lines behind it and the braces around it.
use Rattle.std.specs.Prelude.{◌≡◌, ℕ, pos, false, List, [], ◌∷◌, ◌++◌, drop, Some, Result, Ok, Err}
use Rattle.a95_base.specs.declared.fault.FaultKind.{FaultKind}
use Rattle.a95_base.specs.declared.scalar.Scalar.{Scalar}
use Rattle.a95_base.specs.declared.scalar.Scalar.TheVariants as scalar
use Rattle.a95_base.specs.Integer.{wrapped}
use Rattle.a95_base.specs.Outcome.{Ended, Faulted}
use Rattle.a95_base.specs.Input.{Reading, Integer, NoMore, NoInteger, next_value, record_length}
use Rattle.a95_base.specs.Record.{record_text}
use Rattle.loop_tree.specs.declared.stuck.StuckState.{StuckState}
use Rattle.loop_tree.specs.declared.atom.Atom.{Atom}
use Rattle.loop_tree.specs.declared.atom.TextAtom.{TextAtom}
use Rattle.loop_tree.specs.declared.atom.Reference.{Reference}
use Rattle.loop_tree.specs.declared.atom.Argument.{Argument}
use Rattle.loop_tree.specs.declared.row.IntValue.{IntValue}
use Rattle.loop_tree.specs.declared.row.IntValue.TheVariants as int
use Rattle.loop_tree.specs.declared.row.TextValue.{TextValue}
use Rattle.loop_tree.specs.declared.row.BlockRow.TheVariants as block
use Rattle.loop_tree.specs.declared.row.ControlRow.TheVariants as control
use Rattle.loop_tree.specs.declared.row.RecordRow.TheVariants as record_row
use Rattle.loop_tree.specs.declared.row.Row.{Row}
use Rattle.loop_tree.specs.declared.row.Row.TheVariants as row
use Rattle.loop_tree.specs.declared.tree.CodeLine.{CodeLine}
use Rattle.loop_tree.specs.declared.tree.CodeLine.TheVariants as code
use Rattle.loop_tree.specs.declared.tree.Function.{Function}
use Rattle.loop_tree.specs.Lines.{lines_of}
use Rattle.loop_tree.specs.State.{Brace, Cells, State, Comes, Stuck, Next, Goes, Ends, cells_at}
use Rattle.loop_tree.specs.Values.{block_at, holds, zeros, texts_of_length, grown}
use Rattle.loop_tree.specs.Machine.{step, quiet, turn, given, changed, store_int, store_text, freed, back_to}
use Rattle.loop_laws.specs.At.{Variables, frame_of, at, value_of, bytes_of, number_of, int_read, text_read, with_int, with_text}
use Rattle.loop_laws.specs.At.{with_blocks, with_ints_reference, with_texts_reference, with_new_block, called, entered, returned}

-- where the step at a row leads, and where the one at any line leads
abbrev pub LineStep : CodeLine → (List Function → Variables → List CodeLine → List Brace → Next) → Type 0
LineStep line next = (functions : List Function) (v : Variables) (lines : List CodeLine) (braces : List Brace) →
    step functions (at v (line ∷ lines) braces) ≡ next functions v lines braces

abbrev pub RowStep : Row → (List Function → Variables → List CodeLine → List Brace → Next) → Type 0
RowStep r next = LineStep (code.Row r) next

-- a row that gives a value, or is stuck, and leaves the variables changed by it
pub record Gives {A : Type 0} (r : Row) (value : Variables → Result A StuckState)
    (change : Variables → A → Variables) : Type 0 where
  pub by : RowStep r (λ functions v lines braces. given (value v) (λ a. at (change v a) lines braces))

-- a row that leaves the variables so
pub record Leaves (r : Row) (change : Variables → Variables) : Type 0 where
  pub by : RowStep r (λ functions v lines braces. quiet (at (change v) lines braces))

-- ---- integers and texts

-- f_take alone leaves less of the input
abbrev pub bytes_taken : Reading → ℕ
bytes_taken (Integer value used) = used
bytes_taken NoMore = 0
bytes_taken NoInteger = 0

abbrev pub behind_read : Variables → IntValue → Variables
behind_read v (int.Take a) = record v { input = drop (bytes_taken (next_value (holds (value_of v a)) v.input)) v.input }
behind_read v x = v

abbrev pub IntStep : Type 0
IntStep = (n : ℕ) (x : IntValue) → Gives (row.Int n x) (λ v. int_read v x) (λ v z. with_int (behind_read v x) n z)

abbrev pub TextStep : Type 0
TextStep = (n : ℕ) (x : TextValue) → Gives (row.Text n x) (λ v. text_read v x) (λ v t. with_text v n t)

-- ---- blocks

abbrev pub StoreIntStep : Type 0
StoreIntStep = (n : ℕ) (i a : Atom) → Gives (row.Block (block.StoreInt n i a))
    (λ v. changed v.blocks (block_at v.int_blocks n) (store_int (value_of v i) (value_of v a))) with_blocks

abbrev pub StoreTextStep : Type 0
StoreTextStep = (n : ℕ) (i : Atom) (t : TextAtom) → Gives (row.Block (block.StoreText n i t))
    (λ v. changed v.blocks (block_at v.text_blocks n) (store_text (value_of v i) (bytes_of v t))) with_blocks

abbrev pub GrowStep : Type 0
GrowStep = (r : Reference) (a : Atom) → Gives (row.Block (block.Grow r a))
    (λ v. changed v.blocks (number_of v r) (λ cells. grown cells (value_of v a))) with_blocks

abbrev pub FreeStep : Type 0
FreeStep = (r : Reference) → Gives (row.Block (block.Free r)) (λ v. cells_at v.blocks (number_of v r))
    (λ v cells. with_blocks v (freed v.blocks (number_of v r)))

-- a new block, which reference n leads to
abbrev pub with_new_ints : ℕ → Variables → Cells → Variables
with_new_ints n v cells = with_ints_reference (with_new_block v cells) n (Some v.made)

abbrev pub with_new_texts : ℕ → Variables → Cells → Variables
with_new_texts n v cells = with_texts_reference (with_new_block v cells) n (Some v.made)

abbrev pub NewStep : Type 0
NewStep = (n : ℕ) (a : Atom) → Gives (row.Block (block.New n a)) (λ v. zeros (value_of v a)) (with_new_ints n)

abbrev pub TempStep : Type 0
TempStep = (n : ℕ) (a : Atom) → Gives (row.Block (block.Temp n a)) (λ v. zeros (value_of v a)) (with_new_ints n)

abbrev pub CopyStep : Type 0
CopyStep = (n : ℕ) (a : Atom) → Gives (row.Block (block.Copy n a)) (λ v. zeros (value_of v a)) (with_new_ints n)

abbrev pub MarkStep : Type 0
MarkStep = (n : ℕ) (a : Atom) → Gives (row.Block (block.Mark n a)) (λ v. zeros (value_of v a)) (with_new_ints n)

abbrev pub NewTextStep : Type 0
NewTextStep = (n : ℕ) (a b : Atom) → Gives (row.Block (block.NewText n a b)) (λ v. texts_of_length (value_of v a) (value_of v b))
    (with_new_texts n)

abbrev pub TempTextStep : Type 0
TempTextStep = (n : ℕ) (a : Atom) → Gives (row.Block (block.TempText n a)) (λ v. texts_of_length (value_of v a) (pos 0))
    (with_new_texts n)

abbrev pub CopyTextStep : Type 0
CopyTextStep = (n : ℕ) (a : Atom) → Gives (row.Block (block.CopyText n a)) (λ v. texts_of_length (value_of v a) (pos 0))
    (with_new_texts n)

-- a reference that leads to the block of another
abbrev pub SameIntsStep : Type 0
SameIntsStep = (n m : ℕ) → Gives (row.Block (block.SameInts n m)) (λ v. cells_at v.blocks (block_at v.int_blocks m))
    (λ v cells. with_ints_reference v n (block_at v.int_blocks m))

abbrev pub SameTextsStep : Type 0
SameTextsStep = (n m : ℕ) → Gives (row.Block (block.SameTexts n m)) (λ v. cells_at v.blocks (block_at v.text_blocks m))
    (λ v cells. with_texts_reference v n (block_at v.text_blocks m))

-- ---- ends, the line of the source, records

abbrev pub StopStep : Type 0
StopStep = RowStep (row.Control control.Stop) (λ functions v lines braces. Ends (Comes Ended))

abbrev pub FaultStep : Type 0
FaultStep = (kind : FaultKind) → RowStep (row.Control (control.Fault kind))
    (λ functions v lines braces. Ends (Comes (Faulted kind v.line)))

abbrev pub SourceLineStep : Type 0
SourceLineStep = (n : ℕ) → Leaves (row.Control (control.At n)) (λ v. record v { line = n })

abbrev pub with_pending : Variables → Scalar → Variables
with_pending v value = record v { pending = v.pending ++ value ∷ [] }

abbrev pub PutIntStep : Type 0
PutIntStep = (a : Atom) → Leaves (row.Record (record_row.PutInt a)) (λ v. with_pending v (scalar.Int (wrapped (value_of v a))))

abbrev pub PutLogStep : Type 0
PutLogStep = (a : Atom) → Leaves (row.Record (record_row.PutLog a)) (λ v. with_pending v (scalar.Log (holds (value_of v a))))

abbrev pub PutTextStep : Type 0
PutTextStep = (t : TextAtom) → Leaves (row.Record (record_row.PutText t)) (λ v. with_pending v (scalar.Text (bytes_of v t)))

abbrev pub WriteStep : Type 0
WriteStep = RowStep (row.Record record_row.Write) (λ functions v lines braces. Goes false (record_text v.pending ++ 10 ∷ [])
    (at (record v { pending = [] }) lines braces))

abbrev pub SkipStep : Type 0
SkipStep = Leaves (row.Record record_row.Skip) (λ v. record v { input = drop (record_length v.input) v.input })

-- ---- calls

-- a value begins a turn, a stuck state ends
abbrev pub begins : {A : Type 0} → Result A StuckState → (A → State) → Next
begins (Ok value) next = turn (next value)
begins (Err why) next = Ends (Stuck why)

abbrev pub CallStep : Type 0
CallStep = (n : ℕ) (arguments : List Argument) →
    RowStep (row.Control (control.Call n arguments)) (λ functions v lines braces. begins (called functions v n arguments)
    (λ f. at (entered v lines braces arguments) (lines_of f) []))

-- the call is left: at return, at the function's last brace, and where no line is left
abbrev pub leaving : Variables → Next
leaving v = back_to (at v [] []) v.callers

abbrev pub ReturnStep : Type 0
ReturnStep = RowStep (row.Control control.Return) (λ functions v lines braces. leaving v)

abbrev pub LastBraceStep : Type 0
LastBraceStep = (functions : List Function) (v : Variables) (lines : List CodeLine) →
    step functions (at v (code.Close ∷ lines) []) ≡ leaving v

abbrev pub NoLineStep : Type 0
NoLineStep = (functions : List Function) (v : Variables) (braces : List Brace) → step functions (at v [] braces) ≡ leaving v

-- to the caller, whose lines and braces are those at the call, or out of the program
abbrev pub LeavesToCaller : Type 0
LeavesToCaller = (v w : Variables) (lines : List CodeLine) (braces : List Brace) →
    w.callers ≡ frame_of v lines braces ∷ v.callers → leaving w ≡ quiet (at (returned v w) lines braces)

abbrev pub LeavesProgram : Type 0
LeavesProgram = (v : Variables) → v.callers ≡ [] → leaving v ≡ Ends (Comes Ended)
