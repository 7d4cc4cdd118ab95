-- One step of a LoopC program: one case for each row of the grammar.
use Rattle.std.specs.Prelude.{ℕ, zero, suc, ℤ, pos, ◌+ℤ◌, ◌-ℤ◌, Bool, true, false, ◌&&◌, int_lt, int_le, if◌then◌else◌, List, []}
use Rattle.std.specs.Prelude.{◌∷◌, ◌++◌, map, drop, slice_get, Option, Some, None, Result, Ok, Err}
use Rattle.std.specs.Int.{w64, int_wrap}
use Rattle.std.specs.List.{list_all}
use Rattle.a95_base.specs.declared.scalar.Scalar.{Scalar}
use Rattle.a95_base.specs.declared.scalar.Scalar.TheVariants as scalar
use Rattle.a95_base.specs.Integer.{wrapped}
use Rattle.a95_base.specs.Outcome.{Ended, Faulted}
use Rattle.a95_base.specs.Input.{Reading, Integer, NoMore, NoInteger, next_value, record_length}
use Rattle.a95_base.specs.Record.{record_text}
use Rattle.a95_base.specs.Lists.{rest_of}
use Rattle.loop_tree.specs.declared.stuck.StuckState.{StuckState}
use Rattle.loop_tree.specs.declared.stuck.StuckState.TheVariants as stuck
use Rattle.loop_tree.specs.declared.atom.Letter.{Letter}
use Rattle.loop_tree.specs.declared.atom.Letter.TheVariants as letter
use Rattle.loop_tree.specs.declared.atom.Atom.{Atom}
use Rattle.loop_tree.specs.declared.atom.Reference.{Reference}
use Rattle.loop_tree.specs.declared.atom.Reference.TheVariants as reference
use Rattle.loop_tree.specs.declared.atom.Argument.{Argument}
use Rattle.loop_tree.specs.declared.atom.Argument.TheVariants as argument
use Rattle.loop_tree.specs.declared.row.IntValue.{IntValue}
use Rattle.loop_tree.specs.declared.row.IntValue.TheVariants as int
use Rattle.loop_tree.specs.declared.row.TextValue.{TextValue}
use Rattle.loop_tree.specs.declared.row.BlockRow.{BlockRow}
use Rattle.loop_tree.specs.declared.row.BlockRow.TheVariants as block
use Rattle.loop_tree.specs.declared.row.ControlRow.{ControlRow}
use Rattle.loop_tree.specs.declared.row.ControlRow.TheVariants as control
use Rattle.loop_tree.specs.declared.row.RecordRow.{RecordRow}
use Rattle.loop_tree.specs.declared.row.RecordRow.TheVariants as record_row
use Rattle.loop_tree.specs.declared.row.Row.{Row}
use Rattle.loop_tree.specs.declared.row.Row.TheVariants as row
use Rattle.loop_tree.specs.declared.tree.CodeLine.{CodeLine}
use Rattle.loop_tree.specs.declared.tree.CodeLine.TheVariants as code
use Rattle.loop_tree.specs.declared.tree.Function.{Function}
use Rattle.loop_tree.specs.Lines.{lines_of}
use Rattle.loop_tree.specs.State.{Brace, Choice, Upward, Downward, Forever, Cells, Ints, Texts, Block, Frame, State, Comes, Stuck}
use Rattle.loop_tree.specs.State.{Next, Goes, Ends, with_frame, with_rest, with_place, set_int, set_index, set_text, set_int_block}
use Rattle.loop_tree.specs.State.{set_text_block, cells_at, with_cells, without, made_before, with_new_block, with_blocks}
use Rattle.loop_tree.specs.Values.{number_at, block_at, atom_of, text_of, block_of, holds, and_then, ints_of, texts_of, stored}
use Rattle.loop_tree.specs.Values.{zeros, texts_of_length, grown, is_live, int_value, text_value}

-- a step that begins no turn and writes nothing
abbrev pub quiet : State → Next
quiet s = Goes false [] s

-- a step that begins a turn
abbrev pub turn : State → Next
turn s = Goes true [] s

-- a value leads on, a stuck state ends
abbrev pub given : {A : Type 0} → Result A StuckState → (A → State) → Next
given (Ok value) next = quiet (next value)
given (Err why) next = Ends (Stuck why)

-- ---- where a brace is closed

-- for each open brace, innermost first, the lines from the one on that closes it
unfoldable pub exits : List CodeLine → List (List CodeLine)
exits [] = []
exits (code.Row r ∷ lines) = exits lines
exits (code.If test ∷ lines) = rest_of (exits lines)
exits (code.Else ∷ lines) = (code.Else ∷ lines) ∷ rest_of (exits lines)
exits (code.ForUp k bound ∷ lines) = rest_of (exits lines)
exits (code.ForDown k bound ∷ lines) = rest_of (exits lines)
exits (code.Forever ∷ lines) = rest_of (exits lines)
exits (code.Close ∷ lines) = (code.Close ∷ lines) ∷ exits lines

-- the innermost one
abbrev pub first_exit : List (List CodeLine) → List CodeLine
first_exit [] = []
first_exit (lines ∷ more) = lines

abbrev pub exit_of : List CodeLine → List CodeLine
exit_of lines = first_exit (exits lines)

-- the lines behind the closing brace
abbrev pub behind : List CodeLine → List CodeLine
behind lines = rest_of (exit_of lines)

-- the lines from the closing brace of the innermost loop on, with the braces that are open there
pub record Place : Type 0 where
  pub lines : List CodeLine
  pub braces : List Brace

unfoldable pub loop_end : List Brace → List (List CodeLine) → Place
loop_end (Choice ∷ braces) exits = loop_end braces (rest_of exits)
loop_end braces exits = record { lines = first_exit exits; braces = braces }

-- ---- ends of a call

-- the call that made this one goes on, and the blocks that this one made are freed. Where none did, the run ends
abbrev pub back_to : State → List Frame → Next
back_to s [] = Ends (Comes Ended)
back_to s (caller ∷ callers) = quiet (record s { now = caller; callers = callers; blocks = made_before s.blocks s.now.mark })

unfoldable pub leave : State → Next
leave s = back_to s s.callers

-- ---- choice and loops. Each begins with the lines behind it as the rest

abbrev pub open_brace : State → Brace → State
open_brace s brace = with_place s s.now.rest (brace ∷ s.now.braces)

-- a test that fails leads to the other branch, or behind the closing brace
abbrev pub skip_choice : State → List CodeLine → State
skip_choice s (code.Else ∷ lines) = with_place s lines (Choice ∷ s.now.braces)
skip_choice s exit = with_rest s (rest_of exit)

unfoldable pub if_line : State → ℤ → Next
if_line s test = if holds test then quiet (open_brace s Choice) else quiet (skip_choice s (exit_of s.now.rest))

-- a loop whose variable was set begins its body, or is left
abbrev pub begin_loop : State → Bool → Brace → Next
begin_loop s goes brace = if goes then turn (open_brace s brace) else quiet (with_rest s (behind s.now.rest))

abbrev pub up_from : State → ℕ → Atom → Next
up_from s k bound = begin_loop s (int_lt (number_at s.now.indices k) (atom_of s bound)) (Upward k bound s.now.rest)

abbrev pub down_from : State → ℕ → Next
down_from s k = begin_loop s (int_le (pos 0) (number_at s.now.indices k)) (Downward k s.now.rest)

unfoldable pub for_up_line : State → ℕ → Atom → Next
for_up_line s k bound = up_from (set_index s k (pos 0)) k bound

unfoldable pub for_down_line : State → ℕ → ℤ → Next
for_down_line s k bound = down_from (set_index s k (int_wrap w64 (bound -ℤ pos 1))) k

unfoldable pub forever_line : State → Next
forever_line s = turn (open_brace s (Forever s.now.rest))

-- a loop whose variable was set begins its body again, or is left
abbrev pub again : State → Bool → List CodeLine → List Brace → Next
again s goes body braces = if goes then turn (with_rest s body) else quiet (with_place s s.now.rest braces)

abbrev pub up_again : State → ℕ → Atom → List CodeLine → List Brace → Next
up_again s k bound body braces = again s (int_lt (number_at s.now.indices k) (atom_of s bound)) body braces

abbrev pub down_again : State → ℕ → List CodeLine → List Brace → Next
down_again s k body braces = again s (int_le (pos 0) (number_at s.now.indices k)) body braces

-- a closing brace, where these are open
unfoldable pub close_line : State → List Brace → Next
close_line s [] = leave s
close_line s (Choice ∷ braces) = quiet (with_place s s.now.rest braces)
close_line s (Upward k bound body ∷ braces) = up_again (set_index s k (int_wrap w64 (number_at s.now.indices k +ℤ pos 1))) k bound
    body braces
close_line s (Downward k body ∷ braces) = down_again (set_index s k (int_wrap w64 (number_at s.now.indices k -ℤ pos 1))) k body
    braces
close_line s (Forever body ∷ braces) = turn (with_rest s body)

-- the branch behind ELSE is passed over
unfoldable pub else_line : State → Next
else_line s = quiet (with_place s (behind s.now.rest) (rest_of s.now.braces))

-- ---- rows

-- f_take takes the integer that it gives
abbrev pub take_line : State → ℕ → Reading → Next
take_line s n (Integer value used) = quiet (set_int (record s { input = drop used s.input }) n value)
take_line s n NoMore = Ends (Stuck stuck.NoInteger)
take_line s n NoInteger = Ends (Stuck stuck.NoInteger)

unfoldable pub int_line : State → ℕ → IntValue → Next
int_line s n (int.Take a) = take_line s n (next_value (holds (atom_of s a)) s.input)
int_line s n value = given (int_value s value) (set_int s n)

unfoldable pub text_line : State → ℕ → TextValue → Next
text_line s n value = given (text_value s value) (set_text s n)

-- a block's cells after a row, where the block lives
abbrev pub changed : List Block → Option ℕ → (Cells → Result Cells StuckState) → Result (List Block) StuckState
changed blocks None change = Err stuck.NoBlock
changed blocks (Some n) change = and_then (cells_at blocks (Some n))
    (λ cells. and_then (change cells) (λ new. Ok (with_cells blocks n new)))

abbrev pub store_int : ℤ → ℤ → Cells → Result Cells StuckState
store_int i value cells = and_then (ints_of cells) (λ ints. and_then (stored ints i value) (λ new. Ok (Ints new)))

abbrev pub store_text : ℤ → List ℕ → Cells → Result Cells StuckState
store_text i value cells = and_then (texts_of cells) (λ texts. and_then (stored texts i value) (λ new. Ok (Texts new)))

unfoldable pub change_line : State → Option ℕ → (Cells → Result Cells StuckState) → Next
change_line s block change = given (changed s.blocks block change) (with_blocks s)

abbrev pub freed : List Block → Option ℕ → List Block
freed blocks None = blocks
freed blocks (Some n) = without blocks n

unfoldable pub free_line : State → Option ℕ → Next
free_line s block = given (cells_at s.blocks block) (λ cells. with_blocks s (freed s.blocks block))

unfoldable pub new_ints_line : State → ℕ → ℤ → Next
new_ints_line s n count = given (zeros count) (λ cells. set_int_block (with_new_block s cells) n (Some s.made))

unfoldable pub new_texts_line : State → ℕ → ℤ → ℤ → Next
new_texts_line s n count size = given (texts_of_length count size)
    (λ cells. set_text_block (with_new_block s cells) n (Some s.made))

unfoldable pub same_ints_line : State → ℕ → Option ℕ → Next
same_ints_line s n block = given (cells_at s.blocks block) (λ cells. set_int_block s n block)

unfoldable pub same_texts_line : State → ℕ → Option ℕ → Next
same_texts_line s n block = given (cells_at s.blocks block) (λ cells. set_text_block s n block)

unfoldable pub block_line : State → BlockRow → Next
block_line s (block.StoreInt n i a) = change_line s (block_at s.now.int_blocks n) (store_int (atom_of s i) (atom_of s a))
block_line s (block.StoreText n i t) = change_line s (block_at s.now.text_blocks n) (store_text (atom_of s i) (text_of s t))
block_line s (block.New n a) = new_ints_line s n (atom_of s a)
block_line s (block.Temp n a) = new_ints_line s n (atom_of s a)
block_line s (block.Copy n a) = new_ints_line s n (atom_of s a)
block_line s (block.Mark n a) = new_ints_line s n (atom_of s a)
block_line s (block.NewText n a b) = new_texts_line s n (atom_of s a) (atom_of s b)
block_line s (block.TempText n a) = new_texts_line s n (atom_of s a) (pos 0)
block_line s (block.CopyText n a) = new_texts_line s n (atom_of s a) (pos 0)
block_line s (block.SameInts n m) = same_ints_line s n (block_at s.now.int_blocks m)
block_line s (block.SameTexts n m) = same_texts_line s n (block_at s.now.text_blocks m)
block_line s (block.Grow r a) = change_line s (block_of s r) (λ cells. grown cells (atom_of s a))
block_line s (block.Free r) = free_line s (block_of s r)

-- ---- calls

abbrev pub letter_of_reference : Reference → Letter
letter_of_reference (reference.Ints n) = letter.Ints
letter_of_reference (reference.Texts n) = letter.Texts

abbrev pub letter_of : Argument → Letter
letter_of (argument.Int a) = letter.Int
letter_of (argument.Text t) = letter.Text
letter_of (argument.Block r) = letter_of_reference r

abbrev pub same_letter : Letter → Letter → Bool
same_letter letter.Int letter.Int = true
same_letter letter.Text letter.Text = true
same_letter letter.Ints letter.Ints = true
same_letter letter.Texts letter.Texts = true
same_letter a b = false

-- as many arguments as parameters, of their letters
abbrev pub match_letters : List Argument → List Letter → Bool
match_letters [] [] = true
match_letters (a ∷ arguments) (p ∷ parameters) = same_letter (letter_of a) p && match_letters arguments parameters
match_letters arguments parameters = false

abbrev pub is_usable : State → Argument → Bool
is_usable s (argument.Int a) = true
is_usable s (argument.Text t) = true
is_usable s (argument.Block r) = is_live (cells_at s.blocks (block_of s r))

-- the first value of the variable of each letter that has an argument's number
abbrev pub int_passed : State → Argument → ℤ
int_passed s (argument.Int a) = atom_of s a
int_passed s other = pos 0

abbrev pub text_passed : State → Argument → List ℕ
text_passed s (argument.Text t) = text_of s t
text_passed s other = []

abbrev pub ints_passed : State → Argument → Option ℕ
ints_passed s (argument.Block (reference.Ints n)) = block_at s.now.int_blocks n
ints_passed s other = None

abbrev pub texts_passed : State → Argument → Option ℕ
texts_passed s (argument.Block (reference.Texts n)) = block_at s.now.text_blocks n
texts_passed s other = None

abbrev pub callee : State → Function → List Argument → Frame
callee s function arguments = record {
  rest = lines_of function;
  braces = [];
  ints = map (int_passed s) arguments;
  indices = [];
  texts = map (text_passed s) arguments;
  int_blocks = map (ints_passed s) arguments;
  text_blocks = map (texts_passed s) arguments;
  line = 0;
  mark = s.made;
}

abbrev pub enter : State → Function → List Argument → State
enter s function arguments = record s { now = callee s function arguments; callers = s.now ∷ s.callers }

abbrev pub enter_if : State → Option Function → List Argument → Next
enter_if s None arguments = Ends (Stuck stuck.WrongCall)
enter_if s (Some function) arguments = if match_letters arguments function.parameters then turn (enter s function arguments) else
    Ends (Stuck stuck.WrongCall)

-- function 0 is not called
abbrev pub callable : List Function → ℕ → Option Function
callable functions zero = None
callable functions (suc n) = slice_get functions (suc n)

unfoldable pub call_line : List Function → State → ℕ → List Argument → Next
call_line functions s n arguments = if list_all (is_usable s) arguments then enter_if s (callable functions n) arguments else Ends
    (Stuck stuck.NoBlock)

-- ---- control

unfoldable pub break_line : State → Place → Next
break_line s place = quiet (with_place s (rest_of place.lines) (rest_of place.braces))

unfoldable pub continue_line : State → Place → Next
continue_line s place = quiet (with_place s place.lines place.braces)

unfoldable pub at_line : State → ℕ → Next
at_line s n = quiet (with_frame s (record s.now { line = n }))

unfoldable pub control_line : List Function → State → ControlRow → Next
control_line functions s control.Break = break_line s (loop_end s.now.braces (exits s.now.rest))
control_line functions s control.Continue = continue_line s (loop_end s.now.braces (exits s.now.rest))
control_line functions s control.Return = leave s
control_line functions s (control.Call n arguments) = call_line functions s n arguments
control_line functions s control.Stop = Ends (Comes Ended)
control_line functions s (control.Fault kind) = Ends (Comes (Faulted kind s.now.line))
control_line functions s (control.At n) = at_line s n

-- ---- records

unfoldable pub put_line : State → Scalar → Next
put_line s value = quiet (record s { pending = s.pending ++ value ∷ [] })

unfoldable pub record_line : State → RecordRow → Next
record_line s (record_row.PutInt a) = put_line s (scalar.Int (wrapped (atom_of s a)))
record_line s (record_row.PutLog a) = put_line s (scalar.Log (holds (atom_of s a)))
record_line s (record_row.PutText t) = put_line s (scalar.Text (text_of s t))
record_line s record_row.Write = Goes false (record_text s.pending ++ 10 ∷ []) (record s { pending = [] })
record_line s record_row.Skip = quiet (record s { input = drop (record_length s.input) s.input })

-- ---- a step

unfoldable pub row_line : List Function → State → Row → Next
row_line functions s (row.Int n value) = int_line s n value
row_line functions s (row.Text n value) = text_line s n value
row_line functions s (row.Block r) = block_line s r
row_line functions s (row.Control r) = control_line functions s r
row_line functions s (row.Record r) = record_line s r

-- a line, in the state in which the lines behind it are the rest
unfoldable pub do_line : List Function → State → CodeLine → Next
do_line functions s (code.Row r) = row_line functions s r
do_line functions s (code.If test) = if_line s (atom_of s test)
do_line functions s code.Else = else_line s
do_line functions s (code.ForUp k bound) = for_up_line s k bound
do_line functions s (code.ForDown k bound) = for_down_line s k (atom_of s bound)
do_line functions s code.Forever = forever_line s
do_line functions s code.Close = close_line s s.now.braces

unfoldable pub step_at : List Function → State → List CodeLine → Next
step_at functions s [] = leave s
step_at functions s (line ∷ lines) = do_line functions (with_rest s lines) line

unfoldable pub step : List Function → State → Next
step functions s = step_at functions s s.now.rest
