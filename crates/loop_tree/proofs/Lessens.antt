-- A step that begins no turn leaves less to do: each call's lines that come next grow fewer, since every exit is taken
-- from them.
use Rattle.std.proofs.Common.{◌≡◌, ℕ, suc, ◌+◌, ◌≤◌, ◌<◌, ℤ, Bool, true, false, List, [], ◌∷◌, length, Option, Some, None, Result}
use Rattle.std.proofs.Common.{Ok, Err, if◌then◌else◌, pos, ◌+ℤ◌, ◌-ℤ◌, refl, ap, arith}
use Rattle.std.specs.Int.{w64, int_wrap}
use Rattle.std.specs.List.{AllByRecursion, list_all}
use Rattle.a95_base.specs.Input.{Reading, Integer, NoMore, NoInteger, next_value}
use Rattle.loop_tree.specs.declared.stuck.StuckState.{StuckState}
use Rattle.loop_tree.specs.declared.stuck.StuckState.TheVariants as stuck
use Rattle.loop_tree.specs.declared.atom.Atom.{Atom}
use Rattle.loop_tree.specs.declared.atom.Argument.{Argument}
use Rattle.loop_tree.specs.declared.row.IntValue.{IntValue}
use Rattle.loop_tree.specs.declared.row.IntValue.TheVariants as int
use Rattle.loop_tree.specs.declared.row.BlockRow.{BlockRow}
use Rattle.loop_tree.specs.declared.row.BlockRow.TheVariants as block
use Rattle.loop_tree.specs.declared.row.ControlRow.{ControlRow}
use Rattle.loop_tree.specs.declared.row.ControlRow.TheVariants as control
use Rattle.loop_tree.specs.declared.row.RecordRow.{RecordRow}
use Rattle.loop_tree.specs.declared.row.RecordRow.TheVariants as record_row
use Rattle.loop_tree.specs.declared.row.Row.{Row}
use Rattle.loop_tree.specs.declared.row.Row.TheVariants as row
use Rattle.loop_tree.specs.declared.tree.CodeLine.{CodeLine}
use Rattle.loop_tree.specs.declared.tree.CodeLine.TheVariants as code
use Rattle.loop_tree.specs.declared.tree.Function.{Function}
use Rattle.loop_tree.specs.declared.row.TextValue.{TextValue}
use Rattle.loop_tree.specs.State.{Brace, Choice, Upward, Downward, Forever, Frame, State, Stuck, Next, Goes, Ends, with_rest}
use Rattle.loop_tree.specs.State.{set_int, set_index, set_text}
use Rattle.loop_tree.specs.Values.{number_at, atom_of, holds, int_value, text_value}
use Rattle.loop_tree.specs.Machine as machine
use Rattle.a95_base.specs.Lists.{rest_of}
use Rattle.loop_tree.specs.Machine.{given, first_exit, exit_of, behind, exits, loop_end, Place, back_to, leave, begin_loop, again}
use Rattle.loop_tree.specs.Machine.{skip_choice, if_line, for_up_line, for_down_line, forever_line, close_line, else_line}
use Rattle.loop_tree.specs.Machine.{take_line, int_line, text_line, change_line, free_line, new_ints_line, new_texts_line}
use Rattle.loop_tree.specs.Machine.{same_ints_line, same_texts_line, block_line, enter_if, callable, is_usable, call_line}
use Rattle.loop_tree.specs.Machine.{break_line, continue_line, at_line, control_line, put_line, record_line, row_line, do_line}
use Rattle.loop_tree.specs.Machine.{step_at, step}

-- ---- what is left

abbrev pub frame_left : Frame → ℕ
frame_left frame = length frame.rest + 1

abbrev pub frames_left : List Frame → ℕ
frames_left [] = 0
frames_left (frame ∷ frames) = frame_left frame + frames_left frames

abbrev pub left_over : State → ℕ
left_over s = frame_left s.now + frames_left s.callers

-- a step that begins no turn leads to less than n
abbrev pub Lessens : ℕ → Next → Type 0
Lessens n (Goes true wrote s) = Unit {0}
Lessens n (Goes false wrote s) = left_over s < n
Lessens n (Ends how) = Unit {0}

-- ---- exits are no longer than what they are taken from

abbrev Short : ℕ → List (List CodeLine) → Type 0
Short n lists = AllByRecursion (λ lines. length lines ≤ n) lists

short_more : (n : ℕ) (lists : List (List CodeLine)) → Short n lists → Short (suc n) lists
short_more n [] h = tt
short_more n (lines ∷ lists) h = (omega (arith, h.0), short_more n lists h.1)

short_rest : (n : ℕ) (lists : List (List CodeLine)) → Short n lists → Short n (rest_of lists)
short_rest n [] h = tt
short_rest n (lines ∷ lists) h = h.1

short_first : (n : ℕ) (lists : List (List CodeLine)) → Short n lists → length (first_exit lists) ≤ n
short_first n [] h = omega arith
short_first n (lines ∷ lists) h = h.0

exits_short : (lines : List CodeLine) → Short (length lines) (exits lines)
unfolding exits
exits_short [] = tt
exits_short (code.Row r ∷ lines) = short_more (length lines) (exits lines) (exits_short lines)
exits_short (code.If test ∷ lines) = short_more (length lines) (rest_of (exits lines))
    (short_rest (length lines) (exits lines) (exits_short lines))
exits_short (code.Else ∷ lines) =
    (omega arith, short_more (length lines) (rest_of (exits lines)) (short_rest (length lines) (exits lines) (exits_short lines)))
exits_short (code.ForUp k bound ∷ lines) = short_more (length lines) (rest_of (exits lines))
    (short_rest (length lines) (exits lines) (exits_short lines))
exits_short (code.ForDown k bound ∷ lines) = short_more (length lines) (rest_of (exits lines))
    (short_rest (length lines) (exits lines) (exits_short lines))
exits_short (code.Forever ∷ lines) = short_more (length lines) (rest_of (exits lines))
    (short_rest (length lines) (exits lines) (exits_short lines))
exits_short (code.Close ∷ lines) = (omega arith, short_more (length lines) (exits lines) (exits_short lines))

length_rest : {A : Type 0} (lines : List A) → length (rest_of lines) ≤ length lines
length_rest [] = omega arith
length_rest (line ∷ lines) = omega arith

exit_short : (lines : List CodeLine) → length (exit_of lines) ≤ length lines
exit_short lines = short_first (length lines) (exits lines) (exits_short lines)

behind_short : (lines : List CodeLine) → length (behind lines) ≤ length lines
behind_short lines = omega (arith, length_rest (exit_of lines), exit_short lines)

loop_end_short : (n : ℕ) (braces : List Brace) (lists : List (List CodeLine)) → Short n lists →
    length ((loop_end braces lists).lines) ≤ n
unfolding loop_end
loop_end_short n [] lists h = short_first n lists h
loop_end_short n (Choice ∷ braces) lists h = loop_end_short n braces (rest_of lists) (short_rest n lists h)
loop_end_short n (Upward k bound body ∷ braces) lists h = short_first n lists h
loop_end_short n (Downward k body ∷ braces) lists h = short_first n lists h
loop_end_short n (Forever body ∷ braces) lists h = short_first n lists h

-- ---- each line

given_lessens : {A : Type 0} (n : ℕ) (r : Result A StuckState) (next : A → State) → ((a : A) → left_over (next a) < n) →
    Lessens n (given r next)
given_lessens n (Ok a) next h = h a
given_lessens n (Err why) next h = tt

back_lessens : (s : State) (callers : List Frame) → Lessens (frame_left s.now + frames_left callers) (back_to s callers)
back_lessens s [] = tt
back_lessens s (caller ∷ callers) = omega arith

leave_lessens : (s : State) → Lessens (left_over s) (leave s)
unfolding leave
leave_lessens s = back_lessens s s.callers

leave_more : (s : State) (callers : List Frame) (n : ℕ) → frame_left s.now + frames_left callers ≤ n → Lessens n (back_to s callers)
leave_more s [] n h = tt
leave_more s (caller ∷ callers) n h = omega arith

-- here s has the lines behind the line as its rest, and n is what was left before it
skip_lessens : (n : ℕ) (s : State) (exit : List CodeLine) → length exit ≤ length s.now.rest → left_over s < n →
    left_over (skip_choice s exit) < n
skip_lessens n s [] h less = omega arith
skip_lessens n s (code.Row r ∷ lines) h less = omega arith
skip_lessens n s (code.If test ∷ lines) h less = omega arith
skip_lessens n s (code.Else ∷ lines) h less = omega arith
skip_lessens n s (code.ForUp k bound ∷ lines) h less = omega arith
skip_lessens n s (code.ForDown k bound ∷ lines) h less = omega arith
skip_lessens n s (code.Forever ∷ lines) h less = omega arith
skip_lessens n s (code.Close ∷ lines) h less = omega arith

choice_lessens : (n : ℕ) (s : State) (b : Bool) → left_over s < n →
    Lessens n (if b then machine.quiet (machine.open_brace s Choice) else machine.quiet (skip_choice s (exit_of s.now.rest)))
choice_lessens n s true less = less
choice_lessens n s false less = skip_lessens n s (exit_of s.now.rest) (exit_short s.now.rest) less

begin_lessens : (n : ℕ) (s : State) (goes : Bool) (brace : Brace) → left_over s < n → Lessens n (begin_loop s goes brace)
begin_lessens n s true brace less = tt
begin_lessens n s false brace less = omega (arith, behind_short s.now.rest)

again_lessens : (n : ℕ) (s : State) (goes : Bool) (body : List CodeLine) (braces : List Brace) → left_over s < n →
    Lessens n (again s goes body braces)
again_lessens n s true body braces less = tt
again_lessens n s false body braces less = less

if_lessens : (n : ℕ) (s : State) (test : ℤ) → left_over s < n → Lessens n (if_line s test)
unfolding if_line
if_lessens n s test less = choice_lessens n s (holds test) less

for_up_lessens : (n : ℕ) (s : State) (k : ℕ) (bound : Atom) → left_over s < n → Lessens n (for_up_line s k bound)
unfolding for_up_line
for_up_lessens n s k bound less = begin_lessens n (set_index s k (pos 0)) _ _ less

for_down_lessens : (n : ℕ) (s : State) (k : ℕ) (bound : ℤ) → left_over s < n → Lessens n (for_down_line s k bound)
unfolding for_down_line
for_down_lessens n s k bound less = begin_lessens n (set_index s k (int_wrap w64 (bound -ℤ pos 1))) _ _ less

close_lessens : (n : ℕ) (s : State) (braces : List Brace) → left_over s < n → Lessens n (close_line s braces)
unfolding close_line leave
close_lessens n s [] less = leave_more s s.callers n (omega arith)
close_lessens n s (Choice ∷ braces) less = less
close_lessens n s (Upward k bound body ∷ braces) less = again_lessens n
    (set_index s k (int_wrap w64 (number_at s.now.indices k +ℤ pos 1))) _ body braces less
close_lessens n s (Downward k body ∷ braces) less = again_lessens n
    (set_index s k (int_wrap w64 (number_at s.now.indices k -ℤ pos 1))) _ body braces less
close_lessens n s (Forever body ∷ braces) less = tt

else_lessens : (n : ℕ) (s : State) → left_over s < n → Lessens n (else_line s)
unfolding else_line
else_lessens n s less = omega (arith, behind_short s.now.rest)

take_lessens : (n : ℕ) (s : State) (m : ℕ) (r : Reading) → left_over s < n → Lessens n (take_line s m r)
take_lessens n s m (Integer value used) less = less
take_lessens n s m NoMore less = tt
take_lessens n s m NoInteger less = tt

int_lessens : (n : ℕ) (s : State) (m : ℕ) (value : IntValue) → left_over s < n → Lessens n (int_line s m value)
unfolding int_line
int_lessens n s m (int.Take a) less = take_lessens n s m (next_value (holds (atom_of s a)) s.input) less
int_lessens n s m value less = given_lessens n (int_value s value) (set_int s m) (λ a. less)

text_lessens : (n : ℕ) (s : State) (m : ℕ) (value : TextValue) → left_over s < n → Lessens n (text_line s m value)
unfolding text_line
text_lessens n s m value less = given_lessens n (text_value s value) (set_text s m) (λ a. less)

block_lessens : (n : ℕ) (s : State) (r : BlockRow) → left_over s < n → Lessens n (block_line s r)
unfolding block_line change_line free_line new_ints_line new_texts_line same_ints_line same_texts_line
block_lessens n s (block.StoreInt m i a) less = given_lessens n _ _ (λ x. less)
block_lessens n s (block.StoreText m i t) less = given_lessens n _ _ (λ x. less)
block_lessens n s (block.New m a) less = given_lessens n _ _ (λ x. less)
block_lessens n s (block.Temp m a) less = given_lessens n _ _ (λ x. less)
block_lessens n s (block.Copy m a) less = given_lessens n _ _ (λ x. less)
block_lessens n s (block.Mark m a) less = given_lessens n _ _ (λ x. less)
block_lessens n s (block.NewText m a b) less = given_lessens n _ _ (λ x. less)
block_lessens n s (block.TempText m a) less = given_lessens n _ _ (λ x. less)
block_lessens n s (block.CopyText m a) less = given_lessens n _ _ (λ x. less)
block_lessens n s (block.SameInts m k) less = given_lessens n _ _ (λ x. less)
block_lessens n s (block.SameTexts m k) less = given_lessens n _ _ (λ x. less)
block_lessens n s (block.Grow r a) less = given_lessens n _ _ (λ x. less)
block_lessens n s (block.Free r) less = given_lessens n _ _ (λ x. less)

entry_lessens : (n : ℕ) (s : State) (function : Function) (arguments : List Argument) (b : Bool) →
    Lessens n (if b then machine.turn (machine.enter s function arguments) else Ends (Stuck stuck.WrongCall))
entry_lessens n s function arguments true = tt
entry_lessens n s function arguments false = tt

enter_lessens : (n : ℕ) (s : State) (function : Option Function) (arguments : List Argument) →
    Lessens n (enter_if s function arguments)
enter_lessens n s None arguments = tt
enter_lessens n s (Some function) arguments = entry_lessens n s function arguments
    (machine.match_letters arguments function.parameters)

usable_lessens : (n : ℕ) (s : State) (function : Option Function) (arguments : List Argument) (b : Bool) →
    Lessens n (if b then enter_if s function arguments else Ends (Stuck stuck.NoBlock))
usable_lessens n s function arguments true = enter_lessens n s function arguments
usable_lessens n s function arguments false = tt

call_lessens : (functions : List Function) (n : ℕ) (s : State) (m : ℕ) (arguments : List Argument) →
    Lessens n (call_line functions s m arguments)
unfolding call_line
call_lessens functions n s m arguments = usable_lessens n s (callable functions m) arguments (list_all (is_usable s) arguments)

control_lessens : (functions : List Function) (n : ℕ) (s : State) (r : ControlRow) → left_over s < n →
    Lessens n (control_line functions s r)
unfolding control_line break_line continue_line at_line leave
control_lessens functions n s control.Break less =
    let place = loop_end s.now.braces (exits s.now.rest) in
    omega (
      arith,
      length_rest place.lines,
      loop_end_short (length s.now.rest) s.now.braces (exits s.now.rest)
          (exits_short s.now.rest),
    )
control_lessens functions n s control.Continue less =
    omega (arith, loop_end_short (length s.now.rest) s.now.braces (exits s.now.rest) (exits_short s.now.rest))
control_lessens functions n s control.Return less = leave_more s s.callers n (omega arith)
control_lessens functions n s (control.Call m arguments) less = call_lessens functions n s m arguments
control_lessens functions n s control.Stop less = tt
control_lessens functions n s (control.Fault kind) less = tt
control_lessens functions n s (control.At m) less = less

record_lessens : (n : ℕ) (s : State) (r : RecordRow) → left_over s < n → Lessens n (record_line s r)
unfolding record_line put_line
record_lessens n s (record_row.PutInt a) less = less
record_lessens n s (record_row.PutLog a) less = less
record_lessens n s (record_row.PutText t) less = less
record_lessens n s record_row.Write less = less
record_lessens n s record_row.Skip less = less

row_lessens : (functions : List Function) (n : ℕ) (s : State) (r : Row) → left_over s < n → Lessens n (row_line functions s r)
unfolding row_line
row_lessens functions n s (row.Int m value) less = int_lessens n s m value less
row_lessens functions n s (row.Text m value) less = text_lessens n s m value less
row_lessens functions n s (row.Block r) less = block_lessens n s r less
row_lessens functions n s (row.Control r) less = control_lessens functions n s r less
row_lessens functions n s (row.Record r) less = record_lessens n s r less

line_lessens : (functions : List Function) (n : ℕ) (s : State) (line : CodeLine) → left_over s < n →
    Lessens n (do_line functions s line)
unfolding do_line forever_line
line_lessens functions n s (code.Row r) less = row_lessens functions n s r less
line_lessens functions n s (code.If test) less = if_lessens n s (atom_of s test) less
line_lessens functions n s code.Else less = else_lessens n s less
line_lessens functions n s (code.ForUp k bound) less = for_up_lessens n s k bound less
line_lessens functions n s (code.ForDown k bound) less = for_down_lessens n s k (atom_of s bound) less
line_lessens functions n s code.Forever less = tt
line_lessens functions n s code.Close less = close_lessens n s s.now.braces less

at_lessens : (functions : List Function) (s : State) (rest : List CodeLine) → s.now.rest ≡ rest →
    Lessens (left_over s) (step_at functions s rest)
unfolding step_at leave
at_lessens functions s [] e = back_lessens s s.callers
at_lessens functions s (line ∷ lines) e =
    let was : length s.now.rest ≡ suc (length lines) = ap length e in
    line_lessens functions (left_over s) (with_rest s lines) line (omega arith)

pub step_lessens : (functions : List Function) (s : State) → Lessens (left_over s) (step functions s)
unfolding step
step_lessens functions s = at_lessens functions s s.now.rest refl
