-- One step at each row: the machine's step is opened here, and at braces, and nowhere above.
use Rattle.std.proofs.Common.{◌≡◌, ℕ, Bool, true, false, List, [], ◌∷◌, Option, Some, None, Ok, Err, refl, ap, drop, if◌then◌else◌}
use Rattle.std.specs.List.{list_all}
use Rattle.a95_base.specs.Input.{Reading, Integer, NoMore, NoInteger, next_value}
use Rattle.loop_tree.specs.declared.atom.Argument.{Argument}
use Rattle.loop_tree.specs.declared.row.IntValue.{IntValue}
use Rattle.loop_tree.specs.declared.row.IntValue.TheVariants as int
use Rattle.loop_tree.specs.declared.row.TextValue.{TextValue}
use Rattle.loop_tree.specs.declared.row.TextValue.TheVariants as words
use Rattle.loop_tree.specs.declared.row.Row.TheVariants as row
use Rattle.loop_tree.specs.declared.tree.CodeLine.{CodeLine}
use Rattle.loop_tree.specs.declared.tree.Function.{Function}
use Rattle.loop_tree.specs.Lines.{lines_of}
use Rattle.loop_tree.specs.declared.stuck.StuckState.TheVariants as stuck
use Rattle.loop_tree.specs.State.{Brace, Frame, Stuck, Ends}
use Rattle.loop_tree.specs.Values.{holds, int_value, text_value, taken}
use Rattle.loop_tree.specs.Machine.{step, step_at, do_line, row_line, int_line, take_line, text_line, block_line, change_line}
use Rattle.loop_tree.specs.Machine.{free_line, new_ints_line, new_texts_line, same_ints_line, same_texts_line, control_line}
use Rattle.loop_tree.specs.Machine.{call_line, enter, enter_if, turn, callable, is_usable, match_letters, at_line, record_line}
use Rattle.loop_tree.specs.Machine.{put_line, close_line, leave, back_to, given}
use Rattle.loop_laws.specs.At.{with_text, int_read, text_read, Variables, at, value_of, with_int, found, entered}
use Rattle.loop_laws.specs.Rows.{RowStep, behind_read, IntStep, TextStep, StoreIntStep, StoreTextStep, GrowStep, FreeStep, NewStep}
use Rattle.loop_laws.specs.Rows.{TempStep, CopyStep, MarkStep, NewTextStep, TempTextStep, CopyTextStep, SameIntsStep, SameTextsStep}
use Rattle.loop_laws.specs.Rows.{StopStep, FaultStep, SourceLineStep, PutIntStep, PutLogStep, PutTextStep, WriteStep, SkipStep}
use Rattle.loop_laws.specs.Rows.{CallStep, ReturnStep, LastBraceStep, NoLineStep, LeavesToCaller, LeavesProgram, bytes_taken}
use Rattle.loop_laws.specs.Rows.{begins}

-- ---- integers and texts

take_given : (v : Variables) (lines : List CodeLine) (braces : List Brace) (n : ℕ) (r : Reading) →
    take_line (at v lines braces) n r ≡ given (taken r) (λ z. at
    (with_int (record v { input = drop (bytes_taken r) v.input }) n z) lines braces)
take_given v lines braces n (Integer value used) = refl
take_given v lines braces n NoMore = refl
take_given v lines braces n NoInteger = refl

int_row : (n : ℕ) (x : IntValue) → RowStep (row.Int n x)
    (λ functions v lines braces. given (int_read v x) (λ z. at (with_int (behind_read v x) n z) lines braces))
unfolding step step_at do_line row_line int_line int_value
int_row n (int.Atom a) functions v lines braces = refl
int_row n (int.Operation a op b) functions v lines braces = refl
int_row n (int.Cell m a) functions v lines braces = refl
int_row n (int.Wrap a) functions v lines braces = refl
int_row n (int.Power a b) functions v lines braces = refl
int_row n (int.Xor a b) functions v lines braces = refl
int_row n (int.Length t) functions v lines braces = refl
int_row n (int.Index t u) functions v lines braces = refl
int_row n (int.Code t) functions v lines braces = refl
int_row n (int.Compare t u) functions v lines braces = refl
int_row n (int.Size r) functions v lines braces = refl
int_row n (int.Live r) functions v lines braces = refl
int_row n int.Depth functions v lines braces = refl
int_row n int.More functions v lines braces = refl
int_row n (int.Look a) functions v lines braces = refl
int_row n (int.Take a) functions v lines braces = take_given v lines braces n (next_value (holds (value_of v a)) v.input)

pub step_int : IntStep
step_int n x = record { by = int_row n x }

text_row : (n : ℕ) (x : TextValue) → RowStep (row.Text n x)
    (λ functions v lines braces. given (text_read v x) (λ t. at (with_text v n t) lines braces))
unfolding step step_at do_line row_line text_line text_value
text_row n (words.Atom t) functions v lines braces = refl
text_row n (words.Cell m a) functions v lines braces = refl
text_row n (words.Join t u) functions v lines braces = refl
text_row n (words.Part t a b) functions v lines braces = refl
text_row n (words.Over t a u) functions v lines braces = refl
text_row n (words.Fit t a) functions v lines braces = refl
text_row n (words.Trim t) functions v lines braces = refl
text_row n (words.Left t) functions v lines braces = refl
text_row n (words.Right t) functions v lines braces = refl
text_row n (words.Char a) functions v lines braces = refl

pub step_text : TextStep
step_text n x = record { by = text_row n x }

-- ---- blocks

pub step_store_int : StoreIntStep
unfolding step step_at do_line row_line block_line change_line
step_store_int n i a = record { by = λ functions v lines braces. refl }

pub step_store_text : StoreTextStep
unfolding step step_at do_line row_line block_line change_line
step_store_text n i t = record { by = λ functions v lines braces. refl }

pub step_grow : GrowStep
unfolding step step_at do_line row_line block_line change_line
step_grow r a = record { by = λ functions v lines braces. refl }

pub step_free : FreeStep
unfolding step step_at do_line row_line block_line free_line
step_free r = record { by = λ functions v lines braces. refl }

pub step_new : NewStep
unfolding step step_at do_line row_line block_line new_ints_line
step_new n a = record { by = λ functions v lines braces. refl }

pub step_temp : TempStep
unfolding step step_at do_line row_line block_line new_ints_line
step_temp n a = record { by = λ functions v lines braces. refl }

pub step_copy : CopyStep
unfolding step step_at do_line row_line block_line new_ints_line
step_copy n a = record { by = λ functions v lines braces. refl }

pub step_mark : MarkStep
unfolding step step_at do_line row_line block_line new_ints_line
step_mark n a = record { by = λ functions v lines braces. refl }

pub step_new_text : NewTextStep
unfolding step step_at do_line row_line block_line new_texts_line
step_new_text n a b = record { by = λ functions v lines braces. refl }

pub step_temp_text : TempTextStep
unfolding step step_at do_line row_line block_line new_texts_line
step_temp_text n a = record { by = λ functions v lines braces. refl }

pub step_copy_text : CopyTextStep
unfolding step step_at do_line row_line block_line new_texts_line
step_copy_text n a = record { by = λ functions v lines braces. refl }

pub step_same_ints : SameIntsStep
unfolding step step_at do_line row_line block_line same_ints_line
step_same_ints n m = record { by = λ functions v lines braces. refl }

pub step_same_texts : SameTextsStep
unfolding step step_at do_line row_line block_line same_texts_line
step_same_texts n m = record { by = λ functions v lines braces. refl }

-- ---- ends, the line of the source, records

pub step_stop : StopStep
unfolding step step_at do_line row_line control_line
step_stop functions v lines braces = refl

pub step_fault : FaultStep
unfolding step step_at do_line row_line control_line
step_fault kind functions v lines braces = refl

pub step_source_line : SourceLineStep
unfolding step step_at do_line row_line control_line at_line
step_source_line n = record { by = λ functions v lines braces. refl }

pub step_put_int : PutIntStep
unfolding step step_at do_line row_line record_line put_line
step_put_int a = record { by = λ functions v lines braces. refl }

pub step_put_log : PutLogStep
unfolding step step_at do_line row_line record_line put_line
step_put_log a = record { by = λ functions v lines braces. refl }

pub step_put_text : PutTextStep
unfolding step step_at do_line row_line record_line put_line
step_put_text t = record { by = λ functions v lines braces. refl }

pub step_write : WriteStep
unfolding step step_at do_line row_line record_line
step_write functions v lines braces = refl

pub step_skip : SkipStep
unfolding step step_at do_line row_line record_line
step_skip = record { by = λ functions v lines braces. refl }

-- ---- calls

enter_given : (v : Variables) (lines : List CodeLine) (braces : List Brace) (arguments : List Argument) (o : Option Function) →
    enter_if (at v lines braces) o arguments ≡ begins (found o arguments)
    (λ f. at (entered v lines braces arguments) (lines_of f) [])
enter_given v lines braces arguments None = refl
enter_given v lines braces arguments (Some f) = by (match_letters arguments f.parameters)
  where
    by : (b : Bool) → (if b then turn (enter (at v lines braces) f arguments) else Ends (Stuck stuck.WrongCall))
        ≡ begins (if b then Ok f else Err stuck.WrongCall) (λ f. at (entered v lines braces arguments) (lines_of f) [])
    by true = refl
    by false = refl

call_given : (functions : List Function) (v : Variables) (lines : List CodeLine) (braces : List Brace) (n : ℕ)
    (arguments : List Argument) (b : Bool) →
    (if b then enter_if (at v lines braces) (callable functions n) arguments else Ends (Stuck stuck.NoBlock))
    ≡ begins (if b then found (callable functions n) arguments else Err stuck.NoBlock)
    (λ f. at (entered v lines braces arguments) (lines_of f) [])
call_given functions v lines braces n arguments true = enter_given v lines braces arguments (callable functions n)
call_given functions v lines braces n arguments false = refl

pub step_call : CallStep
unfolding step step_at do_line row_line control_line call_line
step_call n arguments functions v lines braces = call_given functions v lines braces n arguments
    (list_all (is_usable (at v lines braces)) arguments)

pub step_return : ReturnStep
unfolding step step_at do_line row_line control_line leave
step_return functions v lines braces = by v.callers
  where
    by : (callers : List Frame) → back_to (at v lines braces) callers ≡ back_to (at v [] []) callers
    by [] = refl
    by (f ∷ fs) = refl

pub step_last_brace : LastBraceStep
unfolding step step_at do_line close_line leave
step_last_brace functions v lines = by v.callers
  where
    by : (callers : List Frame) → back_to (at v lines []) callers ≡ back_to (at v [] []) callers
    by [] = refl
    by (f ∷ fs) = refl

pub step_no_line : NoLineStep
unfolding step step_at leave
step_no_line functions v braces = by v.callers
  where
    by : (callers : List Frame) → back_to (at v [] braces) callers ≡ back_to (at v [] []) callers
    by [] = refl
    by (f ∷ fs) = refl

pub leaves_to_caller : LeavesToCaller
leaves_to_caller v w lines braces e = ap (back_to (at w [] [])) e

pub leaves_program : LeavesProgram
leaves_program v e = ap (back_to (at v [] [])) e
