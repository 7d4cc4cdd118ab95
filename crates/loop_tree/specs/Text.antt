-- The text of a LoopC program: how each row is spelled.
use Rattle.std.specs.Prelude.{ℕ, ◌+◌, ◌/◌, ◌%◌, ◌==◌, Bool, not, ◌&&◌, nat_le, if◌then◌else◌, List, [], ◌∷◌, ◌++◌, map, codes}
use Rattle.std.specs.Prelude.{decimal}
use Rattle.std.specs.List.{concat, flat_map}
use Rattle.std.specs.Fmt.{signed_decimal}
use Rattle.a95_base.specs.Fault.{fault_number}
use Rattle.loop_tree.specs.declared.atom.Letter.{Letter}
use Rattle.loop_tree.specs.declared.atom.Letter.TheVariants as letter
use Rattle.loop_tree.specs.declared.atom.Atom.{Atom}
use Rattle.loop_tree.specs.declared.atom.Atom.TheVariants as atom
use Rattle.loop_tree.specs.declared.atom.TextAtom.{TextAtom}
use Rattle.loop_tree.specs.declared.atom.TextAtom.TheVariants as text
use Rattle.loop_tree.specs.declared.atom.Reference.{Reference}
use Rattle.loop_tree.specs.declared.atom.Reference.TheVariants as reference
use Rattle.loop_tree.specs.declared.atom.Argument.{Argument}
use Rattle.loop_tree.specs.declared.atom.Argument.TheVariants as argument
use Rattle.loop_tree.specs.declared.atom.Operator.{Operator}
use Rattle.loop_tree.specs.declared.atom.Operator.TheVariants as operator
use Rattle.loop_tree.specs.declared.row.IntValue.{IntValue}
use Rattle.loop_tree.specs.declared.row.IntValue.TheVariants as int
use Rattle.loop_tree.specs.declared.row.TextValue.{TextValue}
use Rattle.loop_tree.specs.declared.row.TextValue.TheVariants as words
use Rattle.loop_tree.specs.declared.row.BlockRow.{BlockRow}
use Rattle.loop_tree.specs.declared.row.BlockRow.TheVariants as block
use Rattle.loop_tree.specs.declared.row.ControlRow.{ControlRow}
use Rattle.loop_tree.specs.declared.row.ControlRow.TheVariants as control
use Rattle.loop_tree.specs.declared.row.RecordRow.{RecordRow}
use Rattle.loop_tree.specs.declared.row.RecordRow.TheVariants as record_row
use Rattle.loop_tree.specs.declared.row.Row.{Row}
use Rattle.loop_tree.specs.declared.row.Row.TheVariants as row
use Rattle.loop_tree.specs.declared.tree.CodeLine.{CodeLine}
use Rattle.loop_tree.specs.declared.tree.CodeLine.TheVariants as code
use Rattle.loop_tree.specs.declared.tree.Function.{Function}
use Rattle.loop_tree.specs.Lines.{lines_of}

-- ---- atoms

abbrev pub atom_text : Atom → List ℕ
atom_text (atom.Int n) = codes "i" ++ decimal n
atom_text (atom.Loop k) = codes "k" ++ decimal k
atom_text (atom.Number z) = signed_decimal z

-- the bytes 32 to 126 but for the quote and the backslash stand for themselves between quotes
abbrev pub is_plain : ℕ → Bool
is_plain c = nat_le 32 c && (nat_le c 126 && (not (c == 34) && not (c == 92)))

-- the others are a backslash and three octal digits
abbrev pub octal : ℕ → List ℕ
octal c = (48 + c / 64) ∷ (48 + c / 8 % 8) ∷ (48 + c % 8) ∷ []

abbrev pub byte_text : ℕ → List ℕ
byte_text c = if is_plain c then c ∷ [] else (92 ∷ octal c)

abbrev pub bytes_text : List ℕ → List ℕ
bytes_text bytes = flat_map byte_text bytes

abbrev pub text_atom_text : TextAtom → List ℕ
text_atom_text (text.Variable n) = codes "s" ++ decimal n
text_atom_text (text.Literal bytes) = 34 ∷ (bytes_text bytes ++ 34 ∷ [])

abbrev pub reference_text : Reference → List ℕ
reference_text (reference.Ints n) = codes "b" ++ decimal n
reference_text (reference.Texts n) = codes "c" ++ decimal n

abbrev pub argument_text : Argument → List ℕ
argument_text (argument.Int a) = atom_text a
argument_text (argument.Text t) = text_atom_text t
argument_text (argument.Block r) = reference_text r

-- the first, and each other one behind a comma and a blank
abbrev pub listed_by : {A : Type 0} → (A → List ℕ) → List A → List ℕ
listed_by spelled [] = []
listed_by spelled (x ∷ more) = spelled x ++ flat_map (λ y. codes ", " ++ spelled y) more

abbrev pub listed : List (List ℕ) → List ℕ
listed texts = listed_by (λ t. t) texts

abbrev pub operator_text : Operator → List ℕ
operator_text operator.Add = codes "+"
operator_text operator.Subtract = codes "-"
operator_text operator.Multiply = codes "*"
operator_text operator.Divide = codes "/"
operator_text operator.Remainder = codes "%"
operator_text operator.Less = codes "<"
operator_text operator.LessEqual = codes "<="
operator_text operator.Equal = codes "=="
operator_text operator.NotEqual = codes "!="
operator_text operator.And = codes "&"
operator_text operator.Or = codes "|"

-- ---- the call of a built-in

abbrev pub call_text : List ℕ → List ℕ → List ℕ
call_text name arguments = concat (name ∷ codes "(" ∷ arguments ∷ codes ")" ∷ [])

abbrev pub int_value_text : IntValue → List ℕ
int_value_text (int.Atom a) = atom_text a
int_value_text (int.Operation a op b) = atom_text a ++ (codes " " ++ (operator_text op ++ (codes " " ++ atom_text b)))
int_value_text (int.Cell n a) = concat (codes "b" ∷ decimal n ∷ codes "[" ∷ atom_text a ∷ codes "]" ∷ [])
int_value_text (int.Wrap a) = call_text (codes "f_wrap") (atom_text a)
int_value_text (int.Power a b) = call_text (codes "f_pow") (listed (atom_text a ∷ atom_text b ∷ []))
int_value_text (int.Xor a b) = call_text (codes "f_xor") (listed (atom_text a ∷ atom_text b ∷ []))
int_value_text (int.Length t) = call_text (codes "f_len") (text_atom_text t)
int_value_text (int.Index t u) = call_text (codes "f_index") (listed (text_atom_text t ∷ text_atom_text u ∷ []))
int_value_text (int.Code t) = call_text (codes "f_code") (text_atom_text t)
int_value_text (int.Compare t u) = call_text (codes "f_cmp") (listed (text_atom_text t ∷ text_atom_text u ∷ []))
int_value_text (int.Size r) = call_text (codes "f_size") (reference_text r)
int_value_text (int.Live r) = call_text (codes "f_live") (reference_text r)
int_value_text int.Depth = call_text (codes "f_depth") []
int_value_text int.More = call_text (codes "f_more") []
int_value_text (int.Look a) = call_text (codes "f_look") (atom_text a)
int_value_text (int.Take a) = call_text (codes "f_take") (atom_text a)

abbrev pub text_value_text : TextValue → List ℕ
text_value_text (words.Atom t) = text_atom_text t
text_value_text (words.Cell n a) = concat (codes "c" ∷ decimal n ∷ codes "[" ∷ atom_text a ∷ codes "]" ∷ [])
text_value_text (words.Join t u) = call_text (codes "f_cat") (listed (text_atom_text t ∷ text_atom_text u ∷ []))
text_value_text (words.Part t a b) = call_text (codes "f_sub") (listed (text_atom_text t ∷ atom_text a ∷ atom_text b ∷ []))
text_value_text (words.Over t a u) = call_text (codes "f_over") (listed (text_atom_text t ∷ atom_text a ∷ text_atom_text u ∷ []))
text_value_text (words.Fit t a) = call_text (codes "f_fit") (listed (text_atom_text t ∷ atom_text a ∷ []))
text_value_text (words.Trim t) = call_text (codes "f_trim") (text_atom_text t)
text_value_text (words.Left t) = call_text (codes "f_left") (text_atom_text t)
text_value_text (words.Right t) = call_text (codes "f_right") (text_atom_text t)
text_value_text (words.Char a) = call_text (codes "f_chr") (atom_text a)

-- ---- rows, without the semicolon

-- `bN = ..`
abbrev pub set_text_of : List ℕ → ℕ → List ℕ → List ℕ
set_text_of letter n value = letter ++ (decimal n ++ (codes " = " ++ value))

abbrev pub cell_text : List ℕ → ℕ → Atom → List ℕ → List ℕ
cell_text letter n place value = letter ++ (decimal n ++ (codes "[" ++ (atom_text place ++ (codes "] = " ++ value))))

abbrev pub block_row_text : BlockRow → List ℕ
block_row_text (block.StoreInt n i a) = cell_text (codes "b") n i (atom_text a)
block_row_text (block.StoreText n i t) = cell_text (codes "c") n i (text_atom_text t)
block_row_text (block.New n a) = set_text_of (codes "b") n (call_text (codes "f_new") (atom_text a))
block_row_text (block.Temp n a) = set_text_of (codes "b") n (call_text (codes "f_temp") (atom_text a))
block_row_text (block.Copy n a) = set_text_of (codes "b") n (call_text (codes "f_copy") (atom_text a))
block_row_text (block.Mark n a) = set_text_of (codes "b") n (call_text (codes "f_mark") (atom_text a))
block_row_text (block.NewText n a b) = set_text_of (codes "c") n
    (call_text (codes "f_new_text") (listed (atom_text a ∷ atom_text b ∷ [])))
block_row_text (block.TempText n a) = set_text_of (codes "c") n (call_text (codes "f_temp_text") (atom_text a))
block_row_text (block.CopyText n a) = set_text_of (codes "c") n (call_text (codes "f_copy_text") (atom_text a))
block_row_text (block.SameInts n m) = set_text_of (codes "b") n (codes "b" ++ decimal m)
block_row_text (block.SameTexts n m) = set_text_of (codes "c") n (codes "c" ++ decimal m)
block_row_text (block.Grow r a) = call_text (codes "f_grow") (listed (reference_text r ∷ atom_text a ∷ []))
block_row_text (block.Free r) = call_text (codes "f_free") (reference_text r)

abbrev pub control_row_text : ControlRow → List ℕ
control_row_text control.Break = codes "break"
control_row_text control.Continue = codes "continue"
control_row_text control.Return = codes "return"
control_row_text (control.Call n arguments) = call_text (codes "f" ++ decimal n) (listed_by argument_text arguments)
control_row_text control.Stop = call_text (codes "f_stop") []
control_row_text (control.Fault kind) = call_text (codes "f_fault") (decimal (fault_number kind))
control_row_text (control.At n) = call_text (codes "f_at") (decimal n)

abbrev pub record_row_text : RecordRow → List ℕ
record_row_text (record_row.PutInt a) = call_text (codes "f_put_int") (atom_text a)
record_row_text (record_row.PutLog a) = call_text (codes "f_put_log") (atom_text a)
record_row_text (record_row.PutText t) = call_text (codes "f_put_text") (text_atom_text t)
record_row_text record_row.Write = call_text (codes "f_record") []
record_row_text record_row.Skip = call_text (codes "f_skip") []

abbrev pub row_text : Row → List ℕ
row_text (row.Int n value) = set_text_of (codes "i") n (int_value_text value)
row_text (row.Text n value) = set_text_of (codes "s") n (text_value_text value)
row_text (row.Block r) = block_row_text r
row_text (row.Control r) = control_row_text r
row_text (row.Record r) = record_row_text r

-- ---- lines

-- `kN`
abbrev pub loop_text : ℕ → List ℕ
loop_text k = codes "k" ++ decimal k

abbrev pub spell : CodeLine → List ℕ
spell (code.Row r) = row_text r ++ codes ";"
spell (code.If test) = concat (codes "if (" ∷ atom_text test ∷ codes ") {" ∷ [])
spell code.Else = codes "} else {"
spell (code.ForUp k bound) =
    concat (codes "for (" ∷ loop_text k ∷ codes " = 0; " ∷ loop_text k ∷ codes " < " ∷ atom_text bound ∷ codes "; " ∷ loop_text k
    ∷ codes " = " ∷ loop_text k ∷ codes " + 1) {" ∷ [])
spell (code.ForDown k bound) =
    concat (codes "for (" ∷ loop_text k ∷ codes " = " ∷ atom_text bound ∷ codes " - 1; " ∷ loop_text k ∷ codes " >= 0; "
    ∷ loop_text k ∷ codes " = " ∷ loop_text k ∷ codes " - 1) {" ∷ [])
spell code.Forever = codes "while (1) {"
spell code.Close = codes "}"

-- ---- functions

abbrev pub letter_text : Letter → List ℕ
letter_text letter.Int = codes "i"
letter_text letter.Text = codes "s"
letter_text letter.Ints = codes "b"
letter_text letter.Texts = codes "c"

-- the parameters from number j on
abbrev pub parameters_text : ℕ → List Letter → List (List ℕ)
parameters_text j [] = []
parameters_text j (p ∷ parameters) = (letter_text p ++ decimal j) ∷ parameters_text (j + 1) parameters

-- the line that begins function n
abbrev pub function_head : ℕ → List Letter → List ℕ
function_head n parameters =
    concat (codes "void f" ∷ decimal n ∷ codes "(" ∷ listed (parameters_text 0 parameters) ∷ codes ") {" ∷ [])

abbrev pub function_lines : ℕ → Function → List (List ℕ)
function_lines n function = function_head n function.parameters ∷ map spell (lines_of function)

-- the functions from number n on
abbrev pub functions_lines : ℕ → List Function → List (List ℕ)
functions_lines n [] = []
functions_lines n (function ∷ functions) = function_lines n function ++ functions_lines (n + 1) functions

abbrev pub text_lines : List Function → List (List ℕ)
text_lines functions = codes "/* LoopC 1 */" ∷ functions_lines 0 functions

-- each line is ended by a line feed
abbrev pub with_line_feeds : List (List ℕ) → List ℕ
with_line_feeds lines = flat_map (λ line. line ++ 10 ∷ []) lines

abbrev pub text_of_program : List Function → List ℕ
text_of_program functions = with_line_feeds (text_lines functions)
