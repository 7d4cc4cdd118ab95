-- What a line of text is taken for. Only some bytes are looked at, so a line is that only if it is spelled as that: the
-- reader compares. Each line that is spelled right is taken for what it spells.
-- No public clause cites this file: it says how the private functions work. What is read and what is refused stands in
-- Refused.antt.
use Rattle.std.specs.Prelude.{ℕ, zero, suc, ◌+◌, ◌-◌, ◌*◌, ◌%◌, ◌^◌, ◌==◌, Bool, false, ◌||◌, nat_eq, if◌then◌else◌}
use Rattle.std.specs.Prelude.{List, [], ◌∷◌, ◌++◌, length, get_or, drop, codes}
use Rattle.std.specs.List.{starts_with}
use Rattle.std.specs.Int.{w64, cast_signed, int_wrapping_neg}
use Rattle.std.specs.Option.{unwrap_or}
use Rattle.a95_base.specs.declared.fault.FaultKind.{FaultKind}
use Rattle.a95_base.specs.declared.fault.FaultKind.TheVariants as kind
use Rattle.a95_base.specs.Fault.{kind_of}
use Rattle.a95_base.specs.Input.{is_digit}
use Rattle.loop_tree.specs.declared.atom.Atom.{Atom}
use Rattle.loop_tree.specs.declared.atom.Atom.TheVariants as atom
use Rattle.loop_tree.specs.declared.atom.TextAtom.{TextAtom}
use Rattle.loop_tree.specs.declared.atom.TextAtom.TheVariants as text
use Rattle.loop_tree.specs.declared.atom.Reference.{Reference}
use Rattle.loop_tree.specs.declared.atom.Reference.TheVariants as reference
use Rattle.loop_tree.specs.declared.atom.Argument.{Argument}
use Rattle.loop_tree.specs.declared.atom.Argument.TheVariants as argument
use Rattle.loop_tree.specs.declared.atom.Operator.{Operator}
use Rattle.loop_tree.specs.declared.atom.Operator.TheVariants as operator
use Rattle.loop_tree.specs.declared.row.IntValue.{IntValue}
use Rattle.loop_tree.specs.declared.row.IntValue.TheVariants as int
use Rattle.loop_tree.specs.declared.row.TextValue.{TextValue}
use Rattle.loop_tree.specs.declared.row.TextValue.TheVariants as words
use Rattle.loop_tree.specs.declared.row.BlockRow.{BlockRow}
use Rattle.loop_tree.specs.declared.row.BlockRow.TheVariants as block
use Rattle.loop_tree.specs.declared.row.ControlRow.TheVariants as control
use Rattle.loop_tree.specs.declared.row.RecordRow.TheVariants as record_row
use Rattle.loop_tree.specs.declared.row.Row.{Row}
use Rattle.loop_tree.specs.declared.row.Row.TheVariants as row
use Rattle.loop_tree.specs.declared.tree.CodeLine.{CodeLine}
use Rattle.loop_tree.specs.declared.tree.CodeLine.TheVariants as code

-- the byte at a place, or 0 behind the end
abbrev pub byte_at : List ℕ → ℕ → ℕ
byte_at bytes place = get_or bytes place 0

abbrev pub begins : List ℕ → List ℕ → Bool
begins bytes word = starts_with nat_eq bytes word

-- ---- numbers

pub record NumberOn : Type 0 where
  pub value : ℕ
  pub rest : List ℕ

-- with the digits at the front behind those of n, modulo 2 ^ 64
abbrev pub number_onto : ℕ → List ℕ → NumberOn
number_onto n [] = record { value = n; rest = [] }
number_onto n (c ∷ cs) = if is_digit c then number_onto (((n * 10) % 2 ^ 64 + (c - 48)) % 2 ^ 64) cs else record
    { value = n; rest = c ∷ cs }

abbrev pub number_on : List ℕ → NumberOn
number_on bytes = number_onto 0 bytes

-- the number of a variable
abbrev pub index_on : List ℕ → NumberOn
index_on bytes = let n = number_on bytes in record { value = n.value % 2 ^ 32; rest = n.rest }

-- ---- atoms

pub record AtomOn : Type 0 where
  pub value : Atom
  pub rest : List ℕ

abbrev pub int_atom : NumberOn → AtomOn
int_atom n = record { value = atom.Int n.value; rest = n.rest }

abbrev pub loop_atom : NumberOn → AtomOn
loop_atom n = record { value = atom.Loop n.value; rest = n.rest }

abbrev pub negative_atom : NumberOn → AtomOn
negative_atom n = record { value = atom.Number (int_wrapping_neg w64 (cast_signed w64 n.value)); rest = n.rest }

abbrev pub positive_atom : NumberOn → AtomOn
positive_atom n = record { value = atom.Number (cast_signed w64 n.value); rest = n.rest }

unfoldable pub atom_on : List ℕ → AtomOn
atom_on bytes =
    if byte_at bytes 0 == 105 then int_atom (index_on (drop 1 bytes)) else (
    if byte_at bytes 0 == 107 then loop_atom (index_on (drop 1 bytes)) else (
    if byte_at bytes 0 == 45 then negative_atom (number_on (drop 1 bytes)) else
    positive_atom (number_on bytes)))

-- the byte begins an integer atom
abbrev pub begins_atom : ℕ → Bool
begins_atom c = is_digit c || ((c == 45) || ((c == 105) || (c == 107)))

-- one more octal digit behind n, modulo 2 ^ 8
abbrev pub escape_onto : ℕ → ℕ → ℕ
escape_onto n c = ((n * 8) % 2 ^ 8 + (c + (2 ^ 8 - 48)) % 2 ^ 8) % 2 ^ 8

-- the bytes up to the closing quote, behind those of `done`; of an escape `left` digits are to come, behind the value n
abbrev pub quoted_onto : List ℕ → ℕ → ℕ → List ℕ → List ℕ
quoted_onto done left n [] = done
quoted_onto done left n (c ∷ cs) =
    if left == 0 then (
    if c == 34 then done else (
    if c == 92 then quoted_onto done 3 0 cs else quoted_onto (done ++ c ∷ []) 0 0 cs)) else (
    if left == 1 then quoted_onto (done ++ escape_onto n c ∷ []) 0 0 cs else quoted_onto done (left - 1) (escape_onto n c) cs)

-- the byte is the closing quote, where `left` digits of an escape are to come
abbrev pub ends_quote : ℕ → ℕ → Bool
ends_quote left c = if left == 0 then c == 34 else false

-- how many digits of an escape are to come behind the byte
abbrev pub escape_left : ℕ → ℕ → ℕ
escape_left left c = if left == 0 then (if c == 92 then 3 else 0) else (left - 1)

-- what stands behind the closing quote
abbrev pub behind_quote : ℕ → List ℕ → List ℕ
behind_quote left [] = []
behind_quote left (c ∷ cs) = if ends_quote left c then cs else behind_quote (escape_left left c) cs

pub record TextOn : Type 0 where
  pub value : TextAtom
  pub rest : List ℕ

abbrev pub literal_text : List ℕ → TextOn
literal_text bytes = record { value = text.Literal (quoted_onto [] 0 0 bytes); rest = behind_quote 0 bytes }

abbrev pub variable_text : NumberOn → TextOn
variable_text n = record { value = text.Variable n.value; rest = n.rest }

unfoldable pub text_on : List ℕ → TextOn
text_on bytes = if byte_at bytes 0 == 34 then literal_text (drop 1 bytes) else variable_text (index_on (drop 1 bytes))

-- the byte begins a text atom
abbrev pub begins_text : ℕ → Bool
begins_text c = (c == 34) || (c == 115)

pub record ReferenceOn : Type 0 where
  pub value : Reference
  pub rest : List ℕ

abbrev pub ints_reference : NumberOn → ReferenceOn
ints_reference n = record { value = reference.Ints n.value; rest = n.rest }

abbrev pub texts_reference : NumberOn → ReferenceOn
texts_reference n = record { value = reference.Texts n.value; rest = n.rest }

unfoldable pub reference_on : List ℕ → ReferenceOn
reference_on bytes = if byte_at bytes 0 == 98 then ints_reference (index_on (drop 1 bytes)) else texts_reference
    (index_on (drop 1 bytes))

pub record ArgumentOn : Type 0 where
  pub value : Argument
  pub rest : List ℕ

abbrev pub int_argument : AtomOn → ArgumentOn
int_argument a = record { value = argument.Int a.value; rest = a.rest }

abbrev pub text_argument : TextOn → ArgumentOn
text_argument t = record { value = argument.Text t.value; rest = t.rest }

abbrev pub block_argument : ReferenceOn → ArgumentOn
block_argument r = record { value = argument.Block r.value; rest = r.rest }

unfoldable pub argument_on : List ℕ → ArgumentOn
argument_on bytes =
    if begins_atom (byte_at bytes 0) then int_argument (atom_on bytes) else (
    if begins_text (byte_at bytes 0) then text_argument (text_on bytes) else
    block_argument (reference_on bytes))

-- at most so many arguments, behind those of `done`
unfoldable pub arguments_onto : List Argument → ℕ → List ℕ → List Argument
arguments_onto done zero bytes = done
arguments_onto done (suc most) bytes =
    let a = argument_on bytes in
    if byte_at a.rest 0 == 44 then arguments_onto (done ++ a.value ∷ []) most (drop 2 a.rest) else (done ++ a.value ∷ [])

unfoldable pub arguments_on : List ℕ → List Argument
arguments_on bytes = if byte_at bytes 0 == 41 then [] else arguments_onto [] (length bytes) bytes

-- ---- arguments of a built-in; what stands behind the last is not looked at

abbrev pub second_atom : List ℕ → Atom
second_atom rest = (atom_on (drop 2 rest)).value

abbrev pub second_text : List ℕ → TextAtom
second_text rest = (text_on (drop 2 rest)).value

-- ---- values

unfoldable pub operator_on : List ℕ → Operator
operator_on bytes =
    if byte_at bytes 0 == 43 then operator.Add else (
    if byte_at bytes 0 == 45 then operator.Subtract else (
    if byte_at bytes 0 == 42 then operator.Multiply else (
    if byte_at bytes 0 == 47 then operator.Divide else (
    if byte_at bytes 0 == 37 then operator.Remainder else (
    if byte_at bytes 0 == 60 then (if byte_at bytes 1 == 61 then operator.LessEqual else operator.Less) else (
    if byte_at bytes 0 == 61 then operator.Equal else (
    if byte_at bytes 0 == 33 then operator.NotEqual else (
    if byte_at bytes 0 == 38 then operator.And else operator.Or))))))))

abbrev pub operator_length : Operator → ℕ
operator_length operator.LessEqual = 2
operator_length operator.Equal = 2
operator_length operator.NotEqual = 2
operator_length other = 1

-- an atom, and where a blank follows an operator and another atom
unfoldable pub operation_on : AtomOn → IntValue
operation_on a =
    let op = operator_on (drop 1 a.rest) in
    if byte_at a.rest 0 == 32 then int.Operation a.value op (atom_on (drop (operator_length op + 2) a.rest)).value else int.Atom
    a.value

unfoldable pub int_cell_on : NumberOn → IntValue
int_cell_on n = int.Cell n.value (atom_on (drop 1 n.rest)).value

unfoldable pub int_power_on : AtomOn → IntValue
int_power_on a = int.Power a.value (second_atom a.rest)

unfoldable pub int_xor_on : AtomOn → IntValue
int_xor_on a = int.Xor a.value (second_atom a.rest)

unfoldable pub int_index_on : TextOn → IntValue
int_index_on t = int.Index t.value (second_text t.rest)

unfoldable pub int_compare_on : TextOn → IntValue
int_compare_on t = int.Compare t.value (second_text t.rest)

-- a built-in without texts
unfoldable pub int_plain_on : List ℕ → IntValue
int_plain_on bytes =
    if begins bytes (codes "f_wrap(") then int.Wrap (atom_on (drop 7 bytes)).value else (
    if begins bytes (codes "f_pow(") then int_power_on (atom_on (drop 6 bytes)) else (
    if begins bytes (codes "f_xor(") then int_xor_on (atom_on (drop 6 bytes)) else (
    if begins bytes (codes "f_size(") then int.Size (reference_on (drop 7 bytes)).value else (
    if begins bytes (codes "f_live(") then int.Live (reference_on (drop 7 bytes)).value else (
    if begins bytes (codes "f_depth(") then int.Depth else (
    if begins bytes (codes "f_more(") then int.More else (
    if begins bytes (codes "f_look(") then int.Look (atom_on (drop 7 bytes)).value else
    int.Take (atom_on (drop 7 bytes)).value)))))))

unfoldable pub int_call_on : List ℕ → IntValue
int_call_on bytes =
    if begins bytes (codes "f_len(") then int.Length (text_on (drop 6 bytes)).value else (
    if begins bytes (codes "f_index(") then int_index_on (text_on (drop 8 bytes)) else (
    if begins bytes (codes "f_code(") then int.Code (text_on (drop 7 bytes)).value else (
    if begins bytes (codes "f_cmp(") then int_compare_on (text_on (drop 6 bytes)) else
    int_plain_on bytes)))

unfoldable pub int_value_on : List ℕ → IntValue
int_value_on bytes =
    if begins_atom (byte_at bytes 0) then operation_on (atom_on bytes) else (
    if byte_at bytes 0 == 98 then int_cell_on (index_on (drop 1 bytes)) else int_call_on bytes)

unfoldable pub text_cell_on : NumberOn → TextValue
text_cell_on n = words.Cell n.value (atom_on (drop 1 n.rest)).value

unfoldable pub text_join_on : TextOn → TextValue
text_join_on t = words.Join t.value (second_text t.rest)

unfoldable pub text_part_on : TextOn → TextValue
text_part_on t = let a = atom_on (drop 2 t.rest) in words.Part t.value a.value (second_atom a.rest)

unfoldable pub text_over_on : TextOn → TextValue
text_over_on t = let a = atom_on (drop 2 t.rest) in words.Over t.value a.value (second_text a.rest)

unfoldable pub text_fit_on : TextOn → TextValue
text_fit_on t = words.Fit t.value (second_atom t.rest)

unfoldable pub text_call_on : List ℕ → TextValue
text_call_on bytes =
    if begins bytes (codes "f_cat(") then text_join_on (text_on (drop 6 bytes)) else (
    if begins bytes (codes "f_sub(") then text_part_on (text_on (drop 6 bytes)) else (
    if begins bytes (codes "f_over(") then text_over_on (text_on (drop 7 bytes)) else (
    if begins bytes (codes "f_fit(") then text_fit_on (text_on (drop 6 bytes)) else (
    if begins bytes (codes "f_trim(") then words.Trim (text_on (drop 7 bytes)).value else (
    if begins bytes (codes "f_left(") then words.Left (text_on (drop 7 bytes)).value else (
    if begins bytes (codes "f_right(") then words.Right (text_on (drop 8 bytes)).value else
    words.Char (atom_on (drop 6 bytes)).value))))))

unfoldable pub text_value_on : List ℕ → TextValue
text_value_on bytes =
    if begins_text (byte_at bytes 0) then words.Atom (text_on bytes).value else (
    if byte_at bytes 0 == 99 then text_cell_on (index_on (drop 1 bytes)) else text_call_on bytes)

-- ---- rows that begin with a variable

unfoldable pub store_int_on : ℕ → AtomOn → BlockRow
store_int_on n i = block.StoreInt n i.value (atom_on (drop 4 i.rest)).value

unfoldable pub store_text_on : ℕ → AtomOn → BlockRow
store_text_on n i = block.StoreText n i.value (text_on (drop 4 i.rest)).value

-- what stands behind `bN = `
unfoldable pub ints_value_on : ℕ → List ℕ → BlockRow
ints_value_on n bytes =
    if begins bytes (codes "f_new(") then block.New n (atom_on (drop 6 bytes)).value else (
    if begins bytes (codes "f_temp(") then block.Temp n (atom_on (drop 7 bytes)).value else (
    if begins bytes (codes "f_copy(") then block.Copy n (atom_on (drop 7 bytes)).value else (
    if begins bytes (codes "f_mark(") then block.Mark n (atom_on (drop 7 bytes)).value else
    block.SameInts n (index_on (drop 1 bytes)).value)))

unfoldable pub new_text_on : ℕ → AtomOn → BlockRow
new_text_on n a = block.NewText n a.value (second_atom a.rest)

-- what stands behind `cN = `
unfoldable pub texts_value_on : ℕ → List ℕ → BlockRow
texts_value_on n bytes =
    if begins bytes (codes "f_new_text(") then new_text_on n (atom_on (drop 11 bytes)) else (
    if begins bytes (codes "f_temp_text(") then block.TempText n (atom_on (drop 12 bytes)).value else (
    if begins bytes (codes "f_copy_text(") then block.CopyText n (atom_on (drop 12 bytes)).value else
    block.SameTexts n (index_on (drop 1 bytes)).value))

unfoldable pub ints_row_on : NumberOn → BlockRow
ints_row_on n = if byte_at n.rest 0 == 91 then store_int_on n.value (atom_on (drop 1 n.rest)) else ints_value_on n.value
    (drop 3 n.rest)

unfoldable pub texts_row_on : NumberOn → BlockRow
texts_row_on n = if byte_at n.rest 0 == 91 then store_text_on n.value (atom_on (drop 1 n.rest)) else texts_value_on n.value
    (drop 3 n.rest)

unfoldable pub int_row_on : NumberOn → Row
int_row_on n = row.Int n.value (int_value_on (drop 3 n.rest))

unfoldable pub text_row_on : NumberOn → Row
text_row_on n = row.Text n.value (text_value_on (drop 3 n.rest))

unfoldable pub call_on : NumberOn → Row
call_on n = row.Control (control.Call n.value (arguments_on (drop 1 n.rest)))

-- a letter and a number
unfoldable pub variable_row_on : ℕ → NumberOn → Row
variable_row_on letter n =
    if letter == 105 then int_row_on n else (
    if letter == 115 then text_row_on n else (
    if letter == 98 then row.Block (ints_row_on n) else (
    if letter == 99 then row.Block (texts_row_on n) else call_on n)))

-- ---- rows that begin with a built-in

abbrev pub fault_of : ℕ → FaultKind
fault_of n = unwrap_or (kind_of n) kind.ZeroDivide

unfoldable pub grow_on : ReferenceOn → Row
grow_on r = row.Block (block.Grow r.value (second_atom r.rest))

unfoldable pub built_in_on : List ℕ → Row
built_in_on bytes =
    if begins bytes (codes "f_at(") then row.Control (control.At (index_on (drop 5 bytes)).value) else (
    if begins bytes (codes "f_grow(") then grow_on (reference_on (drop 7 bytes)) else (
    if begins bytes (codes "f_free(") then row.Block (block.Free (reference_on (drop 7 bytes)).value) else (
    if begins bytes (codes "f_stop(") then row.Control control.Stop else (
    if begins bytes (codes "f_fault(") then row.Control (control.Fault (fault_of ((number_on (drop 8 bytes)).value % 2 ^ 8))) else (
    if begins bytes (codes "f_put_int(") then row.Record (record_row.PutInt (atom_on (drop 10 bytes)).value) else (
    if begins bytes (codes "f_put_log(") then row.Record (record_row.PutLog (atom_on (drop 10 bytes)).value) else (
    if begins bytes (codes "f_put_text(") then row.Record (record_row.PutText (text_on (drop 11 bytes)).value) else (
    if begins bytes (codes "f_record(") then row.Record record_row.Write else
    row.Record record_row.Skip))))))))

-- ---- lines

-- what stands behind `for (kN = `
unfoldable pub for_on : ℕ → AtomOn → CodeLine
for_on k first =
    if byte_at first.rest 0 == 59 then code.ForUp k (atom_on (drop 3 (index_on (drop 3 first.rest)).rest)).value else code.ForDown k
    first.value

unfoldable pub loop_on : NumberOn → CodeLine
loop_on k = for_on k.value (atom_on (drop 3 k.rest))

unfoldable pub word_on : List ℕ → CodeLine
word_on bytes =
    if begins bytes (codes "f_") then code.Row (built_in_on bytes) else (
    if begins bytes (codes "for (k") then loop_on (index_on (drop 6 bytes)) else (
    if begins bytes (codes "if (") then code.If (atom_on (drop 4 bytes)).value else (
    if begins bytes (codes "} else") then code.Else else (
    if begins bytes (codes "}") then code.Close else (
    if begins bytes (codes "while") then code.Forever else (
    if begins bytes (codes "break") then code.Row (row.Control control.Break) else (
    if begins bytes (codes "continue") then code.Row (row.Control control.Continue) else
    code.Row (row.Control control.Return))))))))

unfoldable pub line_on : List ℕ → CodeLine
line_on bytes = if is_digit (byte_at bytes 1) then code.Row (variable_row_on (byte_at bytes 0) (index_on (drop 1 bytes))) else
    word_on bytes
