-- No line of a text has a line feed in it.
use Rattle.std.proofs.Common.{◌≡◌, ℕ, suc, pos, negsuc, ◌+◌, ◌%◌, ◌^◌, ◌<◌, ◌==◌, Bool, true, false, not, ◌&&◌, if◌then◌else◌, List}
use Rattle.std.proofs.Common.{[], ◌∷◌, ◌++◌, length, flat_map, codes, decimal, refl, ◌∙◌, ap, arith}
use Rattle.std.specs.List.{AllByRecursion}
use Rattle.std.proofs.lemmas.Fmt.{decimal_by_steps}
use Rattle.std.proofs.lemmas.List.Folds.{list_all-append}
use Rattle.std.proofs.lemmas.Bool.Decides.{nat_tests}
use Rattle.a95_base.specs.declared.fault.FaultKind.{FaultKind}
use Rattle.a95_base.specs.declared.fault.FaultKind.TheVariants as fault
use Rattle.a95_base.specs.Fault.{fault_number}
use Rattle.loop_tree.specs.declared.atom.Letter.{Letter}
use Rattle.loop_tree.specs.declared.atom.Letter.TheVariants as letter
use Rattle.loop_tree.specs.declared.atom.Atom.{Atom}
use Rattle.loop_tree.specs.declared.atom.Atom.TheVariants as atom
use Rattle.loop_tree.specs.declared.atom.TextAtom.{TextAtom}
use Rattle.loop_tree.specs.declared.atom.TextAtom.TheVariants as text
use Rattle.loop_tree.specs.declared.atom.Reference.{Reference}
use Rattle.loop_tree.specs.declared.atom.Reference.TheVariants as reference
use Rattle.loop_tree.specs.declared.atom.Argument.{Argument}
use Rattle.loop_tree.specs.declared.atom.Argument.TheVariants as argument
use Rattle.loop_tree.specs.declared.atom.Operator.{Operator}
use Rattle.loop_tree.specs.declared.atom.Operator.TheVariants as operator
use Rattle.loop_tree.specs.declared.row.IntValue.{IntValue}
use Rattle.loop_tree.specs.declared.row.IntValue.TheVariants as int
use Rattle.loop_tree.specs.declared.row.TextValue.{TextValue}
use Rattle.loop_tree.specs.declared.row.TextValue.TheVariants as words
use Rattle.loop_tree.specs.declared.row.BlockRow.{BlockRow}
use Rattle.loop_tree.specs.declared.row.BlockRow.TheVariants as block
use Rattle.loop_tree.specs.declared.row.ControlRow.{ControlRow}
use Rattle.loop_tree.specs.declared.row.ControlRow.TheVariants as control
use Rattle.loop_tree.specs.declared.row.RecordRow.{RecordRow}
use Rattle.loop_tree.specs.declared.row.RecordRow.TheVariants as record_row
use Rattle.loop_tree.specs.declared.row.Row.{Row}
use Rattle.loop_tree.specs.declared.row.Row.TheVariants as row
use Rattle.loop_tree.specs.declared.tree.CodeLine.{CodeLine}
use Rattle.loop_tree.specs.declared.tree.CodeLine.TheVariants as code
use Rattle.loop_tree.specs.Text.{atom_text, is_plain, octal, byte_text, bytes_text, text_atom_text, reference_text, argument_text}
use Rattle.loop_tree.specs.Text.{listed_by, listed, operator_text, int_value_text, text_value_text, block_row_text}
use Rattle.loop_tree.specs.Text.{control_row_text, record_row_text, row_text, spell, letter_text, parameters_text, function_head}
use Rattle.loop_tree.specs.Program.{FitsAtom, FitsText, FitsReference, FitsArgument, FitsInt, FitsWords, FitsBlock, FitsControl}
use Rattle.loop_tree.specs.Program.{FitsRecord, FitsRow, FitsLine}
use Rattle.loop_text.specs.Refused.{is_one_line}

-- one piece and another
both : (a b : List ℕ) → is_one_line a ≡ true → is_one_line b ≡ true → is_one_line (a ++ b) ≡ true
both a b h k = list_all-append (λ c. not (c == 10)) a b ∙ (ap (λ x. x && is_one_line b) h ∙ k)

digit_one : (d : ℕ) → d < 10 → is_one_line ((48 + d) ∷ []) ≡ true
digit_one d h = grind (arith, nat_tests)

number : (n : ℕ) → n < 2 ^ 64 → is_one_line (decimal n) ≡ true
number n small = decimal_by_steps (λ n ds. is_one_line ds ≡ true) (λ n h. digit_one n h)
    (λ n ds h k. both ds ((48 + n % 10) ∷ []) k (digit_one (n % 10) (omega arith))) n small

index : (n : ℕ) → n < 2 ^ 32 → is_one_line (decimal n) ≡ true
index n small = number n (omega arith)

atom_one : (a : Atom) → FitsAtom a → is_one_line (atom_text a) ≡ true
atom_one (atom.Int n) h = index n h
atom_one (atom.Loop k) h = index k h
atom_one (atom.Number (pos n)) h = number n (omega arith)
atom_one (atom.Number (negsuc n)) h = number (suc n) (omega arith)

plain_one : (c : ℕ) → is_plain c ≡ true → is_one_line (c ∷ []) ≡ true
plain_one c e = grind (arith, nat_tests)

octal_one : (c : ℕ) → is_one_line (92 ∷ octal c) ≡ true
octal_one c = grind (arith, nat_tests)

byte_by : (c : ℕ) (b : Bool) → is_plain c ≡ b → is_one_line (if b then c ∷ [] else (92 ∷ octal c)) ≡ true
byte_by c true e = plain_one c e
byte_by c false e = octal_one c

bytes_one : (bytes : List ℕ) → is_one_line (bytes_text bytes) ≡ true
bytes_one [] = refl
bytes_one (c ∷ cs) = both (byte_text c) (bytes_text cs) (byte_by c (is_plain c) refl) (bytes_one cs)

text_one : (t : TextAtom) → FitsText t → is_one_line (text_atom_text t) ≡ true
text_one (text.Variable n) h = index n h
text_one (text.Literal bytes) h = both (bytes_text bytes) (34 ∷ []) (bytes_one bytes) refl

reference_one : (r : Reference) → FitsReference r → is_one_line (reference_text r) ≡ true
reference_one (reference.Ints n) h = index n h
reference_one (reference.Texts n) h = index n h

argument_one : (a : Argument) → FitsArgument a → is_one_line (argument_text a) ≡ true
argument_one (argument.Int a) h = atom_one a h
argument_one (argument.Text t) h = text_one t h
argument_one (argument.Block r) h = reference_one r h

others_one : (arguments : List Argument) → AllByRecursion FitsArgument arguments →
    is_one_line (flat_map (λ y. codes ", " ++ argument_text y) arguments) ≡ true
others_one [] h = refl
others_one (a ∷ more) h = both (argument_text a) (flat_map (λ y. codes ", " ++ argument_text y) more) (argument_one a h.0)
    (others_one more h.1)

arguments_one : (arguments : List Argument) → AllByRecursion FitsArgument arguments →
    is_one_line (listed_by argument_text arguments) ≡ true
arguments_one [] h = refl
arguments_one (a ∷ more) h = both (argument_text a) (flat_map (λ y. codes ", " ++ argument_text y) more) (argument_one a h.0)
    (others_one more h.1)

operator_one : (op : Operator) → is_one_line (operator_text op) ≡ true
operator_one operator.Add = refl
operator_one operator.Subtract = refl
operator_one operator.Multiply = refl
operator_one operator.Divide = refl
operator_one operator.Remainder = refl
operator_one operator.Less = refl
operator_one operator.LessEqual = refl
operator_one operator.Equal = refl
operator_one operator.NotEqual = refl
operator_one operator.And = refl
operator_one operator.Or = refl

-- the arguments of a built-in and its closing bracket
one_argument : (a : List ℕ) → is_one_line a ≡ true → is_one_line (a ++ 41 ∷ []) ≡ true
one_argument a h = both a (41 ∷ []) h refl

two_arguments : (a b : List ℕ) → is_one_line a ≡ true → is_one_line b ≡ true → is_one_line ((a ++ 44 ∷ 32 ∷ (b ++ [])) ++ 41 ∷ [])
    ≡ true
two_arguments a b h k = both (a ++ 44 ∷ 32 ∷ (b ++ [])) (41 ∷ []) (both a (44 ∷ 32 ∷ (b ++ [])) h (both b [] k refl)) refl

three_arguments : (a b c : List ℕ) → is_one_line a ≡ true → is_one_line b ≡ true → is_one_line c ≡ true →
    is_one_line ((a ++ 44 ∷ 32 ∷ (b ++ 44 ∷ 32 ∷ (c ++ []))) ++ 41 ∷ []) ≡ true
three_arguments a b c h k l = both (a ++ 44 ∷ 32 ∷ (b ++ 44 ∷ 32 ∷ (c ++ []))) (41 ∷ [])
    (both a (44 ∷ 32 ∷ (b ++ 44 ∷ 32 ∷ (c ++ []))) h (both b (44 ∷ 32 ∷ (c ++ [])) k (both c [] l refl))) refl

cell_one : (n a : List ℕ) → is_one_line n ≡ true → is_one_line a ≡ true → is_one_line (n ++ 91 ∷ (a ++ 93 ∷ [])) ≡ true
cell_one n a h k = both n (91 ∷ (a ++ 93 ∷ [])) h (both a (93 ∷ []) k refl)

int_one : (v : IntValue) → FitsInt v → is_one_line (int_value_text v) ≡ true
int_one (int.Atom a) h = atom_one a h
int_one (int.Operation a op b) h = both (atom_text a) (32 ∷ (operator_text op ++ 32 ∷ atom_text b)) (atom_one a h.0)
    (both (operator_text op) (32 ∷ atom_text b) (operator_one op) (atom_one b h.1))
int_one (int.Cell n a) h = cell_one (decimal n) (atom_text a) (index n h.0) (atom_one a h.1)
int_one (int.Wrap a) h = one_argument (atom_text a) (atom_one a h)
int_one (int.Power a b) h = two_arguments (atom_text a) (atom_text b) (atom_one a h.0) (atom_one b h.1)
int_one (int.Xor a b) h = two_arguments (atom_text a) (atom_text b) (atom_one a h.0) (atom_one b h.1)
int_one (int.Length t) h = one_argument (text_atom_text t) (text_one t h)
int_one (int.Index t u) h = two_arguments (text_atom_text t) (text_atom_text u) (text_one t h.0) (text_one u h.1)
int_one (int.Code t) h = one_argument (text_atom_text t) (text_one t h)
int_one (int.Compare t u) h = two_arguments (text_atom_text t) (text_atom_text u) (text_one t h.0) (text_one u h.1)
int_one (int.Size r) h = one_argument (reference_text r) (reference_one r h)
int_one (int.Live r) h = one_argument (reference_text r) (reference_one r h)
int_one int.Depth h = refl
int_one int.More h = refl
int_one (int.Look a) h = one_argument (atom_text a) (atom_one a h)
int_one (int.Take a) h = one_argument (atom_text a) (atom_one a h)

words_one : (v : TextValue) → FitsWords v → is_one_line (text_value_text v) ≡ true
words_one (words.Atom t) h = text_one t h
words_one (words.Cell n a) h = cell_one (decimal n) (atom_text a) (index n h.0) (atom_one a h.1)
words_one (words.Join t u) h = two_arguments (text_atom_text t) (text_atom_text u) (text_one t h.0) (text_one u h.1)
words_one (words.Part t a b) h = three_arguments (text_atom_text t) (atom_text a) (atom_text b) (text_one t h.0) (atom_one a h.1)
    (atom_one b h.2)
words_one (words.Over t a u) h = three_arguments (text_atom_text t) (atom_text a) (text_atom_text u) (text_one t h.0)
    (atom_one a h.1) (text_one u h.2)
words_one (words.Fit t a) h = two_arguments (text_atom_text t) (atom_text a) (text_one t h.0) (atom_one a h.1)
words_one (words.Trim t) h = one_argument (text_atom_text t) (text_one t h)
words_one (words.Left t) h = one_argument (text_atom_text t) (text_one t h)
words_one (words.Right t) h = one_argument (text_atom_text t) (text_one t h)
words_one (words.Char a) h = one_argument (atom_text a) (atom_one a h)

-- `bN = ..`
set_one : (n value : List ℕ) → is_one_line n ≡ true → is_one_line value ≡ true → is_one_line (n ++ 32 ∷ 61 ∷ 32 ∷ value) ≡ true
set_one n value h k = both n (32 ∷ 61 ∷ 32 ∷ value) h k

store_one : (n i value : List ℕ) → is_one_line n ≡ true → is_one_line i ≡ true → is_one_line value ≡ true →
    is_one_line (n ++ 91 ∷ (i ++ 93 ∷ 32 ∷ 61 ∷ 32 ∷ value)) ≡ true
store_one n i value h k l = both n (91 ∷ (i ++ 93 ∷ 32 ∷ 61 ∷ 32 ∷ value)) h (both i (93 ∷ 32 ∷ 61 ∷ 32 ∷ value) k l)

block_one : (r : BlockRow) → FitsBlock r → is_one_line (block_row_text r) ≡ true
block_one (block.StoreInt n i a) h = store_one (decimal n) (atom_text i) (atom_text a) (index n h.0) (atom_one i h.1)
    (atom_one a h.2)
block_one (block.StoreText n i t) h = store_one (decimal n) (atom_text i) (text_atom_text t) (index n h.0) (atom_one i h.1)
    (text_one t h.2)
block_one (block.New n a) h = set_one (decimal n) _ (index n h.0) (one_argument (atom_text a) (atom_one a h.1))
block_one (block.Temp n a) h = set_one (decimal n) _ (index n h.0) (one_argument (atom_text a) (atom_one a h.1))
block_one (block.Copy n a) h = set_one (decimal n) _ (index n h.0) (one_argument (atom_text a) (atom_one a h.1))
block_one (block.Mark n a) h = set_one (decimal n) _ (index n h.0) (one_argument (atom_text a) (atom_one a h.1))
block_one (block.NewText n a b) h = set_one (decimal n) _ (index n h.0)
    (two_arguments (atom_text a) (atom_text b) (atom_one a h.1) (atom_one b h.2))
block_one (block.TempText n a) h = set_one (decimal n) _ (index n h.0) (one_argument (atom_text a) (atom_one a h.1))
block_one (block.CopyText n a) h = set_one (decimal n) _ (index n h.0) (one_argument (atom_text a) (atom_one a h.1))
block_one (block.SameInts n m) h = set_one (decimal n) (98 ∷ decimal m) (index n h.0) (index m h.1)
block_one (block.SameTexts n m) h = set_one (decimal n) (99 ∷ decimal m) (index n h.0) (index m h.1)
block_one (block.Grow r a) h = two_arguments (reference_text r) (atom_text a) (reference_one r h.0) (atom_one a h.1)
block_one (block.Free r) h = one_argument (reference_text r) (reference_one r h)

fault_small : (k : FaultKind) → fault_number k < 2 ^ 64
fault_small fault.ZeroDivide = omega arith
fault_small fault.Bounds = omega arith
fault_small fault.Shape = omega arith
fault_small fault.ZeroStep = omega arith
fault_small fault.ManyOne = omega arith
fault_small fault.Overlap = omega arith
fault_small fault.TooLarge = omega arith
fault_small fault.NotAllocated = omega arith
fault_small fault.Allocated = omega arith
fault_small fault.EndOfInput = omega arith
fault_small fault.BadInput = omega arith
fault_small fault.CharRange = omega arith
fault_small fault.CallDepth = omega arith
fault_small fault.Argument = omega arith
fault_small fault.DummyShape = omega arith

control_one : (r : ControlRow) → FitsControl r → is_one_line (control_row_text r) ≡ true
control_one control.Break h = refl
control_one control.Continue h = refl
control_one control.Return h = refl
control_one (control.Call n arguments) h = both (decimal n) (40 ∷ (listed_by argument_text arguments ++ 41 ∷ [])) (index n h.0)
    (one_argument (listed_by argument_text arguments) (arguments_one arguments h.1))
control_one control.Stop h = refl
control_one (control.Fault k) h = one_argument (decimal (fault_number k)) (number (fault_number k) (fault_small k))
control_one (control.At n) h = one_argument (decimal n) (index n h)

record_one : (r : RecordRow) → FitsRecord r → is_one_line (record_row_text r) ≡ true
record_one (record_row.PutInt a) h = one_argument (atom_text a) (atom_one a h)
record_one (record_row.PutLog a) h = one_argument (atom_text a) (atom_one a h)
record_one (record_row.PutText t) h = one_argument (text_atom_text t) (text_one t h)
record_one record_row.Write h = refl
record_one record_row.Skip h = refl

row_one : (r : Row) → FitsRow r → is_one_line (row_text r) ≡ true
row_one (row.Int n value) h = set_one (decimal n) (int_value_text value) (index n h.0) (int_one value h.1)
row_one (row.Text n value) h = set_one (decimal n) (text_value_text value) (index n h.0) (words_one value h.1)
row_one (row.Block r) h = block_one r h
row_one (row.Control r) h = control_one r h
row_one (row.Record r) h = record_one r h

pub line_one : (line : CodeLine) → FitsLine line → is_one_line (spell line) ≡ true
line_one (code.Row r) h = both (row_text r) (59 ∷ []) (row_one r h) refl
line_one (code.If test) h = both (atom_text test) (codes ") {") (atom_one test h) refl
line_one code.Else h = refl
line_one (code.ForUp k bound) h =
    let n = index k h.0 in
    let last : is_one_line (decimal k ++ codes " + 1) {") ≡ true = both (decimal k) (codes " + 1) {") n refl in
    let step : is_one_line (decimal k ++ 32 ∷ 61 ∷ 32 ∷ 107 ∷ (decimal k ++ codes " + 1) {")) ≡ true = both (decimal k) _ n last in
    let test : is_one_line (atom_text bound ++ 59 ∷ 32 ∷ 107 ∷ (decimal k ++ 32 ∷ 61 ∷ 32 ∷ 107 ∷ (decimal k ++ codes " + 1) {")))
    ≡ true = both (atom_text bound) _ (atom_one bound h.1) step in
    both (decimal k) _ n
    (both (decimal k)
    (32 ∷ 60 ∷ 32 ∷ (atom_text bound ++ 59 ∷ 32 ∷ 107 ∷ (decimal k ++ 32 ∷ 61 ∷ 32 ∷ 107 ∷ (decimal k ++ codes " + 1) {")))) n
    test)
line_one (code.ForDown k bound) h =
    let n = index k h.0 in
    let last : is_one_line (decimal k ++ codes " - 1) {") ≡ true = both (decimal k) (codes " - 1) {") n refl in
    let step : is_one_line (decimal k ++ 32 ∷ 61 ∷ 32 ∷ 107 ∷ (decimal k ++ codes " - 1) {")) ≡ true = both (decimal k) _ n last in
    let test : is_one_line
    (decimal k ++ 32 ∷ 62 ∷ 61 ∷ 32 ∷ 48 ∷ 59 ∷ 32 ∷ 107 ∷ (decimal k ++ 32 ∷ 61 ∷ 32 ∷ 107 ∷ (decimal k ++ codes " - 1) {")))
    ≡ true = both (decimal k) _ n step in
    both (decimal k) _ n
    (both (atom_text bound)
    (32 ∷ 45 ∷ 32 ∷ 49 ∷ 59 ∷ 32 ∷ 107
    ∷ (decimal k ++ 32 ∷ 62 ∷ 61 ∷ 32 ∷ 48 ∷ 59 ∷ 32 ∷ 107
    ∷ (decimal k ++ 32 ∷ 61 ∷ 32 ∷ 107 ∷ (decimal k ++ codes " - 1) {")))) (atom_one bound h.1) test)
line_one code.Forever h = refl
line_one code.Close h = refl

-- ---- heads

letter_one : (p : Letter) (j : ℕ) → j < 2 ^ 64 → is_one_line (letter_text p ++ decimal j) ≡ true
letter_one letter.Int j h = number j h
letter_one letter.Text j h = number j h
letter_one letter.Ints j h = number j h
letter_one letter.Texts j h = number j h

other_letters : (j : ℕ) (ps : List Letter) → j + length ps < 2 ^ 64 →
    is_one_line (flat_map (λ y. codes ", " ++ y) (parameters_text j ps)) ≡ true
other_letters j [] h = refl
other_letters j (p ∷ ps) h = both (letter_text p ++ decimal j) (flat_map (λ y. codes ", " ++ y) (parameters_text (j + 1) ps))
    (letter_one p j (omega arith)) (other_letters (j + 1) ps (omega arith))

letters_one : (ps : List Letter) → length ps < 2 ^ 64 → is_one_line (listed (parameters_text 0 ps)) ≡ true
letters_one [] h = refl
letters_one (p ∷ ps) h = both (letter_text p ++ decimal 0) (flat_map (λ y. codes ", " ++ y) (parameters_text 1 ps))
    (letter_one p 0 (omega arith)) (other_letters 1 ps (omega arith))

pub head_one : (n : ℕ) (ps : List Letter) → n < 2 ^ 64 → length ps < 2 ^ 64 → is_one_line (function_head n ps) ≡ true
head_one n ps small few = both (decimal n) (40 ∷ (listed (parameters_text 0 ps) ++ codes ") {")) (number n small)
    (both (listed (parameters_text 0 ps)) (codes ") {") (letters_one ps few) refl)
