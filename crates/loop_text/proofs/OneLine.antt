-- A line that is spelled right is taken for what it spells, so no two lines are spelled alike.
use Rattle.std.proofs.Common.{◌≡◌, ℕ, ◌%◌, ◌<◌, ◌^◌, false, List, [], ◌∷◌, ◌++◌, drop, codes, decimal, refl, ◌∙◌, ap, arith}
use Rattle.std.proofs.Common.{append_assoc}
use Rattle.a95_base.specs.declared.fault.FaultKind.{FaultKind}
use Rattle.a95_base.specs.declared.fault.FaultKind.TheVariants as kind
use Rattle.a95_base.specs.Fault.{fault_number}
use Rattle.a95_base.specs.Input.{is_digit}
use Rattle.loop_tree.specs.declared.atom.Atom.{Atom}
use Rattle.loop_tree.specs.declared.row.BlockRow.{BlockRow}
use Rattle.loop_tree.specs.declared.row.BlockRow.TheVariants as block
use Rattle.loop_tree.specs.declared.row.ControlRow.{ControlRow}
use Rattle.loop_tree.specs.declared.row.ControlRow.TheVariants as control
use Rattle.loop_tree.specs.declared.row.RecordRow.{RecordRow}
use Rattle.loop_tree.specs.declared.row.RecordRow.TheVariants as record_row
use Rattle.loop_tree.specs.declared.row.Row.{Row}
use Rattle.loop_tree.specs.declared.row.Row.TheVariants as row
use Rattle.loop_tree.specs.declared.tree.CodeLine.{CodeLine}
use Rattle.loop_tree.specs.declared.tree.CodeLine.TheVariants as code
use Rattle.loop_tree.specs.Text.{atom_text, text_atom_text, reference_text, argument_text, listed_by, int_value_text}
use Rattle.loop_tree.specs.Text.{text_value_text, block_row_text, control_row_text, record_row_text, row_text, spell}
use Rattle.loop_tree.specs.Program.{FitsAtom, FitsBlock, FitsControl, FitsRecord, FitsRow, FitsLine}
use Rattle.loop_text.specs.Guess.{byte_at, NumberOn, AtomOn, TextOn, ReferenceOn, number_on, atom_on, text_on}
use Rattle.loop_text.specs.Guess.{reference_on, index_on, arguments_on, int_value_on, text_value_on, store_int_on, store_text_on}
use Rattle.loop_text.specs.Guess.{ints_value_on, new_text_on, texts_value_on, ints_row_on, texts_row_on, int_row_on, text_row_on}
use Rattle.loop_text.specs.Guess.{call_on, variable_row_on, fault_of, grow_on, built_in_on, for_on, loop_on, word_on, line_on}
use Rattle.loop_text.proofs.Numbers.{number_again, index_again, atom_again, first_digit}
use Rattle.loop_text.proofs.Texts.{text_again, reference_again, arguments_again}
use Rattle.loop_text.proofs.Values.{end_of_call, one_is, two_is, int_value_again, text_value_again}

abbrev semicolon : List ℕ
semicolon = 59 ∷ []

-- ---- rows that begin with a variable

-- a letter and a number
variable_line : (letter n : ℕ) (rest : List ℕ) → n < 2 ^ 32 → is_digit (byte_at rest 0) ≡ false →
    line_on (letter ∷ (decimal n ++ rest)) ≡ code.Row (variable_row_on letter (record { value = n; rest = rest }))
unfolding line_on
variable_line letter n rest h e =
    let low : n < 2 ^ 64 = omega arith in
    rw (first_digit n low rest) (ap (λ k. code.Row (variable_row_on letter k)) (index_again n rest h e))

-- a letter, a number and ` = `
set_line : (letter n : ℕ) (value : List ℕ) → n < 2 ^ 32 → line_on ((letter ∷ (decimal n ++ 32 ∷ 61 ∷ 32 ∷ value)) ++ semicolon)
    ≡ code.Row (variable_row_on letter (record { value = n; rest = 32 ∷ 61 ∷ 32 ∷ (value ++ semicolon) }))
set_line letter n value h =
    ap (λ bs. line_on (letter ∷ bs)) (append_assoc (decimal n) (32 ∷ 61 ∷ 32 ∷ value) semicolon)
    ∙ variable_line letter n (32 ∷ 61 ∷ 32 ∷ (value ++ semicolon)) h refl

int_line : (n : ℕ) (bytes : List ℕ) → variable_row_on 105 (record { value = n; rest = 32 ∷ 61 ∷ 32 ∷ bytes })
    ≡ row.Int n (int_value_on bytes)
unfolding variable_row_on int_row_on
int_line n bytes = refl

text_line : (n : ℕ) (bytes : List ℕ) → variable_row_on 115 (record { value = n; rest = 32 ∷ 61 ∷ 32 ∷ bytes })
    ≡ row.Text n (text_value_on bytes)
unfolding variable_row_on text_row_on
text_line n bytes = refl

ints_line : (n : ℕ) (bytes : List ℕ) → variable_row_on 98 (record { value = n; rest = 32 ∷ 61 ∷ 32 ∷ bytes })
    ≡ row.Block (ints_value_on n bytes)
unfolding variable_row_on ints_row_on
ints_line n bytes = refl

texts_line : (n : ℕ) (bytes : List ℕ) → variable_row_on 99 (record { value = n; rest = 32 ∷ 61 ∷ 32 ∷ bytes })
    ≡ row.Block (texts_value_on n bytes)
unfolding variable_row_on texts_row_on
texts_line n bytes = refl

-- `bN = ..;` and `cN = ..;`
ints_set : (n : ℕ) (value : List ℕ) (is : BlockRow) → n < 2 ^ 32 → ints_value_on n (value ++ semicolon) ≡ is →
    line_on ((98 ∷ (decimal n ++ 32 ∷ 61 ∷ 32 ∷ value)) ++ semicolon) ≡ code.Row (row.Block is)
ints_set n value is h e = set_line 98 n value h
    ∙ (ap code.Row (ints_line n (value ++ semicolon)) ∙ ap (λ r. code.Row (row.Block r)) e)

texts_set : (n : ℕ) (value : List ℕ) (is : BlockRow) → n < 2 ^ 32 → texts_value_on n (value ++ semicolon) ≡ is →
    line_on ((99 ∷ (decimal n ++ 32 ∷ 61 ∷ 32 ∷ value)) ++ semicolon) ≡ code.Row (row.Block is)
texts_set n value is h e = set_line 99 n value h
    ∙ (ap code.Row (texts_line n (value ++ semicolon)) ∙ ap (λ r. code.Row (row.Block r)) e)

cell_is : (n i value : List ℕ) → (n ++ 91 ∷ (i ++ 93 ∷ 32 ∷ 61 ∷ 32 ∷ value)) ++ semicolon ≡ n ++ 91
    ∷ (i ++ 93 ∷ 32 ∷ 61 ∷ 32 ∷ (value ++ semicolon))
cell_is n i value = simp append_assoc

store_int_line : (n : ℕ) (i : Atom) (bytes : List ℕ) → FitsAtom i →
    variable_row_on 98 (record { value = n; rest = 91 ∷ (atom_text i ++ 93 ∷ 32 ∷ 61 ∷ 32 ∷ bytes) })
    ≡ row.Block (block.StoreInt n i (atom_on bytes).value)
unfolding variable_row_on ints_row_on store_int_on
store_int_line n i bytes h = ap (λ (x : AtomOn). row.Block (store_int_on n x)) (atom_again i (93 ∷ 32 ∷ 61 ∷ 32 ∷ bytes) h refl)

store_text_line : (n : ℕ) (i : Atom) (bytes : List ℕ) → FitsAtom i →
    variable_row_on 99 (record { value = n; rest = 91 ∷ (atom_text i ++ 93 ∷ 32 ∷ 61 ∷ 32 ∷ bytes) })
    ≡ row.Block (block.StoreText n i (text_on bytes).value)
unfolding variable_row_on texts_row_on store_text_on
store_text_line n i bytes h = ap (λ (x : AtomOn). row.Block (store_text_on n x)) (atom_again i (93 ∷ 32 ∷ 61 ∷ 32 ∷ bytes) h refl)

block_line : (r : BlockRow) → FitsBlock r → line_on (block_row_text r ++ semicolon) ≡ code.Row (row.Block r)
unfolding ints_value_on texts_value_on new_text_on line_on word_on built_in_on grow_on
block_line (block.StoreInt n i a) h =
    let rest = 91 ∷ (atom_text i ++ 93 ∷ 32 ∷ 61 ∷ 32 ∷ (atom_text a ++ semicolon)) in
    ap (λ bs. line_on (98 ∷ bs)) (cell_is (decimal n) (atom_text i) (atom_text a))
    ∙ (variable_line 98 n rest h.0 refl ∙ (ap code.Row (store_int_line n i (atom_text a ++ semicolon) h.1)
    ∙ ap (λ (x : AtomOn). code.Row (row.Block (block.StoreInt n i x.value))) (atom_again a semicolon h.2 refl)))
block_line (block.StoreText n i t) h =
    let rest = 91 ∷ (atom_text i ++ 93 ∷ 32 ∷ 61 ∷ 32 ∷ (text_atom_text t ++ semicolon)) in
    ap (λ bs. line_on (99 ∷ bs)) (cell_is (decimal n) (atom_text i) (text_atom_text t))
    ∙ (variable_line 99 n rest h.0 refl ∙ (ap code.Row (store_text_line n i (text_atom_text t ++ semicolon) h.1)
    ∙ ap (λ (x : TextOn). code.Row (row.Block (block.StoreText n i x.value))) (text_again t semicolon h.2 refl)))
block_line (block.New n a) h = ints_set n _ (block.New n a) h.0
    (ap (λ bs. block.New n (atom_on bs).value) (one_is (atom_text a))
    ∙ ap (λ (x : AtomOn). block.New n x.value) (atom_again a end_of_call h.1 refl))
block_line (block.Temp n a) h = ints_set n _ (block.Temp n a) h.0
    (ap (λ bs. block.Temp n (atom_on bs).value) (one_is (atom_text a))
    ∙ ap (λ (x : AtomOn). block.Temp n x.value) (atom_again a end_of_call h.1 refl))
block_line (block.Copy n a) h = ints_set n _ (block.Copy n a) h.0
    (ap (λ bs. block.Copy n (atom_on bs).value) (one_is (atom_text a))
    ∙ ap (λ (x : AtomOn). block.Copy n x.value) (atom_again a end_of_call h.1 refl))
block_line (block.Mark n a) h = ints_set n _ (block.Mark n a) h.0
    (ap (λ bs. block.Mark n (atom_on bs).value) (one_is (atom_text a))
    ∙ ap (λ (x : AtomOn). block.Mark n x.value) (atom_again a end_of_call h.1 refl))
block_line (block.NewText n a b) h =
    texts_set n _ (block.NewText n a b) h.0 (ap (λ bs. new_text_on n (atom_on bs)) (two_is (atom_text a) (atom_text b))
    ∙ (ap (new_text_on n) (atom_again a (44 ∷ 32 ∷ (atom_text b ++ end_of_call)) h.1 refl)
    ∙ ap (λ (x : AtomOn). block.NewText n a x.value) (atom_again b end_of_call h.2 refl)))
block_line (block.TempText n a) h = texts_set n _ (block.TempText n a) h.0
    (ap (λ bs. block.TempText n (atom_on bs).value) (one_is (atom_text a))
    ∙ ap (λ (x : AtomOn). block.TempText n x.value) (atom_again a end_of_call h.1 refl))
block_line (block.CopyText n a) h = texts_set n _ (block.CopyText n a) h.0
    (ap (λ bs. block.CopyText n (atom_on bs).value) (one_is (atom_text a))
    ∙ ap (λ (x : AtomOn). block.CopyText n x.value) (atom_again a end_of_call h.1 refl))
block_line (block.SameInts n m) h = ints_set n _ (block.SameInts n m) h.0
    (ap (λ (k : NumberOn). block.SameInts n k.value) (index_again m semicolon h.1 refl))
block_line (block.SameTexts n m) h = texts_set n _ (block.SameTexts n m) h.0
    (ap (λ (k : NumberOn). block.SameTexts n k.value) (index_again m semicolon h.1 refl))
block_line (block.Grow r a) h =
    ap (λ bs. code.Row (grow_on (reference_on bs))) (two_is (reference_text r) (atom_text a))
    ∙ (ap (λ x. code.Row (grow_on x)) (reference_again r (44 ∷ 32 ∷ (atom_text a ++ end_of_call)) h.0 refl)
    ∙ ap (λ (x : AtomOn). code.Row (row.Block (block.Grow r x.value))) (atom_again a end_of_call h.1 refl))
block_line (block.Free r) h = ap (λ bs. code.Row (row.Block (block.Free (reference_on bs).value))) (one_is (reference_text r))
    ∙ ap (λ (x : ReferenceOn). code.Row (row.Block (block.Free x.value))) (reference_again r end_of_call h refl)

-- ---- control

call_is : (n arguments : List ℕ) → (n ++ 40 ∷ (arguments ++ 41 ∷ [])) ++ semicolon ≡ n ++ 40 ∷ (arguments ++ end_of_call)
call_is n arguments = simp append_assoc

call_row : (n : ℕ) (bytes : List ℕ) → variable_row_on 102 (record { value = n; rest = 40 ∷ bytes })
    ≡ row.Control (control.Call n (arguments_on bytes))
unfolding variable_row_on call_on
call_row n bytes = refl

fault_known : (k : FaultKind) → (fault_of (fault_number k % 2 ^ 8) ≡ k) × (fault_number k < 2 ^ 64)
fault_known kind.ZeroDivide = (refl, omega arith)
fault_known kind.Bounds = (refl, omega arith)
fault_known kind.Shape = (refl, omega arith)
fault_known kind.ZeroStep = (refl, omega arith)
fault_known kind.ManyOne = (refl, omega arith)
fault_known kind.Overlap = (refl, omega arith)
fault_known kind.TooLarge = (refl, omega arith)
fault_known kind.NotAllocated = (refl, omega arith)
fault_known kind.Allocated = (refl, omega arith)
fault_known kind.EndOfInput = (refl, omega arith)
fault_known kind.BadInput = (refl, omega arith)
fault_known kind.CharRange = (refl, omega arith)
fault_known kind.CallDepth = (refl, omega arith)
fault_known kind.Argument = (refl, omega arith)
fault_known kind.DummyShape = (refl, omega arith)

fault_again : (k : FaultKind) → line_on (control_row_text (control.Fault k) ++ semicolon) ≡ code.Row (row.Control (control.Fault k))
unfolding line_on word_on built_in_on
fault_again k =
    ap (λ bs. code.Row (row.Control (control.Fault (fault_of ((number_on bs).value % 2 ^ 8))))) (one_is (decimal (fault_number k)))
    ∙ (ap (λ (n : NumberOn). code.Row (row.Control (control.Fault (fault_of (n.value % 2 ^ 8)))))
    (number_again (fault_number k) end_of_call (fault_known k).1 refl)
    ∙ ap (λ x. code.Row (row.Control (control.Fault x))) (fault_known k).0)

control_line : (r : ControlRow) → FitsControl r → line_on (control_row_text r ++ semicolon) ≡ code.Row (row.Control r)
unfolding line_on word_on built_in_on
control_line control.Break h = refl
control_line control.Continue h = refl
control_line control.Return h = refl
control_line (control.Call n arguments) h =
    ap (λ bs. line_on (102 ∷ bs)) (call_is (decimal n) (listed_by argument_text arguments))
    ∙ (variable_line 102 n (40 ∷ (listed_by argument_text arguments ++ end_of_call)) h.0 refl
    ∙ (ap code.Row (call_row n (listed_by argument_text arguments ++ end_of_call))
    ∙ ap (λ x. code.Row (row.Control (control.Call n x))) (arguments_again arguments semicolon h.1)))
control_line control.Stop h = refl
control_line (control.Fault k) h = fault_again k
control_line (control.At n) h = ap (λ bs. code.Row (row.Control (control.At (index_on bs).value))) (one_is (decimal n))
    ∙ ap (λ (k : NumberOn). code.Row (row.Control (control.At k.value))) (index_again n end_of_call h refl)

-- ---- records

record_line : (r : RecordRow) → FitsRecord r → line_on (record_row_text r ++ semicolon) ≡ code.Row (row.Record r)
unfolding line_on word_on built_in_on
record_line (record_row.PutInt a) h = ap (λ bs. code.Row (row.Record (record_row.PutInt (atom_on bs).value))) (one_is (atom_text a))
    ∙ ap (λ (x : AtomOn). code.Row (row.Record (record_row.PutInt x.value))) (atom_again a end_of_call h refl)
record_line (record_row.PutLog a) h = ap (λ bs. code.Row (row.Record (record_row.PutLog (atom_on bs).value))) (one_is (atom_text a))
    ∙ ap (λ (x : AtomOn). code.Row (row.Record (record_row.PutLog x.value))) (atom_again a end_of_call h refl)
record_line (record_row.PutText t) h = ap (λ bs. code.Row (row.Record (record_row.PutText (text_on bs).value)))
    (one_is (text_atom_text t)) ∙ ap (λ (x : TextOn). code.Row (row.Record (record_row.PutText x.value)))
    (text_again t end_of_call h refl)
record_line record_row.Write h = refl
record_line record_row.Skip h = refl

row_line : (r : Row) → FitsRow r → line_on (row_text r ++ semicolon) ≡ code.Row r
row_line (row.Int n value) h = set_line 105 n (int_value_text value) h.0
    ∙ (ap code.Row (int_line n (int_value_text value ++ semicolon)) ∙ ap (λ v. code.Row (row.Int n v)) (int_value_again value h.1))
row_line (row.Text n value) h = set_line 115 n (text_value_text value) h.0
    ∙ (ap code.Row (text_line n (text_value_text value ++ semicolon))
    ∙ ap (λ v. code.Row (row.Text n v)) (text_value_again value h.1))
row_line (row.Block r) h = block_line r h
row_line (row.Control r) h = control_line r h
row_line (row.Record r) h = record_line r h

-- ---- lines that open a brace

-- `0;` behind `for (kN = `
upward : (k : ℕ) (bytes : List ℕ) → for_on k (atom_on (48 ∷ 59 ∷ 32 ∷ 107 ∷ bytes))
    ≡ code.ForUp k (atom_on (drop 3 (index_on bytes).rest)).value
unfolding for_on atom_on
upward k bytes = refl

-- an atom and a blank there
downward : (k : ℕ) (bound : Atom) (bytes : List ℕ) → FitsAtom bound → for_on k (atom_on (atom_text bound ++ 32 ∷ bytes))
    ≡ code.ForDown k bound
unfolding for_on
downward k bound bytes h = ap (for_on k) (atom_again bound (32 ∷ bytes) h refl)

pub line_again : (line : CodeLine) → FitsLine line → line_on (spell line) ≡ line
unfolding line_on word_on loop_on for_on
line_again (code.Row r) h = row_line r h
line_again (code.If test) h = ap (λ (x : AtomOn). code.If x.value) (atom_again test (codes ") {") h refl)
line_again code.Else h = refl
line_again (code.ForUp k bound) h =
    let last = 59 ∷ 32 ∷ 107 ∷ (decimal k ++ 32 ∷ 61 ∷ 32 ∷ 107 ∷ (decimal k ++ 32 ∷ 43 ∷ 32 ∷ 49 ∷ 41 ∷ 32 ∷ 123 ∷ [])) in
    let test = 32 ∷ 60 ∷ 32 ∷ (atom_text bound ++ last) in
    ap loop_on (index_again k (32 ∷ 61 ∷ 32 ∷ 48 ∷ 59 ∷ 32 ∷ 107 ∷ (decimal k ++ test)) h.0 refl)
    ∙ (upward k (decimal k ++ test)
    ∙ (ap (λ (n : NumberOn). code.ForUp k (atom_on (drop 3 n.rest)).value) (index_again k test h.0 refl)
    ∙ ap (λ (x : AtomOn). code.ForUp k x.value) (atom_again bound last h.1 refl)))
line_again (code.ForDown k bound) h =
    let last = 45 ∷ 32 ∷ 49 ∷ 59 ∷ 32 ∷ 107
    ∷ (decimal k ++ 32 ∷ 62 ∷ 61 ∷ 32 ∷ 48 ∷ 59 ∷ 32 ∷ 107
    ∷ (decimal k ++ 32 ∷ 61 ∷ 32 ∷ 107 ∷ (decimal k ++ 32 ∷ 45 ∷ 32 ∷ 49 ∷ 41 ∷ 32 ∷ 123 ∷ []))) in
    ap loop_on (index_again k (32 ∷ 61 ∷ 32 ∷ (atom_text bound ++ 32 ∷ last)) h.0 refl)
    ∙ downward k bound last h.1
line_again code.Forever h = refl
line_again code.Close h = refl
