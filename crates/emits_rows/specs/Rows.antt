-- Small nest units that have lines, and the program that becomes of each, as text in front of its tree. The units are those of the
-- rows of `nest_tree`.
use Rattle.std.specs.Prelude.{◌≡◌, ℕ, pos, List, [], ◌∷◌}
use Rattle.a95_base.specs.declared.fault.FaultKind.TheVariants as fault
use Rattle.nest_tree.specs.Plain.{NestUnit}
use Rattle.nest_tree.specs.Sound.{Sound}
use Rattle.nest_tree.specs.StoresRows.{whole_row, texts_padded_and_kept}
use Rattle.nest_tree.specs.ControlRows.{outer_loop_left, two_integers_read}
use Rattle.loop_tree.specs.declared.atom.Atom.{Atom}
use Rattle.loop_tree.specs.declared.atom.Atom.TheVariants as atom
use Rattle.loop_tree.specs.declared.atom.TextAtom.TheVariants as text
use Rattle.loop_tree.specs.declared.atom.Operator.TheVariants as operator
use Rattle.loop_tree.specs.declared.row.IntValue.{IntValue}
use Rattle.loop_tree.specs.declared.row.IntValue.TheVariants as int
use Rattle.loop_tree.specs.declared.row.TextValue.{TextValue}
use Rattle.loop_tree.specs.declared.row.TextValue.TheVariants as words
use Rattle.loop_tree.specs.declared.row.BlockRow.{BlockRow}
use Rattle.loop_tree.specs.declared.row.BlockRow.TheVariants as block
use Rattle.loop_tree.specs.declared.row.ControlRow.{ControlRow}
use Rattle.loop_tree.specs.declared.row.ControlRow.TheVariants as control
use Rattle.loop_tree.specs.declared.row.RecordRow.{RecordRow}
use Rattle.loop_tree.specs.declared.row.RecordRow.TheVariants as record_row
use Rattle.loop_tree.specs.declared.row.Row.TheVariants as row
use Rattle.loop_tree.specs.declared.tree.Stmt.{Stmt}
use Rattle.loop_tree.specs.declared.tree.Stmt.TheVariants as stmt
use Rattle.nest_emit.specs.Statements.{program_of}
use Rattle.nest_emit.specs.Emits.{Emits}

-- ---- short words

abbrev number : ℕ → Atom
number n = atom.Number (pos n)

abbrev gets : ℕ → IntValue → Stmt
gets n x = stmt.Row (row.Int n x)

abbrev says : ℕ → TextValue → Stmt
says n x = stmt.Row (row.Text n x)

abbrev changes : BlockRow → Stmt
changes r = stmt.Row (row.Block r)

abbrev steers : ControlRow → Stmt
steers r = stmt.Row (row.Control r)

abbrev records : RecordRow → Stmt
records r = stmt.Row (row.Record r)

-- ---- rows

-- the unit has lines, and these are the statements of its one function
pub record Becomes (unit : NestUnit) (body : List Stmt) : Type 0 where
  pub emits : Emits unit
  pub program : program_of unit ≡ record { parameters = []; body = body } ∷ []

-- integer :: a(3); a = 2; print *, a
-- f_at(1); i0 = 1; i18 = 3 < 1; if (i18) { i1 = 0; } else { i1 = 3 - 1; i1 = i1 + 1; } i17 = 1; i17 = i1 * i17;
-- b0 = f_new(i17); i17 = 3; i18 = 0 < i17; if (i18) { for (k1 = 0; k1 < i17; k1 = k1 + 1) { f_at(1); i19 = k1 * 1;
-- i19 = 1 + i19; i19 = i19 - i0; b0[i19] = 2; } } i17 = 3; i18 = 0 < i17; if (i18) {
-- for (k1 = 0; k1 < i17; k1 = k1 + 1) { f_at(1); i18 = k1 * 1; i18 = 1 + i18; i18 = i18 - i0; i18 = b0[i18];
-- f_put_int(i18); } } f_record();
abbrev pub WholeRow : Type 0
WholeRow = Becomes whole_row (
    steers (control.At 1) ∷ gets 0 (int.Atom (number 1)) ∷ gets 18 (int.Operation (number 3) operator.Less (number 1)) ∷
    stmt.IfElse (atom.Int 18) (gets 1 (int.Atom (number 0)) ∷ []) (gets 1 (int.Operation (number 3) operator.Subtract (number
    1)) ∷ gets 1 (int.Operation (atom.Int 1) operator.Add (number 1)) ∷ []) ∷ gets 17 (int.Atom (number 1)) ∷ gets 17
    (int.Operation (atom.Int 1) operator.Multiply (atom.Int 17)) ∷ changes (block.New 0 (atom.Int 17)) ∷ gets 17 (int.Atom
    (number 3)) ∷ gets 18 (int.Operation (number 0) operator.Less (atom.Int 17)) ∷ stmt.If (atom.Int 18) (stmt.ForUp 1
    (atom.Int 17) (steers (control.At 1) ∷ gets 19 (int.Operation (atom.Loop 1) operator.Multiply (number 1)) ∷ gets 19
    (int.Operation (number 1) operator.Add (atom.Int 19)) ∷ gets 19 (int.Operation (atom.Int 19) operator.Subtract (atom.Int
    0)) ∷ changes (block.StoreInt 0 (atom.Int 19) (number 2)) ∷ []) ∷ []) ∷ gets 17 (int.Atom (number 3)) ∷ gets 18
    (int.Operation (number 0) operator.Less (atom.Int 17)) ∷ stmt.If (atom.Int 18) (stmt.ForUp 1 (atom.Int 17) (steers
    (control.At 1) ∷ gets 18 (int.Operation (atom.Loop 1) operator.Multiply (number 1)) ∷ gets 18 (int.Operation (number 1)
    operator.Add (atom.Int 18)) ∷ gets 18 (int.Operation (atom.Int 18) operator.Subtract (atom.Int 0)) ∷ gets 18 (int.Cell 0
    (atom.Int 18)) ∷ records (record_row.PutInt (atom.Int 18)) ∷ []) ∷ []) ∷ records record_row.Write ∷ [])

-- the outer of two loops is left from within the inner one
-- while (1) { f_at(1); if (1) { } else { i0 = 0; break; } while (1) { f_at(2); if (1) { } else { i0 = 0; break; }
-- i0 = 1; break; } if (i0) { i1 = i0 < 0; if (i1) { i0 = i0 + 1; if (i0) { break; } else { continue; } } else {
-- i0 = i0 - 1; break; } } f_at(3); f_put_int(8); f_record(); } f_at(4); f_put_int(9); f_record();
abbrev pub OuterLoopLeft : Type 0
OuterLoopLeft = Becomes outer_loop_left (
    stmt.Forever (steers (control.At 1) ∷ stmt.IfElse (number 1) ([]) (gets 0 (int.Atom (number 0)) ∷ steers control.Break ∷
    []) ∷ stmt.Forever (steers (control.At 2) ∷ stmt.IfElse (number 1) ([]) (gets 0 (int.Atom (number 0)) ∷ steers
    control.Break ∷ []) ∷ gets 0 (int.Atom (number 1)) ∷ steers control.Break ∷ []) ∷ stmt.If (atom.Int 0) (gets 1
    (int.Operation (atom.Int 0) operator.Less (number 0)) ∷ stmt.IfElse (atom.Int 1) (gets 0 (int.Operation (atom.Int 0)
    operator.Add (number 1)) ∷ stmt.IfElse (atom.Int 0) (steers control.Break ∷ []) (steers control.Continue ∷ []) ∷ [])
    (gets 0 (int.Operation (atom.Int 0) operator.Subtract (number 1)) ∷ steers control.Break ∷ []) ∷ []) ∷ steers (control.At
    3) ∷ records (record_row.PutInt (number 8)) ∷ records record_row.Write ∷ []) ∷ steers (control.At 4) ∷ records
    (record_row.PutInt (number 9)) ∷ records record_row.Write ∷ [])

-- read *, i, j
-- f_at(1); i4 = f_look(i2); i5 = i4 != 1; if (i5) { } else { f_fault(10); } i5 = i4 != 2; if (i5) { } else {
-- f_fault(11); } i0 = f_take(i2); f_at(1); i2 = 1; f_at(1); i4 = f_look(i2); i5 = i4 != 1; if (i5) { } else {
-- f_fault(10); } i5 = i4 != 2; if (i5) { } else { f_fault(11); } i1 = f_take(i2); f_at(1); i4 = f_more(); i4 = i2 | i4;
-- if (i4) { } else { f_fault(10); } f_skip(); f_at(2); f_put_int(i0); f_at(2); f_put_int(i1); f_record();
abbrev pub TwoIntegersRead : Type 0
TwoIntegersRead = Becomes two_integers_read (
    steers (control.At 1) ∷ gets 4 (int.Look (atom.Int 2)) ∷ gets 5 (int.Operation (atom.Int 4) operator.NotEqual (number 1))
    ∷ stmt.IfElse (atom.Int 5) ([]) (steers (control.Fault fault.EndOfInput) ∷ []) ∷ gets 5 (int.Operation (atom.Int 4)
    operator.NotEqual (number 2)) ∷ stmt.IfElse (atom.Int 5) ([]) (steers (control.Fault fault.BadInput) ∷ []) ∷ gets 0
    (int.Take (atom.Int 2)) ∷ steers (control.At 1) ∷ gets 2 (int.Atom (number 1)) ∷ steers (control.At 1) ∷ gets 4 (int.Look
    (atom.Int 2)) ∷ gets 5 (int.Operation (atom.Int 4) operator.NotEqual (number 1)) ∷ stmt.IfElse (atom.Int 5) ([]) (steers
    (control.Fault fault.EndOfInput) ∷ []) ∷ gets 5 (int.Operation (atom.Int 4) operator.NotEqual (number 2)) ∷ stmt.IfElse
    (atom.Int 5) ([]) (steers (control.Fault fault.BadInput) ∷ []) ∷ gets 1 (int.Take (atom.Int 2)) ∷ steers (control.At 1) ∷
    gets 4 int.More ∷ gets 4 (int.Operation (atom.Int 2) operator.Or (atom.Int 4)) ∷ stmt.IfElse (atom.Int 4) ([]) (steers
    (control.Fault fault.EndOfInput) ∷ []) ∷ records record_row.Skip ∷ steers (control.At 2) ∷ records (record_row.PutInt
    (atom.Int 0)) ∷ steers (control.At 2) ∷ records (record_row.PutInt (atom.Int 1)) ∷ records record_row.Write ∷ [])

-- a text that is padded, one that is kept, and bytes of the first
-- f_at(1); i33 = 1; i15 = 3; i34 = i15 < 0; if (i34) { i15 = 0; } c0 = f_new_text(i33, i15); f_at(1); i33 = 1; i31 = 3;
-- i34 = i31 < 0; if (i34) { i31 = 0; } c1 = f_temp_text(i33); f_at(2); s33 = f_fit("a", i15); c0[0] = s33; f_at(2);
-- c1[0] = "a"; f_at(3); s34 = c0[0]; s35 = f_sub(s34, 2, 3); i35 = f_len(s35); s33 = f_fit("bcd", i35);
-- s33 = f_over(s34, 2, s33); c0[0] = s33; f_at(4); s33 = c0[0]; f_put_text(s33); f_at(4); s33 = c1[0]; f_put_text(s33);
-- f_record();
abbrev pub TextsPaddedAndKept : Type 0
TextsPaddedAndKept = Becomes texts_padded_and_kept (
    steers (control.At 1) ∷ gets 33 (int.Atom (number 1)) ∷ gets 15 (int.Atom (number 3)) ∷ gets 34 (int.Operation (atom.Int
    15) operator.Less (number 0)) ∷ stmt.If (atom.Int 34) (gets 15 (int.Atom (number 0)) ∷ []) ∷ changes (block.NewText 0
    (atom.Int 33) (atom.Int 15)) ∷ steers (control.At 1) ∷ gets 33 (int.Atom (number 1)) ∷ gets 31 (int.Atom (number 3)) ∷
    gets 34 (int.Operation (atom.Int 31) operator.Less (number 0)) ∷ stmt.If (atom.Int 34) (gets 31 (int.Atom (number 0)) ∷
    []) ∷ changes (block.TempText 1 (atom.Int 33)) ∷ steers (control.At 2) ∷ says 33 (words.Fit (text.Literal (97 ∷ []))
    (atom.Int 15)) ∷ changes (block.StoreText 0 (number 0) (text.Variable 33)) ∷ steers (control.At 2) ∷ changes
    (block.StoreText 1 (number 0) (text.Literal (97 ∷ []))) ∷ steers (control.At 3) ∷ says 34 (words.Cell 0 (number 0)) ∷
    says 35 (words.Part (text.Variable 34) (number 2) (number 3)) ∷ gets 35 (int.Length (text.Variable 35)) ∷ says 33
    (words.Fit (text.Literal (98 ∷ 99 ∷ 100 ∷ [])) (atom.Int 35)) ∷ says 33 (words.Over (text.Variable 34) (number 2)
    (text.Variable 33)) ∷ changes (block.StoreText 0 (number 0) (text.Variable 33)) ∷ steers (control.At 4) ∷ says 33
    (words.Cell 0 (number 0)) ∷ records (record_row.PutText (text.Variable 33)) ∷ steers (control.At 4) ∷ says 33 (words.Cell
    1 (number 0)) ∷ records (record_row.PutText (text.Variable 33)) ∷ records record_row.Write ∷ [])

-- ---- units that the laws of what is emitted speak of

abbrev pub WholeRowIsSound : Type 0
WholeRowIsSound = Sound whole_row

abbrev pub OuterLoopLeftIsSound : Type 0
OuterLoopLeftIsSound = Sound outer_loop_left

abbrev pub TextsPaddedAndKeptAreSound : Type 0
TextsPaddedAndKeptAreSound = Sound texts_padded_and_kept
