-- Rows that leave a value in a free variable.
use Rattle.std.proofs.Common.{◌≡◌, ℕ, ◌≤◌, false, not, List, [], ◌∷◌, ◌++◌, refl, sym, ap, ◌∙◌, subst, arith, ℤ, pos, length}
use Rattle.std.specs.Prelude.{Ok, ◌+ℤ◌, ◌-ℤ◌, ◌*ℤ◌, int_lt, int_le, int_div, int_rem}
use Rattle.std.specs.Int.{w64, int_wrap, int_bit_and, int_bit_or, int_bit_xor}
use Rattle.std.specs.Option.{ok_or}
use Rattle.std.specs.Ordering.{int_eq}
use Rattle.a95_base.specs.Integer.{wrapped}
use Rattle.a95_base.specs.Text.{trim, compare_padded, adjust_left, adjust_right, char_of}
use Rattle.a95_base.specs.Steps.{Ran}
use Rattle.nest_tree.specs.Plain.{Procedure}
use Rattle.nest_tree.specs.State.{NestState, Halt}
use Rattle.loop_tree.specs.declared.stuck.StuckState.TheVariants as stuck
use Rattle.loop_tree.specs.declared.atom.Atom.{Atom}
use Rattle.loop_tree.specs.declared.atom.Atom.TheVariants as atom
use Rattle.loop_tree.specs.declared.atom.TextAtom.{TextAtom}
use Rattle.loop_tree.specs.declared.atom.Operator.{Operator}
use Rattle.loop_tree.specs.declared.atom.Operator.TheVariants as operator
use Rattle.loop_tree.specs.declared.row.IntValue.{IntValue}
use Rattle.loop_tree.specs.declared.row.IntValue.TheVariants as int
use Rattle.loop_tree.specs.declared.row.TextValue.{TextValue}
use Rattle.loop_tree.specs.declared.row.TextValue.TheVariants as words
use Rattle.loop_tree.specs.declared.tree.CodeLine.{CodeLine}
use Rattle.loop_tree.specs.declared.tree.Stmt.{Stmt}
use Rattle.loop_tree.specs.declared.tree.Function.{Function}
use Rattle.loop_tree.specs.Lines.{flats}
use Rattle.loop_tree.specs.State.{Brace}
use Rattle.loop_tree.specs.Values.{number_at, text_at, truth, operation, int_value, text_value, order_number, ints_at, texts_at, int_cell, text_cell, and_then, block_at, power}
use Rattle.loop_laws.specs.At.{Variables, value_of, bytes_of, int_read, text_read, with_int, with_text}
use Rattle.loop_laws.specs.Rows.{behind_read}
use Rattle.loop_laws.proofs.Rows.{step_int, step_text}
use Rattle.loop_laws.proofs.Numbered.{with_at_same}
use Rattle.nest_emit.specs.Numbers.{first_free}
use Rattle.nest_emit.specs.Trees.{set, say, compute, computed}
use Rattle.nest_emit.specs.Meets.{DoesAt}
use Rattle.nest_emit.specs.Kin.{Around, Kin, Keeps}
use Rattle.nest_emit.proofs.Runs.{row_gives}
use Rattle.nest_emit.proofs.Kin.{kin_int, kin_text, keeps_int, keeps_text, keeps_then}

-- ---- what right sides read

pub read_atom : (v : Variables) (a : Atom) → int_read v (int.Atom a) ≡ Ok (value_of v a)
unfolding int_value
read_atom v a = refl

pub read_operation : (v : Variables) (a : Atom) (op : Operator) (b : Atom) (z : ℤ) →
    operation op (value_of v a) (value_of v b) ≡ Ok z →
    int_read v (int.Operation a op b) ≡ Ok z
unfolding int_value
read_operation v a op b z e = e

pub read_wrap : (v : Variables) (a : Atom) → int_read v (int.Wrap a) ≡ Ok (wrapped (value_of v a))
unfolding int_value
read_wrap v a = refl

pub read_power : (v : Variables) (a b : Atom) → int_read v (int.Power a b) ≡ power (value_of v a) (value_of v b)
unfolding int_value
read_power v a b = refl

pub read_exclusive : (v : Variables) (a b : Atom) → int_read v (int.Xor a b) ≡ Ok (int_bit_xor w64 (value_of v a) (value_of v b))
unfolding int_value
read_exclusive v a b = refl

pub read_length : (v : Variables) (t : TextAtom) → int_read v (int.Length t) ≡ Ok (pos (length (bytes_of v t)))
unfolding int_value
read_length v t = refl

pub read_compare : (v : Variables) (t u : TextAtom) →
    int_read v (int.Compare t u) ≡ Ok (order_number (compare_padded (bytes_of v t) (bytes_of v u)))
unfolding int_value
read_compare v t u = refl

pub read_int_cell : (v : Variables) (n : ℕ) (a : Atom) →
    int_read v (int.Cell n a) ≡ and_then (ints_at v.blocks (block_at v.int_blocks n)) (λ cells. int_cell cells (value_of v a))
unfolding int_value
read_int_cell v n a = refl

pub read_words : (v : Variables) (t : TextAtom) → text_read v (words.Atom t) ≡ Ok (bytes_of v t)
unfolding text_value
read_words v t = refl

pub read_join : (v : Variables) (t u : TextAtom) → text_read v (words.Join t u) ≡ Ok (bytes_of v t ++ bytes_of v u)
unfolding text_value
read_join v t u = refl

pub read_trim : (v : Variables) (t : TextAtom) → text_read v (words.Trim t) ≡ Ok (trim (bytes_of v t))
unfolding text_value
read_trim v t = refl

pub read_left : (v : Variables) (t : TextAtom) → text_read v (words.Left t) ≡ Ok (adjust_left (bytes_of v t))
unfolding text_value
read_left v t = refl

pub read_right : (v : Variables) (t : TextAtom) → text_read v (words.Right t) ≡ Ok (adjust_right (bytes_of v t))
unfolding text_value
read_right v t = refl

pub read_char : (v : Variables) (a : Atom) → text_read v (words.Char a) ≡ ok_or (char_of (value_of v a)) stuck.NoByte
unfolding text_value
read_char v a = refl

pub read_text_cell : (v : Variables) (n : ℕ) (a : Atom) →
    text_read v (words.Cell n a) ≡ and_then (texts_at v.blocks (block_at v.text_blocks n))
    (λ cells. text_cell cells (value_of v a))
unfolding text_value
read_text_cell v n a = refl

-- ---- operators

pub adds : (x y : ℤ) → operation operator.Add x y ≡ Ok (int_wrap w64 (x +ℤ y))
unfolding operation
adds x y = refl

pub subtracts : (x y : ℤ) → operation operator.Subtract x y ≡ Ok (int_wrap w64 (x -ℤ y))
unfolding operation
subtracts x y = refl

pub multiplies : (x y : ℤ) → operation operator.Multiply x y ≡ Ok (int_wrap w64 (x *ℤ y))
unfolding operation
multiplies x y = refl

pub is_less : (x y : ℤ) → operation operator.Less x y ≡ Ok (truth (int_lt x y))
unfolding operation
is_less x y = refl

pub is_at_most : (x y : ℤ) → operation operator.LessEqual x y ≡ Ok (truth (int_le x y))
unfolding operation
is_at_most x y = refl

pub is_equal : (x y : ℤ) → operation operator.Equal x y ≡ Ok (truth (int_eq x y))
unfolding operation
is_equal x y = refl

pub is_unequal : (x y : ℤ) → operation operator.NotEqual x y ≡ Ok (truth (not (int_eq x y)))
unfolding operation
is_unequal x y = refl

pub divides : (x y : ℤ) → int_eq y (pos 0) ≡ false → operation operator.Divide x y ≡ Ok (int_wrap w64 (int_div x y))
unfolding operation
divides x y h = rw h refl

pub remains : (x y : ℤ) → int_eq y (pos 0) ≡ false → operation operator.Remainder x y ≡ Ok (int_rem x y)
unfolding operation
remains x y h = rw h refl

pub both_bits : (x y : ℤ) → operation operator.And x y ≡ Ok (int_bit_and w64 x y)
unfolding operation
both_bits x y = refl

pub either_bit : (x y : ℤ) → operation operator.Or x y ≡ Ok (int_bit_or w64 x y)
unfolding operation
either_bit x y = refl

-- ---- rows

module _ {functions : List Function} {limit : ℕ} {q : Procedure} {around : Around} {n : NestState} {braces : List Brace}
    {r : Ran Halt NestState (Unit {0})} (t : ℕ) (w : Variables) (more : List Stmt) (lines : List CodeLine)
    (free : first_free q ≤ t)
    (kin : Kin q around n w) where
  pub set_does : (x : IntValue) (z : ℤ) → behind_read w x ≡ w → int_read w x ≡ Ok z →
      ((u : Variables) → Kin q around n u → Keeps t w u → number_at u.ints t ≡ z →
      DoesAt functions limit n u (flats more ++ lines) braces r) →
      DoesAt functions limit n w (flats (set t x ∷ more) ++ lines) braces r
  set_does x z same read next =
      row_gives (step_int t x) more lines read
      (subst (λ (u : Variables). DoesAt functions limit n (with_int u t z) (flats more ++ lines) braces r) (sym same)
      (next (with_int w t z) (kin_int t z (omega (arith, free)) kin) (keeps_int t w z) (with_at_same (pos 0) w.ints t z)))

  pub say_does : (x : TextValue) (bytes : List ℕ) → text_read w x ≡ Ok bytes →
      ((u : Variables) → Kin q around n u → Keeps t w u → text_at u.texts t ≡ bytes →
      DoesAt functions limit n u (flats more ++ lines) braces r) →
      DoesAt functions limit n w (flats (say t x ∷ more) ++ lines) braces r
  say_does x bytes read next =
      row_gives (step_text t x) more lines read
      (next (with_text w t bytes) (kin_text t bytes free kin) (keeps_text t w bytes) (with_at_same [] w.texts t bytes))

  pub compute_does : (a : Atom) (op : Operator) (b : Atom) (z : ℤ) → operation op (value_of w a) (value_of w b) ≡ Ok z →
      ((u : Variables) → Kin q around n u → Keeps t w u → number_at u.ints t ≡ z →
      DoesAt functions limit n u (flats more ++ lines) braces r) →
      DoesAt functions limit n w (flats (compute t a op b ∷ more) ++ lines) braces r
  compute_does a op b z e next = set_does (int.Operation a op b) z refl (read_operation w a op b z e) next

-- an INTEGER, of what an operator gives in 64 bits
pub computed_does : {functions : List Function} {limit : ℕ} {q : Procedure} {around : Around} {n : NestState} {braces : List Brace}
    {r : Ran Halt NestState (Unit {0})} (t : ℕ) (w : Variables) (lines : List CodeLine) (free : first_free q ≤ t)
    (kin : Kin q around n w) (a : Atom) (op : Operator) (b : Atom) (z : ℤ) → operation op (value_of w a) (value_of w b) ≡ Ok z →
    ((u : Variables) → Kin q around n u → Keeps t w u → number_at u.ints t ≡ wrapped z →
    DoesAt functions limit n u lines braces r) →
    DoesAt functions limit n w (flats (computed t a op b) ++ lines) braces r
computed_does t w lines free kin a op b z e next =
    compute_does t w (set t (int.Wrap (atom.Int t)) ∷ []) lines free kin a op b z e (λ u k keep is.
    set_does t u [] lines free k (int.Wrap (atom.Int t)) (wrapped z) refl (read_wrap u (atom.Int t) ∙ ap (λ y. Ok (wrapped y)) is)
    (λ u' k' keep' is'. next u' k' (keeps_then keep keep') is'))
