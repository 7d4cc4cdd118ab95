-- The rows of an operator with two operands leave its value, or its fault.
use Rattle.std.proofs.Common.{◌≡◌, ℕ, suc, ◌^◌, ◌≤◌, arith, Bool, true, false, not, ◌&&◌, ◌||◌, List, [], ◌∷◌, ◌++◌, Option, Some, None, refl, sym, ap, ◌∙◌, ℤ, pos}
use Rattle.std.specs.Prelude.{FitsSigned, Result, Ok, Err, negsuc, ◌+ℤ◌, ◌-ℤ◌, ◌*ℤ◌, int_lt, int_div, int_rem}
use Rattle.std.specs.Int.{w32, w64, int_wrap, int_pow}
use Rattle.std.proofs.Math.Nat.{pow-suc, mul-zero}
use Rattle.std.proofs.lemmas.Bool.Decides.{Decides-int_eq}
use Rattle.std.specs.Ordering.{int_eq, int_cmp}
use Rattle.a95_base.specs.declared.fault.FaultKind.{FaultKind}
use Rattle.a95_base.specs.declared.fault.FaultKind.TheVariants as fault
use Rattle.a95_base.specs.declared.scalar.Scalar.{Scalar}
use Rattle.a95_base.specs.declared.scalar.Scalar.TheVariants as scalar
use Rattle.a95_base.specs.Integer.{wrapped, raised, quotient_of, power_of}
use Rattle.a95_base.specs.Text.{compare_padded}
use Rattle.a95_base.specs.Steps.{behind, ◌>>=◌}
use Rattle.a95_base.proofs.Wrapping.{wrapped-int_wrap}
use Rattle.std.proofs.lemmas.Bool.{and_parts, not-true, not-false}
use Rattle.nest_tree.proofs.Sorts.{sort_if_some}
use Rattle.f95_unit.specs.declared.operation.BinaryOp.{BinaryOp}
use Rattle.f95_unit.specs.declared.operation.BinaryOp.TheVariants as binary
use Rattle.array_meaning.specs.Values.{integer_of, truth_of, text_of}
use Rattle.array_meaning.specs.Scalars.{binary_of, compared, integer_or, is_equivalent}
use Rattle.array_meaning.specs.State as source
use Rattle.nest_tree.specs.declared.unit.Sort.{Sort}
use Rattle.nest_tree.specs.declared.unit.Sort.TheVariants as sort
use Rattle.nest_tree.specs.Plain.{Procedure}
use Rattle.nest_tree.specs.State.{NestState, By, Step, given}
use Rattle.nest_tree.specs.Sound.{some_serves, both_serve, sort_if, are_compared, binary_sort}
use Rattle.loop_tree.specs.declared.atom.Atom.{Atom}
use Rattle.loop_tree.specs.declared.atom.Atom.TheVariants as atom
use Rattle.loop_tree.specs.declared.atom.TextAtom.{TextAtom}
use Rattle.loop_tree.specs.declared.atom.Operator.{Operator}
use Rattle.loop_tree.specs.declared.atom.Operator.TheVariants as operator
use Rattle.loop_tree.specs.declared.row.IntValue.TheVariants as int
use Rattle.loop_tree.specs.declared.row.TextValue.TheVariants as words
use Rattle.loop_tree.specs.declared.tree.CodeLine.{CodeLine}
use Rattle.loop_tree.specs.declared.tree.CodeLine.TheVariants as code
use Rattle.loop_tree.specs.declared.tree.Stmt.TheVariants as stmt
use Rattle.loop_tree.specs.declared.tree.Function.{Function}
use Rattle.loop_tree.specs.Lines.{flats}
use Rattle.loop_tree.specs.State.{Brace, Choice}
use Rattle.loop_tree.specs.Values.{number_at, text_at, truth, holds, operation, order_number, power, power_of as power_row}
use Rattle.loop_laws.proofs.Within.{truth_holds}
use Rattle.loop_laws.specs.At.{Variables, value_of, bytes_of}
use Rattle.nest_emit.specs.Numbers.{first_free}
use Rattle.nest_emit.specs.Trees.{set, compute, computed, inverse_lines, power_lines, unless_fault, compare_line, compared_lines, binary_lines}
use Rattle.nest_emit.specs.Meets.{DoesAt}
use Rattle.nest_emit.specs.Kin.{Around, Kin, Keeps, Shows}
use Rattle.nest_emit.proofs.Runs.{told, guard_does, either_does, behind_else, behind_close}
use Rattle.nest_emit.proofs.Integers.{inverse_odd, inverse_even, square_wide, square_some, negative_is, natural_is, is_odd, is_even}
use Rattle.nest_emit.proofs.Values.{int_shown, int_fits, truth_shown, text_shown}
use Rattle.nest_emit.proofs.Rows.{read_atom, read_power, read_compare, read_join, adds, subtracts, multiplies, divides, remains, is_less, set_does, say_does, compute_does, computed_does}
use Rattle.nest_emit.proofs.Kin.{keeps_then, keeps_less}
use Rattle.nest_emit.proofs.Comparisons.{order_test, order_of_number}
use Rattle.nest_emit.proofs.Operators.{compare_does, int_there}

-- ---- values

and_rows : (a b : Bool) → operation operator.And (truth a) (truth b) ≡ Ok (truth (a && b))
unfolding operation
and_rows true true = refl
and_rows true false = refl
and_rows false true = refl
and_rows false false = refl

pub or_rows : (a b : Bool) → operation operator.Or (truth a) (truth b) ≡ Ok (truth (a || b))
unfolding operation
or_rows true true = refl
or_rows true false = refl
or_rows false true = refl
or_rows false false = refl

same_truth : (a b : Bool) → operation operator.Equal (truth a) (truth b) ≡ Ok (truth (is_equivalent a b))
unfolding operation
same_truth true true = refl
same_truth true false = refl
same_truth false true = refl
same_truth false false = refl

other_truth : (a b : Bool) → operation operator.NotEqual (truth a) (truth b) ≡ Ok (truth (not (is_equivalent a b)))
unfolding operation
other_truth true true = refl
other_truth true false = refl
other_truth false true = refl
other_truth false false = refl

pub by_truths : (op : Operator) (x y : ℤ) (a b c : Bool) → x ≡ truth a → y ≡ truth b →
    operation op (truth a) (truth b) ≡ Ok (truth c) →
    operation op x y ≡ Ok (truth c)
by_truths op x y a b c e f h = ap (λ z. operation op z y) e ∙ ap (λ z. operation op (truth a) z) f ∙ h

no_quotient : (x y : ℤ) → int_eq y (pos 0) ≡ true → integer_or fault.ZeroDivide (quotient_of x y) ≡ Err fault.ZeroDivide
no_quotient x y h = rw h refl

some_quotient : (x y : ℤ) → int_eq y (pos 0) ≡ false →
    integer_or fault.ZeroDivide (quotient_of x y) ≡ Ok (scalar.Int (wrapped (int_div x y)))
some_quotient x y h = rw h refl

pub fault_given : (line : ℕ) (kind : FaultKind) (r : Result Scalar FaultKind) (go : Scalar → Step (Unit {0})) (n : NestState) →
    r ≡ Err kind →
    (given line r >>= go) n ≡ record { came = Err (By (source.Faults kind line)); after = n }
unfolding given ◌>>=◌ behind
fault_given line kind r go n e = rw e refl

pub value_given : (line : ℕ) (a : Scalar) (r : Result Scalar FaultKind) (go : Scalar → Step (Unit {0})) (n : NestState) →
    r ≡ Ok a →
    (given line r >>= go) n ≡ go a n
unfolding given ◌>>=◌ behind
value_given line a r go n e = rw e refl

-- no number is one divided by 0
no_inverse : (i : ℤ) (m : ℕ) → int_eq i (pos 0) ≡ true → (j : ℤ) → j ≡ negsuc m →
    integer_or fault.ZeroDivide (power_of i j) ≡ Err fault.ZeroDivide
no_inverse i m e j is =
    let zero : i ≡ pos 0 = (Decides-int_eq i (pos 0)).0 e in
    let none : 0 ^ suc m ≡ 0 = pow-suc 0 m ∙ mul-zero (0 ^ m) in
    ap (λ z. integer_or fault.ZeroDivide (power_of i z)) is ∙ ap (λ z. integer_or fault.ZeroDivide (power_of z (negsuc m))) zero
    ∙ ap (λ k. integer_or fault.ZeroDivide (quotient_of (pos 1) (pos k))) none

natural_power : (i j : ℤ) (m : ℕ) → j ≡ pos m → (k l : ℤ) → k ≡ i → l ≡ j → wrapped i ≡ i → wrapped j ≡ j →
    power k l ≡ Ok (raised i m)
natural_power i j m is k l base exponent fits other =
    ap (λ z. power z l) base ∙ ap (λ z. power i z) exponent ∙ ap (λ z. power_row z (wrapped j)) fits ∙ ap (λ z. power_row i z) (other ∙ is)

-- ---- sorts

-- what is compared: texts or integers
abbrev pub comparable : Bool → Sort
comparable true = sort.Text
comparable false = sort.Int

abbrev pub asks : BinaryOp → Bool → Sort
asks binary.Concat texts = sort.Text
asks binary.Equal texts = comparable texts
asks binary.NotEqual texts = comparable texts
asks binary.Less texts = comparable texts
asks binary.LessEqual texts = comparable texts
asks binary.Greater texts = comparable texts
asks binary.GreaterEqual texts = comparable texts
asks binary.And texts = sort.Log
asks binary.Or texts = sort.Log
asks binary.Equivalent texts = sort.Log
asks binary.NotEquivalent texts = sort.Log
asks op texts = sort.Int

abbrev pub yields : BinaryOp → Sort
yields binary.Concat = sort.Text
yields binary.Equal = sort.Log
yields binary.NotEqual = sort.Log
yields binary.Less = sort.Log
yields binary.LessEqual = sort.Log
yields binary.Greater = sort.Log
yields binary.GreaterEqual = sort.Log
yields binary.And = sort.Log
yields binary.Or = sort.Log
yields binary.Equivalent = sort.Log
yields binary.NotEquivalent = sort.Log
yields op = sort.Int

abbrev pub Fitting : Option Sort → Option Sort → Sort → Sort → Sort → Type 0
Fitting o p asked given s = (some_serves o asked ≡ true) × (some_serves p asked ≡ true) × (given ≡ s)

fitting : (o p : Option Sort) (asked given s : Sort) → sort_if (both_serve o p asked) given ≡ Some s → Fitting o p asked given s
fitting o p asked given s h =
    let is = sort_if_some (both_serve o p asked) given s h in
    let two = and_parts (some_serves o asked) (some_serves p asked) is.0 in
    (two.0, two.1, is.1)

or_false : (a : Bool) → (a || false) ≡ true → a ≡ true
or_false true h = refl
or_false false h = cc

compared_fits : (o p : Option Sort) → are_compared o p ≡ true →
    (some_serves o (comparable (some_serves o sort.Text)) ≡ true) × (some_serves p (comparable (some_serves o sort.Text)) ≡ true)
compared_fits None p h = cc
compared_fits (Some sort.Exact) p h = cc
compared_fits (Some sort.Int) p h = (refl, or_false (some_serves p sort.Int) h)
compared_fits (Some sort.Log) p h = cc
compared_fits (Some sort.Text) p h = (refl, h)

comparing : (o p : Option Sort) (s : Sort) → sort_if (are_compared o p) sort.Log ≡ Some s →
    Fitting o p (comparable (some_serves o sort.Text)) sort.Log s
comparing o p s h =
    let is = sort_if_some (are_compared o p) sort.Log s h in
    let two = compared_fits o p is.0 in
    (two.0, two.1, is.1)

pub binary_fits : (op : BinaryOp) (o p : Option Sort) (s : Sort) → binary_sort op o p ≡ Some s →
    Fitting o p (asks op (some_serves o sort.Text)) (yields op) s
binary_fits binary.Concat o p s h = fitting o p sort.Text sort.Text s h
binary_fits binary.Equal o p s h = comparing o p s h
binary_fits binary.NotEqual o p s h = comparing o p s h
binary_fits binary.Less o p s h = comparing o p s h
binary_fits binary.LessEqual o p s h = comparing o p s h
binary_fits binary.Greater o p s h = comparing o p s h
binary_fits binary.GreaterEqual o p s h = comparing o p s h
binary_fits binary.And o p s h = fitting o p sort.Log sort.Log s h
binary_fits binary.Or o p s h = fitting o p sort.Log sort.Log s h
binary_fits binary.Equivalent o p s h = fitting o p sort.Log sort.Log s h
binary_fits binary.NotEquivalent o p s h = fitting o p sort.Log sort.Log s h
binary_fits op o p s h = fitting o p sort.Int sort.Int s h

-- ---- a negative exponent

module _ {functions : List Function} {limit : ℕ} {q : Procedure} {around : Around} {n : NestState} (t : ℕ)
    (free : first_free q ≤ t) (line : ℕ) (x y : Scalar) (go : Scalar → Step (Unit {0})) where
  -- one divided by the base or by its square, in variable test
  over_does : (test : ℕ) (u : Variables) (rest : List CodeLine) (inner : List Brace) → Kin q around n u → (i j : ℤ) →
      number_at u.ints test ≡ i → int_eq i (pos 0) ≡ false →
      power_of (integer_of x) (integer_of y) ≡ Some (wrapped (int_div (pos 1) i)) →
      ((v : Variables) (z : Scalar) → Kin q around n v → Keeps t u v → Shows sort.Int (number_at v.ints t) (text_at v.texts t) z →
      DoesAt functions limit n v rest inner (go z n)) →
      DoesAt functions limit n u (flats (computed t (atom.Number (pos 1)) operator.Divide (atom.Int test)) ++ rest) inner
      ((given line (binary_of binary.Power x y) >>= go) n)
  over_does test u rest inner k i j value some is next =
      computed_does t u rest free k (atom.Number (pos 1)) operator.Divide (atom.Int test) _
      (divides (pos 1) (number_at u.ints test) (ap (λ z. int_eq z (pos 0)) value ∙ some)) (λ v k' keep there.
      told (value_given line (scalar.Int (wrapped (int_div (pos 1) i))) (binary_of binary.Power x y) go n
      (ap (integer_or fault.ZeroDivide) is))
      (next v (scalar.Int (wrapped (int_div (pos 1) i))) k' keep
      (int_there (number_at v.ints t) (int_div (pos 1) i) (text_at v.texts t)
      (there ∙ wrapped-int_wrap (int_div (pos 1) (number_at u.ints test)) ∙ ap (λ z. wrapped (int_div (pos 1) z)) value))))

  -- a base that is not 0, by a negative exponent
  inverse_does : (a b : Atom) (m : ℕ) (u : Variables) (rest : List CodeLine) (inner : List Brace) → Kin q around n u → (test : ℕ) → t ≤ test →
      FitsSigned w32 (integer_of x) → integer_of y ≡ negsuc m → int_eq (integer_of x) (pos 0) ≡ false →
      ((v : Variables) → Keeps test u v → value_of v a ≡ integer_of x) → value_of u b ≡ integer_of y →
      ((v : Variables) (z : Scalar) → Kin q around n v → Keeps t u v → Shows sort.Int (number_at v.ints t) (text_at v.texts t) z →
      DoesAt functions limit n v rest inner (go z n)) →
      DoesAt functions limit n u (flats (compute test b operator.Remainder (atom.Number (pos 2))
      ∷ stmt.IfElse (atom.Int test) (set test (int.Atom a) ∷ []) (compute test a operator.Multiply a ∷ [])
      ∷ computed t (atom.Number (pos 1)) operator.Divide (atom.Int test)) ++ rest) inner
      ((given line (binary_of binary.Power x y) >>= go) n)
  inverse_does a b m u rest inner k test behind fits below some base exponent next =
      let i = integer_of x in
      let further : first_free q ≤ test = omega (arith, free, behind) in
      let first = set test (int.Atom a) ∷ [] in
      let second = compute test a operator.Multiply a ∷ [] in
      let last = computed t (atom.Number (pos 1)) operator.Divide (atom.Int test) in
      compute_does test u (stmt.IfElse (atom.Int test) first second ∷ last) rest further k b operator.Remainder (atom.Number (pos 2))
      _ (remains (value_of u b) (pos 2) refl) (λ v k' keep there.
      let parity : number_at v.ints test ≡ int_rem (negsuc m) (pos 2) = there ∙ ap (λ z. int_rem z (pos 2)) (exponent ∙ below) in
      either_does (atom.Int test) first second last rest
      (λ h. set_does test v [] (code.Else ∷ (flats second ++ code.Close ∷ (flats last ++ rest))) further k' (int.Atom a)
      (value_of v a) refl (read_atom v a) (λ v' k'' keep' is.
      behind_else second (flats last ++ rest)
      (over_does test v' rest inner k'' i (integer_of y) (is ∙ base v keep) some
      (ap (power_of i) below ∙ inverse_odd i m some (is_odd m (ap holds (sym parity) ∙ h)))
      (λ v'' z k''' keep'' sh. next v'' z k''' (keeps_then (keeps_less behind (keeps_then keep keep')) keep'') sh))))
      (λ h. compute_does test v [] (code.Close ∷ (flats last ++ rest)) further k' a operator.Multiply a _
      (multiplies (value_of v a) (value_of v a)) (λ v' k'' keep' is.
      behind_close (flats last ++ rest)
      (over_does test v' rest inner k'' (i *ℤ i) (integer_of y)
      (is ∙ ap (λ z. int_wrap w64 (z *ℤ z)) (base v keep) ∙ square_wide i fits) (square_some i some)
      (ap (power_of i) below ∙ inverse_even i m some (is_even m (ap holds (sym parity) ∙ h)))
      (λ v'' z k''' keep'' sh. next v'' z k''' (keeps_then (keeps_less behind (keeps_then keep keep')) keep'') sh)))))

-- ---- two operands that stand in atoms

module _ {functions : List Function} {limit : ℕ} {q : Procedure} {around : Around} {n : NestState} {braces : List Brace}
    (t : ℕ) (w : Variables) (lines : List CodeLine) (free : first_free q ≤ t) (kin : Kin q around n w) (line : ℕ)
    (at_line : w.line ≡ line)
    (a b : Atom) (c d : TextAtom) (x y : Scalar) (go : Scalar → Step (Unit {0})) where
  -- an INTEGER of two
  computes : (op : BinaryOp) (row_op : Operator) (f : ℤ → ℤ → ℤ) →
      ((i j : ℤ) → operation row_op i j ≡ Ok (int_wrap w64 (f i j))) →
      binary_of op x y ≡ Ok (scalar.Int (wrapped (f (integer_of x) (integer_of y)))) →
      Shows sort.Int (value_of w a) (bytes_of w c) x → Shows sort.Int (value_of w b) (bytes_of w d) y →
      ((u : Variables) (z : Scalar) → Kin q around n u → Keeps t w u → Shows sort.Int (number_at u.ints t) (text_at u.texts t) z →
      DoesAt functions limit n u lines braces (go z n)) →
      DoesAt functions limit n w (flats (computed t a row_op b) ++ lines) braces ((given line (binary_of op x y) >>= go) n)
  computes op row_op f does is left right next =
      computed_does t w lines free kin a row_op b _ (does (value_of w a) (value_of w b)) (λ u k keep there.
      told (value_given line (scalar.Int (wrapped (f (integer_of x) (integer_of y)))) (binary_of op x y) go n is)
      (next u (scalar.Int (wrapped (f (integer_of x) (integer_of y)))) k keep
      (int_there (number_at u.ints t) (f (integer_of x) (integer_of y)) (text_at u.texts t)
      (there ∙ wrapped-int_wrap (f (value_of w a) (value_of w b))
      ∙ ap (λ i. wrapped (f i (value_of w b))) (int_shown left) ∙ ap (λ j. wrapped (f (integer_of x) j)) (int_shown right)))))

  -- a truth of two
  decides : (op : BinaryOp) (row_op : Operator) (truth_value : Bool) →
      operation row_op (truth (truth_of x)) (truth (truth_of y)) ≡ Ok (truth truth_value) →
      binary_of op x y ≡ Ok (scalar.Log truth_value) →
      Shows sort.Log (value_of w a) (bytes_of w c) x → Shows sort.Log (value_of w b) (bytes_of w d) y →
      ((u : Variables) (z : Scalar) → Kin q around n u → Keeps t w u → Shows sort.Log (number_at u.ints t) (text_at u.texts t) z →
      DoesAt functions limit n u lines braces (go z n)) →
      DoesAt functions limit n w (flats (compute t a row_op b ∷ []) ++ lines) braces ((given line (binary_of op x y) >>= go) n)
  decides op row_op truth_value does is left right next =
      compute_does t w [] lines free kin a row_op b (truth truth_value)
      (by_truths row_op (value_of w a) (value_of w b) (truth_of x) (truth_of y) truth_value (truth_shown left)
      (truth_shown right) does)
      (λ u k keep there. told (value_given line (scalar.Log truth_value) (binary_of op x y) go n is)
      (next u (scalar.Log truth_value) k keep (record { of = refl; value = there })))

  compares : (op : BinaryOp) (texts : Bool) → binary_of op x y ≡ Ok (scalar.Log (order_test op (compared x y))) →
      Shows (comparable texts) (value_of w a) (bytes_of w c) x → Shows (comparable texts) (value_of w b) (bytes_of w d) y →
      ((u : Variables) (z : Scalar) → Kin q around n u → Keeps t w u → Shows sort.Log (number_at u.ints t) (text_at u.texts t) z →
      DoesAt functions limit n u lines braces (go z n)) →
      DoesAt functions limit n w (flats (compared_lines texts op t a b c d) ++ lines) braces
      ((given line (binary_of op x y) >>= go) n)
  compares op false is left right next =
      let same : int_cmp (value_of w a) (value_of w b) ≡ compared x y =
      ap (λ i. int_cmp i (value_of w b)) (int_shown left) ∙ ap (λ j. int_cmp (integer_of x) j) (int_shown right)
      ∙ ap (λ z. compared (scalar.Int (integer_of x)) z) (sym right.of.0) ∙ ap (λ z. compared z y) (sym left.of.0) in
      compare_does t w lines free kin op a b (λ u k keep there.
      told (value_given line (scalar.Log (order_test op (compared x y))) (binary_of op x y) go n is)
      (next u (scalar.Log (order_test op (compared x y))) k keep
      (record { of = refl; value = there ∙ ap (λ o. truth (order_test op o)) same })))
  compares op true is left right next =
      let o = compare_padded (bytes_of w c) (bytes_of w d) in
      let same : o ≡ compared x y =
      ap (λ i. compare_padded i (bytes_of w d)) (text_shown left) ∙ ap (λ j. compare_padded (text_of x) j) (text_shown right)
      ∙ ap (λ z. compared (scalar.Text (text_of x)) z) (sym right.of) ∙ ap (λ z. compared z y) (sym left.of) in
      set_does t w (compare_line op t (atom.Int t) (atom.Number (pos 0)) ∷ []) lines free kin (int.Compare c d)
      (order_number o) refl
      (read_compare w c d) (λ u k keep there.
      compare_does t u lines free k op (atom.Int t) (atom.Number (pos 0)) (λ u' k' keep' there'.
      told (value_given line (scalar.Log (order_test op (compared x y))) (binary_of op x y) go n is)
      (next u' (scalar.Log (order_test op (compared x y))) k' (keeps_then keep keep')
      (record {
        of = refl;
        value = there' ∙ ap (λ i. truth (order_test op (int_cmp i (pos 0)))) there
            ∙ ap (λ p. truth (order_test op p)) (order_of_number o ∙ same);
      }))))

  divided : Shows sort.Int (value_of w a) (bytes_of w c) x → Shows sort.Int (value_of w b) (bytes_of w d) y →
      ((u : Variables) (z : Scalar) → Kin q around n u → Keeps t w u → Shows sort.Int (number_at u.ints t) (text_at u.texts t) z →
      DoesAt functions limit n u lines braces (go z n)) →
      DoesAt functions limit n w (flats (unless_fault b fault.ZeroDivide ∷ computed t a operator.Divide b) ++ lines) braces
      ((given line (binary_of binary.Divide x y) >>= go) n)
  divided left right next =
      guard_does line fault.ZeroDivide n ((given line (binary_of binary.Divide x y) >>= go) n) b
      (computed t a operator.Divide b) lines at_line
      (λ h. let some : int_eq (value_of w b) (pos 0) ≡ false = not-true (int_eq (value_of w b) (pos 0)) h in
      let other : int_eq (integer_of y) (pos 0) ≡ false = ap (λ j. int_eq j (pos 0)) (sym (int_shown right)) ∙ some in
      let value = int_div (integer_of x) (integer_of y) in
      computed_does t w lines free kin a operator.Divide b _ (divides (value_of w a) (value_of w b) some) (λ u k keep there.
      told (value_given line (scalar.Int (wrapped value)) (binary_of binary.Divide x y) go n
      (some_quotient (integer_of x) (integer_of y) other))
      (next u (scalar.Int (wrapped value)) k keep
      (int_there (number_at u.ints t) value (text_at u.texts t) (there ∙ wrapped-int_wrap (int_div (value_of w a) (value_of w b))
      ∙ ap (λ i. wrapped (int_div i (value_of w b))) (int_shown left)
      ∙ ap (λ j. wrapped (int_div (integer_of x) j)) (int_shown right))))))
      (λ h. fault_given line fault.ZeroDivide (binary_of binary.Divide x y) go n (no_quotient (integer_of x) (integer_of y)
      (ap (λ j. int_eq j (pos 0)) (sym (int_shown right)) ∙ not-false (int_eq (value_of w b) (pos 0)) h)))

  power_does : Shows sort.Int (value_of w a) (bytes_of w c) x → Shows sort.Int (value_of w b) (bytes_of w d) y →
      ((u : Variables) → Keeps (suc (suc t)) w u → value_of u a ≡ value_of w a) →
      ((u : Variables) → Keeps (suc (suc t)) w u → value_of u b ≡ value_of w b) →
      ((u : Variables) (z : Scalar) → Kin q around n u → Keeps t w u → Shows sort.Int (number_at u.ints t) (text_at u.texts t) z →
      DoesAt functions limit n u lines braces (go z n)) →
      DoesAt functions limit n w (flats (power_lines t (suc (suc t)) a b) ++ lines) braces
      ((given line (binary_of binary.Power x y) >>= go) n)
  power_does left right still calm next =
      let test = suc (suc t) in
      let i = integer_of x in
      let j = integer_of y in
      let behind : t ≤ test = omega arith in
      let further : first_free q ≤ test = omega (arith, free) in
      let rest = flats (set t (int.Power a b) ∷ []) ++ code.Close ∷ lines in
      let result = binary_of binary.Power x y in
      compute_does test w (stmt.IfElse (atom.Int test) (inverse_lines t test a b) (set t (int.Power a b) ∷ []) ∷ []) lines further kin
      b operator.Less (atom.Number (pos 0)) _ (is_less (value_of w b) (pos 0)) (λ u k keep there.
      let tested : number_at u.ints test ≡ truth (int_lt j (pos 0)) = there ∙ ap (λ z. truth (int_lt z (pos 0))) (int_shown right) in
      let known : (e : Bool) → holds (number_at u.ints test) ≡ e → int_lt j (pos 0) ≡ e =
      λ e h. sym (truth_holds (int_lt j (pos 0))) ∙ ap holds (sym tested) ∙ h in
      let base : value_of u a ≡ i = still u keep ∙ int_shown left in
      let exponent : value_of u b ≡ j = calm u keep ∙ int_shown right in
      either_does (atom.Int test) (inverse_lines t test a b) (set t (int.Power a b) ∷ []) [] lines
      (λ h. let m = negative_is j (known true h) in
      guard_does line fault.ZeroDivide n ((given line result >>= go) n) a
      (compute test b operator.Remainder (atom.Number (pos 2))
      ∷ stmt.IfElse (atom.Int test) (set test (int.Atom a) ∷ []) (compute test a operator.Multiply a ∷ [])
      ∷ computed t (atom.Number (pos 1)) operator.Divide (atom.Int test)) (code.Else ∷ rest) (keep.line ∙ at_line)
      (λ h'. inverse_does t free line x y go a b m.0 u (code.Else ∷ rest) (Choice ∷ braces) k test behind (int_fits left) m.1
      (ap (λ z. int_eq z (pos 0)) (sym base) ∙ not-true (int_eq (value_of u a) (pos 0)) h')
      (λ v keep'. still v (keeps_then keep keep') ∙ int_shown left) exponent (λ v z k' keep' sh.
      behind_else (set t (int.Power a b) ∷ []) lines (next v z k' (keeps_then (keeps_less behind keep) keep') sh)))
      (λ h'. fault_given line fault.ZeroDivide result go n
      (no_inverse i m.0 (ap (λ z. int_eq z (pos 0)) (sym base) ∙ not-false (int_eq (value_of u a) (pos 0)) h') j m.1)))
      (λ h. let m = natural_is j (known false h) in
      set_does t u [] (code.Close ∷ lines) free k (int.Power a b) (raised i m.0) refl
      (read_power u a b ∙ natural_power i j m.0 m.1 (value_of u a) (value_of u b) base exponent left.of.1 right.of.1)
      (λ v k' keep' is.
      behind_close lines
      (told (value_given line (scalar.Int (raised i m.0)) result go n (ap (λ z. integer_or fault.ZeroDivide (power_of i z)) m.1))
      (next v (scalar.Int (raised i m.0)) k' (keeps_then (keeps_less behind keep) keep')
      (int_there (number_at v.ints t) (int_pow i m.0) (text_at v.texts t) is))))))

  pub binary_does : ((u : Variables) → Keeps (suc (suc t)) w u → value_of u a ≡ value_of w a) →
      ((u : Variables) → Keeps (suc (suc t)) w u → value_of u b ≡ value_of w b) → (op : BinaryOp) (texts : Bool) →
      Shows (asks op texts) (value_of w a) (bytes_of w c) x → Shows (asks op texts) (value_of w b) (bytes_of w d) y →
      ((u : Variables) (z : Scalar) → Kin q around n u → Keeps t w u →
      Shows (yields op) (number_at u.ints t) (text_at u.texts t) z →
      DoesAt functions limit n u lines braces (go z n)) →
      DoesAt functions limit n w (flats (binary_lines texts op t a b c d) ++ lines) braces
      ((given line (binary_of op x y) >>= go) n)
  binary_does still calm binary.Power texts left right next = power_does left right still calm next
  binary_does still calm binary.Multiply texts left right next = computes binary.Multiply operator.Multiply
      (λ i j. i *ℤ j) multiplies refl left right next
  binary_does still calm binary.Divide texts left right next = divided left right next
  binary_does still calm binary.Add texts left right next = computes binary.Add operator.Add (λ i j. i +ℤ j) adds refl left right next
  binary_does still calm binary.Subtract texts left right next = computes binary.Subtract operator.Subtract
      (λ i j. i -ℤ j) subtracts refl left right next
  binary_does still calm binary.Concat texts left right next =
      say_does t w [] lines free kin (words.Join c d) (bytes_of w c ++ bytes_of w d) (read_join w c d) (λ u k keep there.
      told (value_given line (scalar.Text (text_of x ++ text_of y)) (binary_of binary.Concat x y) go n refl)
      (next u (scalar.Text (text_of x ++ text_of y)) k keep (record {
        of = refl;
        value = there ∙ ap (λ i. i ++ bytes_of w d) (text_shown left) ∙ ap (λ j. text_of x ++ j) (text_shown right);
      })))
  binary_does still calm binary.Equal texts left right next = compares binary.Equal texts refl left right next
  binary_does still calm binary.NotEqual texts left right next = compares binary.NotEqual texts refl left right next
  binary_does still calm binary.Less texts left right next = compares binary.Less texts refl left right next
  binary_does still calm binary.LessEqual texts left right next = compares binary.LessEqual texts refl left right next
  binary_does still calm binary.Greater texts left right next = compares binary.Greater texts refl left right next
  binary_does still calm binary.GreaterEqual texts left right next = compares binary.GreaterEqual texts refl left right next
  binary_does still calm binary.And texts left right next =
      decides binary.And operator.And (truth_of x && truth_of y) (and_rows (truth_of x) (truth_of y)) refl left right next
  binary_does still calm binary.Or texts left right next =
      decides binary.Or operator.Or (truth_of x || truth_of y) (or_rows (truth_of x) (truth_of y)) refl left right next
  binary_does still calm binary.Equivalent texts left right next =
      decides binary.Equivalent operator.Equal (is_equivalent (truth_of x) (truth_of y))
      (same_truth (truth_of x) (truth_of y)) refl left right next
  binary_does still calm binary.NotEquivalent texts left right next =
      decides binary.NotEquivalent operator.NotEqual (not (is_equivalent (truth_of x) (truth_of y)))
      (other_truth (truth_of x) (truth_of y)) refl left right next
