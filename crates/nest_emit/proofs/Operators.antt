-- The rows of an operator leave its value.
use Rattle.std.proofs.Common.{◌≡◌, ℕ, ◌≤◌, Bool, true, false, not, List, [], ◌∷◌, ◌++◌, Option, Some, refl, sym, ap, ◌∙◌, arith, ℤ, pos}
use Rattle.std.specs.Prelude.{neg_ℤ, ◌-ℤ◌}
use Rattle.std.specs.Ordering.{int_eq, int_cmp}
use Rattle.std.proofs.lemmas.Int.{ints}
use Rattle.a95_base.specs.declared.scalar.Scalar.{Scalar}
use Rattle.a95_base.specs.declared.scalar.Scalar.TheVariants as scalar
use Rattle.a95_base.specs.Integer.{wrapped}
use Rattle.a95_base.specs.Steps.{Ran}
use Rattle.a95_base.proofs.Wrapping.{wrapped-int_wrap, wrapped-wrapped}
use Rattle.nest_tree.proofs.Sorts.{sort_if_some}
use Rattle.f95_unit.specs.declared.operation.UnaryOp.{UnaryOp}
use Rattle.f95_unit.specs.declared.operation.UnaryOp.TheVariants as unary
use Rattle.f95_unit.specs.declared.operation.BinaryOp.{BinaryOp}
use Rattle.f95_unit.specs.declared.operation.BinaryOp.TheVariants as binary
use Rattle.array_meaning.specs.Values.{integer_of, truth_of}
use Rattle.array_meaning.specs.Scalars.{unary_of}
use Rattle.nest_tree.specs.declared.unit.Sort.{Sort}
use Rattle.nest_tree.specs.declared.unit.Sort.TheVariants as sort
use Rattle.nest_tree.specs.Plain.{Procedure}
use Rattle.nest_tree.specs.State.{NestState, Halt}
use Rattle.nest_tree.specs.Sound.{some_serves, unary_sort}
use Rattle.loop_tree.specs.declared.atom.Atom.{Atom}
use Rattle.loop_tree.specs.declared.atom.Atom.TheVariants as atom
use Rattle.loop_tree.specs.declared.atom.Operator.TheVariants as operator
use Rattle.loop_tree.specs.declared.row.IntValue.TheVariants as int
use Rattle.loop_tree.specs.declared.tree.CodeLine.{CodeLine}
use Rattle.loop_tree.specs.declared.tree.Function.{Function}
use Rattle.loop_tree.specs.Lines.{flats}
use Rattle.loop_tree.specs.State.{Brace}
use Rattle.loop_tree.specs.Values.{number_at, text_at, truth}
use Rattle.loop_laws.specs.At.{Variables, value_of}
use Rattle.nest_emit.specs.Numbers.{first_free}
use Rattle.nest_emit.specs.Trees.{unary_lines, compare_line}
use Rattle.nest_emit.specs.Meets.{DoesAt}
use Rattle.nest_emit.specs.Kin.{Around, Kin, Keeps, Shows}
use Rattle.nest_emit.proofs.Values.{int_shown, truth_shown}
use Rattle.nest_emit.proofs.Rows.{read_atom, subtracts, is_less, is_at_most, is_equal, is_unequal, set_does, compute_does, computed_does}
use Rattle.nest_emit.proofs.Comparisons.{less_is, greater_is, le_is, ge_is, ne_is, order_test}

-- ---- comparisons

module _ {functions : List Function} {limit : ℕ} {q : Procedure} {around : Around} {n : NestState} {braces : List Brace}
    {r : Ran Halt NestState (Unit {0})} (t : ℕ) (w : Variables) (lines : List CodeLine) (free : first_free q ≤ t)
    (kin : Kin q around n w) where
  -- one row compares integers
  pub compare_does : (op : BinaryOp) (a b : Atom) →
      ((u : Variables) → Kin q around n u → Keeps t w u →
      number_at u.ints t ≡ truth (order_test op (int_cmp (value_of w a) (value_of w b))) →
      DoesAt functions limit n u lines braces r) →
      DoesAt functions limit n w (flats (compare_line op t a b ∷ []) ++ lines) braces r
  compare_does binary.Equal a b next = compute_does t w [] lines free kin a operator.Equal b _
      (is_equal (value_of w a) (value_of w b)) next
  compare_does binary.NotEqual a b next = compute_does t w [] lines free kin a operator.NotEqual b _
      (is_unequal (value_of w a) (value_of w b))
      (λ u k keep is. next u k keep (is ∙ ap truth (sym (ne_is (int_cmp (value_of w a) (value_of w b))))))
  compare_does binary.Less a b next = compute_does t w [] lines free kin a operator.Less b _
      (is_less (value_of w a) (value_of w b))
      (λ u k keep is. next u k keep (is ∙ ap truth (sym (less_is (value_of w a) (value_of w b)))))
  compare_does binary.LessEqual a b next = compute_does t w [] lines free kin a operator.LessEqual b _
      (is_at_most (value_of w a) (value_of w b))
      (λ u k keep is. next u k keep (is ∙ ap truth (sym (le_is (value_of w a) (value_of w b)))))
  compare_does binary.Greater a b next = compute_does t w [] lines free kin b operator.Less a _
      (is_less (value_of w b) (value_of w a))
      (λ u k keep is. next u k keep (is ∙ ap truth (sym (greater_is (value_of w a) (value_of w b)))))
  compare_does op a b next = compute_does t w [] lines free kin b operator.LessEqual a _ (is_at_most (value_of w b) (value_of w a))
      (λ u k keep is. next u k keep (is ∙ ap truth (sym (ge_is (value_of w a) (value_of w b)))))

-- ---- one operand

-- the sort that an operator with one operand asks for and gives
abbrev pub unary_asks : UnaryOp → Sort
unary_asks unary.Not = sort.Log
unary_asks op = sort.Int

pub unary_fits : (op : UnaryOp) (o : Option Sort) (s : Sort) → unary_sort op o ≡ Some s →
    (some_serves o (unary_asks op) ≡ true) × (unary_asks op ≡ s)
unary_fits unary.Not o s h = sort_if_some (some_serves o sort.Log) sort.Log s h
unary_fits unary.Plus o s h = sort_if_some (some_serves o sort.Int) sort.Int s h
unary_fits unary.Minus o s h = sort_if_some (some_serves o sort.Int) sort.Int s h

not_truth : (b : Bool) → truth (int_eq (truth b) (pos 0)) ≡ truth (not b)
not_truth true = refl
not_truth false = refl

pub from_zero : (z : ℤ) → pos 0 -ℤ z ≡ neg_ℤ z
from_zero z = omega (arith, ints)

-- an INTEGER that was computed
pub int_there : (z y : ℤ) (bytes : List ℕ) → z ≡ wrapped y → Shows sort.Int z bytes (scalar.Int (wrapped y))
int_there z y bytes e = record { of = (refl, wrapped-wrapped y); value = e }

module _ {functions : List Function} {limit : ℕ} {q : Procedure} {around : Around} {n : NestState} {braces : List Brace}
    {r : Ran Halt NestState (Unit {0})} (t : ℕ) (w : Variables) (lines : List CodeLine) (free : first_free q ≤ t)
    (kin : Kin q around n w) where
  pub unary_does : (op : UnaryOp) (a : Atom) (bytes : List ℕ) (x : Scalar) → Shows (unary_asks op) (value_of w a) bytes x →
      ((u : Variables) → Kin q around n u → Keeps t w u →
      Shows (unary_asks op) (number_at u.ints t) (text_at u.texts t) (unary_of op x) →
      DoesAt functions limit n u lines braces r) →
      DoesAt functions limit n w (flats (unary_lines op t a) ++ lines) braces r
  unary_does unary.Plus a bytes x sh next = set_does t w [] lines free kin (int.Atom a) _ refl (read_atom w a)
      (λ u k keep is. next u k keep (record { of = sh.of; value = is ∙ sh.value }))
  unary_does unary.Minus a bytes x sh next = computed_does t w lines free kin (atom.Number (pos 0)) operator.Subtract a _
      (subtracts (pos 0) (value_of w a))
      (λ u k keep is. next u k keep (int_there (number_at u.ints t) (neg_ℤ (integer_of x)) (text_at u.texts t)
      (is ∙ wrapped-int_wrap (pos 0 -ℤ value_of w a) ∙ ap wrapped (from_zero (value_of w a) ∙ ap neg_ℤ (int_shown sh)))))
  unary_does unary.Not a bytes x sh next = compute_does t w [] lines free kin a operator.Equal (atom.Number (pos 0)) _
      (is_equal (value_of w a) (pos 0))
      (λ u k keep is. next u k keep (record {
        of = refl;
        value = is ∙ ap (λ z. truth (int_eq z (pos 0))) (truth_shown sh) ∙ not_truth (truth_of x);
      }))
