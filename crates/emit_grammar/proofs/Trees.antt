-- The lines of an element tree, and its atom, are as the grammar asks.
use Rattle.std.proofs.Common.{◌≡◌, ℕ, zero, suc, ◌+◌, ◌<◌, ◌≤◌, ◌^◌, Bool, true, false, ◌&&◌, nat_le, nat_lt, nat_eq, List, [], ◌∷◌, ◌++◌, Option, Some, None, refl, sym, ap, ◌∙◌, subst, arith, ℤ, pos, length, if◌then◌else◌}
use Rattle.std.specs.Prelude.{FitsSigned, negsuc, is_some, slice_get, slice_index_or}
use Rattle.std.specs.Int.{w64}
use Rattle.std.specs.List.{list_all, AllByRecursion}
use Rattle.std.proofs.lemmas.Bool.Decides.{nat_tests}
use Rattle.std.proofs.lemmas.Option.{get_or_from_slice_get}
use Rattle.a95_base.specs.declared.fault.FaultKind.TheVariants as fault
use Rattle.a95_base.specs.declared.scalar.Scalar.{Scalar}
use Rattle.a95_base.specs.declared.scalar.Scalar.TheVariants as scalar
use Rattle.std.proofs.lemmas.Bool.{and_parts}
use Rattle.a95_base.proofs.Tests.{some_behind}
use Rattle.nest_tree.proofs.Sorts.{sort_if_some}
use Rattle.f95_unit.specs.declared.operation.UnaryOp.{UnaryOp}
use Rattle.f95_unit.specs.declared.operation.UnaryOp.TheVariants as unary
use Rattle.f95_unit.specs.declared.operation.BinaryOp.{BinaryOp}
use Rattle.f95_unit.specs.declared.operation.BinaryOp.TheVariants as binary
use Rattle.f95_unit.specs.declared.operation.Elemental.{Elemental}
use Rattle.f95_unit.specs.declared.operation.Elemental.TheVariants as elemental
use Rattle.array_meaning.specs.Values.{nothing, text_of}
use Rattle.nest_tree.specs.declared.access.Along.{Along}
use Rattle.nest_tree.specs.declared.access.Along.TheVariants as along
use Rattle.nest_tree.specs.declared.access.Amount.{Amount}
use Rattle.nest_tree.specs.declared.access.Amount.TheVariants as amounts
use Rattle.nest_tree.specs.declared.access.Dimension.{Dimension}
use Rattle.nest_tree.specs.declared.access.Name.{Name}
use Rattle.nest_tree.specs.declared.access.Portion.{Portion}
use Rattle.nest_tree.specs.declared.tree.Exact.{Exact}
use Rattle.nest_tree.specs.declared.tree.Exact.TheVariants as exact
use Rattle.nest_tree.specs.declared.tree.Question.{Question}
use Rattle.nest_tree.specs.declared.tree.Question.TheVariants as question
use Rattle.nest_tree.specs.declared.unit.Sort.{Sort}
use Rattle.nest_tree.specs.declared.unit.Sort.TheVariants as sort
use Rattle.nest_tree.specs.Plain.{Tree, Literal, Number, Constant, Fixed, Read, Cell, Entry, Turn, Place, Asked, Unary, Binary, Exactly, Wrapped, Each, Trim, Len, Applied, Trees, no_tree, tree}
use Rattle.nest_tree.specs.Sound.{Scope, some_serves, both_serve, sort_of, sorts_of, sort_of_name, sort_of_scalar, sort_of_some, exact_sort, elemental_sort, fits_amount, fits_64_bits, fits_along, fits_access, fits_portion, has_rank, has_dimension, is_loop, is_own_text, is_block, question_sort, tree_nodes, trees_nodes}
use Rattle.loop_tree.specs.declared.atom.Atom.{Atom}
use Rattle.loop_tree.specs.declared.atom.Atom.TheVariants as atom
use Rattle.loop_tree.specs.declared.atom.TextAtom.{TextAtom}
use Rattle.loop_tree.specs.declared.atom.TextAtom.TheVariants as text
use Rattle.loop_tree.specs.declared.atom.Operator.TheVariants as operator
use Rattle.loop_tree.specs.declared.row.IntValue.TheVariants as int
use Rattle.loop_tree.specs.declared.row.TextValue.TheVariants as words
use Rattle.loop_tree.specs.declared.tree.Stmt.{Stmt}
use Rattle.loop_tree.specs.Program.{FitsAtom, FitsText, FitsReference, FitsByte}
use Rattle.nest_emit.specs.Numbers.{array_number, array_count, lower_number, extent_number, first_free, loop_number}
use Rattle.nest_emit.specs.Trees.{set, say, keep, compute, computed, amount_atom, number_for, literal, unary_lines, compare_line, compared_lines, inverse_lines, power_lines, binary_lines, chosen_lines, exact_lines, count_trees, absolute_lines, elemental_lines, better_line, subscript_atom, subscript_lines, place_atom, place_lines, part_lines, reference_to, asked_lines, cell_lines, atom_of, words_of, atom_at, words_at, better_lines, best_lines, each_lines, tree_lines, trees_lines}
use Rattle.nest_emit.proofs.Asked.{dimension_sort}
use Rattle.nest_emit.proofs.Values.{some_is, there_is, served, array_below, scalar_below}
use Rattle.nest_emit.proofs.Arguments.{AllSorted, all_sorted}
use Rattle.nest_emit.proofs.Operators.{unary_fits, unary_asks}
use Rattle.nest_emit.proofs.Binary.{asks, binary_fits}
use Rattle.emit_grammar.specs.Written.{is_bytes, written_tree, written_trees}
use Rattle.emit_grammar.proofs.Bodies.{Good, good_none, good_both, good_set, good_say, good_compute, good_else, good_fault}

-- ---- numbers

-- what stands for a number of 64 bits
wide_number : (z : ℤ) → fits_64_bits z ≡ true → FitsSigned w64 z
wide_number (pos n) h = let few : n < 9223372036854775808 = grind (arith, nat_tests, h) in omega (arith, few)
wide_number (negsuc n) h = let few : n < 9223372036854775808 = grind (arith, nat_tests, h) in omega (arith, few)

short_number : (x : Scalar) (s : Sort) → sort_of_scalar x ≡ Some s → FitsSigned w64 (number_for x)
short_number (scalar.Int (pos n)) s h =
    let few : n < 2147483648 = grind (arith, nat_tests, (sort_if_some _ sort.Int s h).0) in omega (arith, few)
short_number (scalar.Int (negsuc n)) s h =
    let few : n < 2147483648 = grind (arith, nat_tests, (sort_if_some _ sort.Int s h).0) in omega (arith, few)
short_number (scalar.Log true) s h = omega arith
short_number (scalar.Log false) s h = omega arith
short_number (scalar.Text bytes) s h = omega arith

bytes_fit : (bytes : List ℕ) → list_all (λ c. nat_lt c 256) bytes ≡ true → AllByRecursion FitsByte bytes
bytes_fit [] h = tt
bytes_fit (c ∷ cs) h =
    let two = and_parts (nat_lt c 256) (list_all (λ d. nat_lt d 256) cs) h in (grind (arith, nat_tests, two.0), bytes_fit cs two.1)

text_fits : (x : Scalar) → is_bytes x ≡ true → FitsText (text.Literal (text_of x))
text_fits (scalar.Int z) h = tt
text_fits (scalar.Log b) h = tt
text_fits (scalar.Text bytes) h = bytes_fit bytes h

pub small : (n : ℕ) → n < 1000 → FitsAtom (atom.Number (pos n))
small n h = omega (arith, h)

-- ---- operators

module _ {room : ℕ} {loop : Bool} (deep : 2 ≤ room) (top : room ≤ 999) (t : ℕ) where
  unary_good : (op : UnaryOp) (a : Atom) → t < 2 ^ 32 → FitsAtom a → Good room loop (unary_lines op t a)
  unary_good unary.Plus a low fits = good_set t (int.Atom a) [] low fits (good_none top)
  unary_good unary.Minus a low fits = good_compute t (atom.Number (pos 0)) operator.Subtract a (set t (int.Wrap (atom.Int t)) ∷ []) low
      (small 0 (omega arith)) fits (good_set t (int.Wrap (atom.Int t)) [] low low (good_none top))
  unary_good unary.Not a low fits = good_compute t a operator.Equal (atom.Number (pos 0)) [] low fits (small 0 (omega arith))
      (good_none top)

module _ {room : ℕ} {loop : Bool} (top : room ≤ 999) (t : ℕ) (low : t < 2 ^ 32) where
  computed_good : (a b : Atom) → (op : _) → FitsAtom a → FitsAtom b → Good room loop (computed t a op b)
  computed_good a b op f g = good_compute t a op b (set t (int.Wrap (atom.Int t)) ∷ []) low f g
      (good_set t (int.Wrap (atom.Int t)) [] low low (good_none top))

  compare_good : (op : BinaryOp) (a b : Atom) → FitsAtom a → FitsAtom b → (more : List Stmt) → Good room loop more →
      Good room loop (compare_line op t a b ∷ more)
  compare_good binary.Equal a b f g more rest = good_compute t a operator.Equal b more low f g rest
  compare_good binary.NotEqual a b f g more rest = good_compute t a operator.NotEqual b more low f g rest
  compare_good binary.Less a b f g more rest = good_compute t a operator.Less b more low f g rest
  compare_good binary.LessEqual a b f g more rest = good_compute t a operator.LessEqual b more low f g rest
  compare_good binary.Greater a b f g more rest = good_compute t b operator.Less a more low g f rest
  compare_good op a b f g more rest = good_compute t b operator.LessEqual a more low g f rest

  compared_good : (texts : Bool) (op : BinaryOp) (a b : Atom) (v w : TextAtom) → FitsAtom a → FitsAtom b → FitsText v →
      FitsText w → Good room loop (compared_lines texts op t a b v w)
  compared_good true op a b v w f g h k = good_set t (int.Compare v w) (compare_line op t (atom.Int t) (atom.Number (pos 0)) ∷ [])
      low (h, k) (compare_good op (atom.Int t) (atom.Number (pos 0)) low (small 0 (omega arith)) [] (good_none top))
  compared_good false op a b v w f g h k = compare_good op a b f g [] (good_none top)

module _ {room : ℕ} {loop : Bool} (deep : 2 ≤ room) (top : room ≤ 999) (t : ℕ) (low : suc (suc (suc t)) < 2 ^ 32) where
  power_good : (a b : Atom) → FitsAtom a → FitsAtom b → Good room loop (power_lines t (suc (suc t)) a b)
  power_good a b f g =
      let test = suc (suc t) in
      let here : t < 4294967296 = omega (arith, low) in
      let there : test < 4294967296 = omega (arith, low) in
      good_compute test b operator.Less (atom.Number (pos 0)) _ there g (small 0 (omega arith))
      (good_else 1 (atom.Int test) (inverse_lines t test a b) (set t (int.Power a b) ∷ []) [] (omega (arith, deep)) there
      (good_fault a fault.ZeroDivide _ (omega arith) f
      (good_compute test b operator.Remainder (atom.Number (pos 2)) _ there g (small 2 (omega arith))
      (good_else 0 (atom.Int test) (set test (int.Atom a) ∷ []) (compute test a operator.Multiply a ∷ [])
      (computed t (atom.Number (pos 1)) operator.Divide (atom.Int test)) (omega arith) there
      (good_set test (int.Atom a) [] there f (good_none (omega arith)))
      (good_compute test a operator.Multiply a [] there f f (good_none (omega arith)))
      (computed_good (omega arith) t here (atom.Number (pos 1)) (atom.Int test) operator.Divide (small 1 (omega arith)) there))))
      (good_set t (int.Power a b) [] here (f, g) (good_none (omega arith))) (good_none top))

  binary_good : (texts : Bool) (op : BinaryOp) (a b : Atom) (v w : TextAtom) → FitsAtom a → FitsAtom b → FitsText v →
      FitsText w → Good room loop (binary_lines texts op t a b v w)
  binary_good texts binary.Power a b v w f g h k = power_good a b f g
  binary_good texts binary.Multiply a b v w f g h k = computed_good top t (omega (arith, low)) a b operator.Multiply f g
  binary_good texts binary.Divide a b v w f g h k = good_fault b fault.ZeroDivide (computed t a operator.Divide b)
      (omega (arith, deep)) g (computed_good top t (omega (arith, low)) a b operator.Divide f g)
  binary_good texts binary.Add a b v w f g h k = computed_good top t (omega (arith, low)) a b operator.Add f g
  binary_good texts binary.Subtract a b v w f g h k = computed_good top t (omega (arith, low)) a b operator.Subtract f g
  binary_good texts binary.Concat a b v w f g h k = good_say t (words.Join v w) [] (omega (arith, low)) (h, k) (good_none top)
  binary_good texts binary.And a b v w f g h k = good_compute t a operator.And b [] (omega (arith, low)) f g (good_none top)
  binary_good texts binary.Or a b v w f g h k = good_compute t a operator.Or b [] (omega (arith, low)) f g (good_none top)
  binary_good texts binary.Equivalent a b v w f g h k = good_compute t a operator.Equal b [] (omega (arith, low)) f g
      (good_none top)
  binary_good texts binary.NotEquivalent a b v w f g h k = good_compute t a operator.NotEqual b [] (omega (arith, low)) f g
      (good_none top)
  binary_good texts binary.Equal a b v w f g h k = compared_good top t (omega (arith, low)) texts binary.Equal a b v w f g h k
  binary_good texts binary.NotEqual a b v w f g h k = compared_good top t (omega (arith, low)) texts binary.NotEqual a b v w f g h k
  binary_good texts binary.Less a b v w f g h k = compared_good top t (omega (arith, low)) texts binary.Less a b v w f g h k
  binary_good texts binary.LessEqual a b v w f g h k = compared_good top t (omega (arith, low)) texts binary.LessEqual a b v w f g h
      k
  binary_good texts binary.Greater a b v w f g h k = compared_good top t (omega (arith, low)) texts binary.Greater a b v w f g h k
  binary_good texts binary.GreaterEqual a b v w f g h k = compared_good top t (omega (arith, low)) texts binary.GreaterEqual a b v w
      f g h k

  chosen_good : (a b x y : Atom) → FitsAtom a → FitsAtom b → FitsAtom x → FitsAtom y → Good room loop (chosen_lines t a b x y)
  chosen_good a b x y f g h k =
      let test = suc (suc t) in
      let here : t < 4294967296 = omega (arith, low) in
      let there : test < 4294967296 = omega (arith, low) in
      good_compute test b operator.Less a _ there g f
      (good_else 0 (atom.Int test) (set t (int.Atom x) ∷ []) (set t (int.Atom y) ∷ []) [] (omega (arith, deep)) there
      (good_set t (int.Atom x) [] here h (good_none (omega arith))) (good_set t (int.Atom y) [] here k (good_none (omega arith)))
      (good_none top))

  exact_good : (op : Exact) (a b : Atom) → FitsAtom a → FitsAtom b → Good room loop (exact_lines op t a b)
  exact_good exact.Most a b f g = chosen_good a b a b f g f g
  exact_good exact.Least a b f g = chosen_good a b b a f g g f
  exact_good exact.Plus a b f g = good_compute t a operator.Add b [] (omega (arith, low)) f g (good_none top)
  exact_good exact.Minus a b f g = good_compute t a operator.Subtract b [] (omega (arith, low)) f g (good_none top)
  exact_good exact.Times a b f g = good_compute t a operator.Multiply b [] (omega (arith, low)) f g (good_none top)
  exact_good exact.Over a b f g = good_compute t a operator.Divide b [] (omega (arith, low)) f g (good_none top)
  exact_good exact.Below a b f g = good_compute t a operator.Less b [] (omega (arith, low)) f g (good_none top)
  exact_good exact.AtMost a b f g = good_compute t a operator.LessEqual b [] (omega (arith, low)) f g (good_none top)
  exact_good exact.Same a b f g = good_compute t a operator.Equal b [] (omega (arith, low)) f g (good_none top)

-- ---- elemental functions

pub below : (n : ℕ) → suc n < 2 ^ 32 → n < 2 ^ 32
below n h = omega (arith, h)

module _ {room : ℕ} {loop : Bool} (deep : 2 ≤ room) (top : room ≤ 999) (t test : ℕ) (here : t < 2 ^ 32)
    (there : suc test < 2 ^ 32) where
  absolute_good : (a : Atom) → FitsAtom a → Good room loop (absolute_lines test a)
  absolute_good a f =
      good_compute test a operator.Less (atom.Number (pos 0)) _ (below test there) f (small 0 (omega arith))
      (good_else 0 (atom.Int test) (compute test (atom.Number (pos 0)) operator.Subtract a ∷ []) (set test (int.Atom a) ∷ []) []
      (omega (arith, deep)) (below test there)
      (good_compute test (atom.Number (pos 0)) operator.Subtract a [] (below test there) (small 0 (omega arith)) f (good_none (omega arith)))
      (good_set test (int.Atom a) [] (below test there) f (good_none (omega arith))) (good_none top))

  elemental_good : (which : Elemental) (a b : Atom) (v : TextAtom) → FitsAtom a → FitsAtom b → FitsText v →
      Good room loop (elemental_lines which t test a b v)
  elemental_good elemental.Abs a b v f g h = good_both (absolute_lines test a) (set t (int.Wrap (atom.Int test)) ∷ [])
      (absolute_good a f) (good_set t (int.Wrap (atom.Int test)) [] here (below test there) (good_none top))
  elemental_good elemental.Mod a b v f g h = good_fault b fault.ZeroDivide _ (omega (arith, deep)) g
      (good_compute t a operator.Remainder b [] here f g (good_none top))
  elemental_good elemental.Modulo a b v f g h = good_fault b fault.ZeroDivide _ (omega (arith, deep)) g
      (good_compute test a operator.Remainder b _ (below test there) f g (good_compute test (atom.Int test) operator.Add b _ (below test there) (below test there) g
      (good_compute t (atom.Int test) operator.Remainder b [] here (below test there) g (good_none top))))
  elemental_good elemental.Sign a b v f g h = good_both (absolute_lines test a) _ (absolute_good a f)
      (good_compute (suc test) b operator.Less (atom.Number (pos 0)) _ there g (small 0 (omega arith))
      (good_else 0 (atom.Int (suc test)) (computed t (atom.Number (pos 0)) operator.Subtract (atom.Int test))
      (set t (int.Wrap (atom.Int test)) ∷ []) [] (omega (arith, deep)) there
      (computed_good (omega arith) t here (atom.Number (pos 0)) (atom.Int test) operator.Subtract (small 0 (omega arith)) (below test there))
      (good_set t (int.Wrap (atom.Int test)) [] here (below test there) (good_none (omega arith))) (good_none top)))
  elemental_good elemental.Iand a b v f g h = computed_good top t here a b operator.And f g
  elemental_good elemental.Ior a b v f g h = computed_good top t here a b operator.Or f g
  elemental_good elemental.Ieor a b v f g h = good_set t (int.Xor a b) (set t (int.Wrap (atom.Int t)) ∷ []) here (f, g)
      (good_set t (int.Wrap (atom.Int t)) [] here here (good_none top))
  elemental_good elemental.Char a b v f g h =
      good_compute test (atom.Number (pos 0)) operator.LessEqual a _ (below test there) (small 0 (omega arith)) f
      (good_fault (atom.Int test) fault.CharRange _ (omega (arith, deep)) (below test there)
      (good_compute test a operator.Less (atom.Number (pos 256)) _ (below test there) f (small 256 (omega arith))
      (good_fault (atom.Int test) fault.CharRange (say t (words.Char a) ∷ []) (omega (arith, deep)) (below test there)
      (good_say t (words.Char a) [] here f (good_none top)))))
  elemental_good elemental.Adjustl a b v f g h = good_say t (words.Left v) [] here h (good_none top)
  elemental_good elemental.Adjustr a b v f g h = good_say t (words.Right v) [] here h (good_none top)
  elemental_good elemental.Max a b v f g h = good_none top
  elemental_good elemental.Min a b v f g h = good_none top
  elemental_good elemental.Merge a b v f g h = good_none top
  elemental_good elemental.Ichar a b v f g h = good_none top
  elemental_good elemental.LenTrim a b v f g h = good_none top
  elemental_good elemental.Index a b v f g h = good_none top

pub keep_good : {room : ℕ} {loop : Bool} → room ≤ 999 → (o : Option Sort) (t : ℕ) (a : Atom) (w : TextAtom) → t < 2 ^ 32 → FitsAtom a →
    FitsText w → Good room loop (keep o t a w ∷ [])
keep_good top (Some sort.Text) t a w low f g = good_say t (words.Atom w) [] low g (good_none top)
keep_good top (Some sort.Exact) t a w low f g = good_set t (int.Atom a) [] low f (good_none top)
keep_good top (Some sort.Int) t a w low f g = good_set t (int.Atom a) [] low f (good_none top)
keep_good top (Some sort.Log) t a w low f g = good_set t (int.Atom a) [] low f (good_none top)
keep_good top None t a w low f g = good_set t (int.Atom a) [] low f (good_none top)

-- ---- where the trees stand

-- few variables are used, and few dimensions, loops and nests are around
pub record Known (c : Scope) (nests : ℕ) : Type 0 where
  pub numbers : first_free c.own ≤ 2 ^ 31 + 1
  pub ranks : (n : Name) (rank : ℕ) → has_rank c.own n rank ≡ true → rank ≤ 7
  pub dimensions : (n : Name) (dim : ℕ) → has_dimension c.own n dim ≡ true → dim ≤ 7
  pub loops : c.loops ≤ 7
  pub nests_few : nests ≤ 1000
  pub constants : list_all is_bytes c.unit.constants ≡ true

module _ (c : Scope) (nests : ℕ) (known : Known c nests) where
  pub amount_fits : (a : Amount) → fits_amount c.own a ≡ true → FitsAtom (amount_atom c.own a)
  amount_fits (amounts.Number z) h = wide_number z h
  amount_fits (amounts.Kept k) h =
      let s = served (slice_get c.own.scalars k) sort.Exact h in
      let within = scalar_below c.own k s.sort s.is in omega (arith, within, known.numbers)

  loop_low : (loop : ℕ) → is_loop c loop ≡ true → loop_number nests loop < 2 ^ 32
  loop_low loop h = by nests known.nests_few
    where
      last : loop ≤ 7
      last = let two = and_parts (nat_le 1 loop) (nat_le loop c.loops) h in
          let most : loop ≤ c.loops = grind (arith, nat_tests, two.1) in omega (arith, most, known.loops)

      by : (n : ℕ) → n ≤ 1000 → loop_number n loop < 2 ^ 32
      by zero few = omega (arith, last)
      by (suc n) few = omega (arith, last, few)

  module _ {room : ℕ} {loop : Bool} (top : room ≤ 999) where
    subscript_good : (t : ℕ) (a : Along) → t < 2 ^ 32 → fits_along c a ≡ true → (more : List Stmt) → Good room loop more →
        Good room loop (subscript_lines c.own nests t a ++ more) × FitsAtom (subscript_atom c.own nests t a)
    subscript_good t (along.Alone a) low fits more g = (g, amount_fits a fits)
    subscript_good t (along.Steps l start stride) low fits more g =
        let two = and_parts (is_loop c l && fits_amount c.own start) (fits_amount c.own stride) fits in
        let one = and_parts (is_loop c l) (fits_amount c.own start) two.0 in (
          good_compute t (atom.Loop (loop_number nests l)) operator.Multiply (amount_atom c.own stride) _ low (loop_low l one.0)
              (amount_fits stride two.1)
              (good_compute t (amount_atom c.own start) operator.Add (atom.Int t) more low (amount_fits start one.1) low g),
          low,
        )
    subscript_good t (along.Listed l list) low fits more g = (g, low)

    pub place_good : (t array dim : ℕ) (ds : List Dimension) → suc t < 2 ^ 32 → array < array_count c.own → dim + length ds ≤ 7 →
        list_all (λ d. fits_along c d.along) ds ≡ true → Good room loop (place_lines c.own nests t array dim ds)
    place_good t array dim [] low there few fits = good_none top
    place_good t array dim (d ∷ []) low there few fits =
        let two = and_parts (fits_along c d.along) true fits in
        let here : t < 4294967296 = omega (arith, low) in
        let number : lower_number array dim < 4294967296 = omega (arith, there, few, known.numbers) in
        let atom_fits = (subscript_good t d.along here two.0 [] (good_none top)).1 in
        (subscript_good t d.along here two.0 _
        (good_compute t (subscript_atom c.own nests t d.along) operator.Subtract (atom.Int (lower_number array dim)) [] here atom_fits
        number (good_none top))).0
    place_good t array dim (d ∷ e ∷ more) low there few fits =
        let two = and_parts (fits_along c d.along) (list_all (λ d'. fits_along c d'.along) (e ∷ more)) fits in
        let here : t < 4294967296 = omega (arith, low) in
        let lower : lower_number array dim < 4294967296 = omega (arith, there, few, known.numbers) in
        let extent : extent_number array dim < 4294967296 = omega (arith, there, few, known.numbers) in
        let atom_fits = (subscript_good (suc t) d.along low two.0 [] (good_none top)).1 in
        good_both (place_lines c.own nests t array (suc dim) (e ∷ more)) _
        (place_good t array (suc dim) (e ∷ more) low there (omega (arith, few)) two.1)
        (good_compute t (atom.Int (extent_number array dim)) operator.Multiply (atom.Int t) _ here extent here
        (subscript_good (suc t) d.along low two.0 _
        (good_compute (suc t) (subscript_atom c.own nests (suc t) d.along) operator.Subtract (atom.Int (lower_number array dim)) _ low
        atom_fits lower (good_compute t (atom.Int t) operator.Add (atom.Int (suc t)) [] here here low (good_none top)))).0)

    pub cell_good : (o : Option Sort) (t array : ℕ) (a : Atom) → t < 2 ^ 32 → array < array_count c.own → FitsAtom a →
        Good room loop (cell_lines o t array a)
    cell_good o t array a low there fits = by o
      where
        number : array < 4294967296
        number = omega (arith, there, known.numbers)

        by : (o : Option Sort) → Good room loop (cell_lines o t array a)
        by (Some sort.Text) = good_say t (words.Cell array a) [] low (number, fits) (good_none top)
        by (Some sort.Exact) = good_set t (int.Cell array a) [] low (number, fits) (good_none top)
        by (Some sort.Int) = good_set t (int.Cell array a) [] low (number, fits) (good_none top)
        by (Some sort.Log) = good_set t (int.Cell array a) [] low (number, fits) (good_none top)
        by None = good_set t (int.Cell array a) [] low (number, fits) (good_none top)

    pub part_good : (t : ℕ) (n : Name) (p : Option Portion) → t < 2 ^ 32 → fits_portion c.own n p ≡ true →
        Good room loop (part_lines c.own t p)
    part_good t n None low fits = good_none top
    part_good t n (Some p) low fits =
        let two = and_parts (is_own_text c.own n && fits_amount c.own p.first) (fits_amount c.own p.last) fits in
        let one = and_parts (is_own_text c.own n) (fits_amount c.own p.first) two.0 in
        good_say t (words.Part (text.Variable t) (amount_atom c.own p.first) (amount_atom c.own p.last)) [] low
        (low, amount_fits p.first one.1, amount_fits p.last two.1) (good_none top)

  pub place_atom_fits : (t : ℕ) (ds : List Dimension) → t < 2 ^ 32 → FitsAtom (place_atom c.own nests t ds)
  place_atom_fits t [] low = small 0 (omega arith)
  place_atom_fits t (d ∷ ds) low = low

  pub reference_fits : (o : Option Sort) (array : ℕ) → array < array_count c.own → FitsReference (reference_to o array)
  reference_fits o array there = by o
    where
      number : array < 4294967296
      number = omega (arith, there, known.numbers)

      by : (o : Option Sort) → FitsReference (reference_to o array)
      by (Some sort.Text) = number
      by (Some sort.Exact) = number
      by (Some sort.Int) = number
      by (Some sort.Log) = number
      by None = number

-- ---- trees

pub some_nodes : (x : Tree) → 1 ≤ tree_nodes x
some_nodes (Cell n x) = omega arith
some_nodes (Entry l x) = omega arith
some_nodes (Unary op x) = omega arith
some_nodes (Binary op x y) = omega arith
some_nodes (Exactly op x y) = omega arith
some_nodes (Wrapped x) = omega arith
some_nodes (Each which ts) = omega arith
some_nodes (Trim x) = omega arith
some_nodes (Len x) = omega arith
some_nodes (Applied r blank p ts) = omega arith
some_nodes x = omega arith

as_many : (ts : Trees) → count_trees ts ≤ trees_nodes ts
as_many no_tree = omega arith
as_many (tree place x ts) = omega (arith, some_nodes x, as_many ts)

constant_there : (o : Option Scalar) (s : Sort) → sort_of_some o ≡ Some s → (x : Scalar) × (o ≡ Some x) × (sort_of_scalar x ≡ Some s)
constant_there None s h = cc
constant_there (Some x) s h = (x, refl, h)

each_constant : (xs : List Scalar) (n : ℕ) (x : Scalar) → list_all is_bytes xs ≡ true → slice_get xs n ≡ Some x → is_bytes x ≡ true
each_constant [] n x h g = cc
each_constant (y ∷ xs) zero x h g =
    let same : y ≡ x = some_is g in ap is_bytes (sym same) ∙ (and_parts (is_bytes y) (list_all is_bytes xs) h).0
each_constant (y ∷ xs) (suc n) x h g = each_constant xs n x (and_parts (is_bytes y) (list_all is_bytes xs) h).1 g

module _ (c : Scope) (nests : ℕ) (known : Known c nests) (room : ℕ) (loop : Bool) (deep : 2 ≤ room) (top : room ≤ 999) where
  pub record GoodTree (t : ℕ) (x : Tree) : Type 0 where
    pub lines : Good room loop (tree_lines c nests t x)
    pub atom_in : FitsAtom (atom_of c nests t x)
    pub words_in : FitsText (words_of c nests t x)

  abbrev AtomsFit : ℕ → Trees → Type 0
  AtomsFit t no_tree = Unit {0}
  AtomsFit t (tree place x ts) = (FitsAtom (atom_of c nests t x) × FitsText (words_of c nests t x)) × AtomsFit (suc t) ts

  atom_at_fits : (place t : ℕ) (ts : Trees) → AtomsFit t ts → FitsAtom (atom_at c nests place t ts)
  atom_at_fits place t no_tree f = small 0 (omega arith)
  atom_at_fits place t (tree p x ts) f = by (nat_eq p place) (atom_at_fits place (suc t) ts f.1)
    where
      by : (b : Bool) → FitsAtom (atom_at c nests place (suc t) ts) →
          FitsAtom (if b then atom_of c nests t x else atom_at c nests place (suc t) ts)
      by true rest = f.0.0
      by false rest = rest

  words_at_fits : (place t : ℕ) (ts : Trees) → AtomsFit t ts → FitsText (words_at c nests place t ts)
  words_at_fits place t no_tree f = tt
  words_at_fits place t (tree p x ts) f = by (nat_eq p place) (words_at_fits place (suc t) ts f.1)
    where
      by : (b : Bool) → FitsText (words_at c nests place (suc t) ts) →
          FitsText (if b then words_of c nests t x else words_at c nests place (suc t) ts)
      by true rest = f.0.1
      by false rest = rest

  better_good : (greatest : Bool) (best k : ℕ) (ts : Trees) → suc best < 2 ^ 32 → AtomsFit k ts → (more : List Stmt) →
      Good room loop more → Good room loop (better_lines c nests greatest best k ts ++ more)
  better_good greatest best k no_tree low f more g = g
  better_good greatest best k (tree place x ts) low f more g =
      good_compute (suc best) (atom_of c nests k x) operator.Less (atom.Int best) _ low f.0.0 (below best low)
      (by (better_good greatest best (suc k) ts low f.1 more g) greatest)
    where
      by : Good room loop (better_lines c nests greatest best (suc k) ts ++ more) → (b : Bool) → Good room loop (better_line b best (atom_of c nests k x) ∷ (better_lines c nests greatest best (suc k) ts
          ++ more))
      by rest true = good_else 0 (atom.Int (suc best)) [] (set best (int.Atom (atom_of c nests k x)) ∷ []) _ (omega (arith, deep)) low
          (good_none (omega arith)) (good_set best (int.Atom (atom_of c nests k x)) [] (below best low) f.0.0 (good_none (omega arith)))
          rest
      by rest false = good_else 0 (atom.Int (suc best)) (set best (int.Atom (atom_of c nests k x)) ∷ []) [] _ (omega (arith, deep)) low
          (good_set best (int.Atom (atom_of c nests k x)) [] (below best low) f.0.0 (good_none (omega arith))) (good_none (omega arith))
          rest

  best_good : (greatest : Bool) (t best : ℕ) (ts : Trees) → t < 2 ^ 32 → suc best < 2 ^ 32 → AtomsFit t ts →
      Good room loop (best_lines c nests greatest t best ts)
  best_good greatest t best no_tree here low f = good_none top
  best_good greatest t best (tree place x ts) here low f =
      good_set best (int.Atom (atom_of c nests t x)) _ (below best low) f.0.0
      (better_good greatest best (suc t) ts low f.1 (set t (int.Atom (atom.Int best)) ∷ [])
      (good_set t (int.Atom (atom.Int best)) [] here (below best low) (good_none top)))

  each_good : (which : Elemental) (t : ℕ) (ts : Trees) → t + count_trees ts + 4 ≤ 2 ^ 32 → AtomsFit t ts →
      Good room loop (each_lines c nests which t ts)
  each_good which t ts low f = by which
    where
      here : t < 4294967296
      here = omega (arith, low)

      test : suc (t + count_trees ts) < 4294967296
      test = omega (arith, low)

      plain : (w : Elemental) → Good room loop (elemental_lines w t (t + count_trees ts) (atom_at c nests 0 t ts)
          (atom_at c nests 1 t ts) (words_at c nests 0 t ts))
      plain w = elemental_good deep top t (t + count_trees ts) here test w (atom_at c nests 0 t ts) (atom_at c nests 1 t ts)
          (words_at c nests 0 t ts) (atom_at_fits 0 t ts f) (atom_at_fits 1 t ts f) (words_at_fits 0 t ts f)

      by : (w : Elemental) → Good room loop (each_lines c nests w t ts)
      by elemental.Max = best_good true t (t + count_trees ts) ts here test f
      by elemental.Min = best_good false t (t + count_trees ts) ts here test f
      by elemental.Merge = good_else 0 (atom_at c nests 2 t ts) _ _ [] (omega (arith, deep)) (atom_at_fits 2 t ts f)
          (keep_good (omega arith) (elemental_sort elemental.Merge (sorts_of c ts)) t (atom_at c nests 0 t ts)
          (words_at c nests 0 t ts) here (atom_at_fits 0 t ts f) (words_at_fits 0 t ts f))
          (keep_good (omega arith) (elemental_sort elemental.Merge (sorts_of c ts)) t (atom_at c nests 1 t ts)
          (words_at c nests 1 t ts) here (atom_at_fits 1 t ts f) (words_at_fits 1 t ts f)) (good_none top)
      by elemental.Abs = plain elemental.Abs
      by elemental.Mod = plain elemental.Mod
      by elemental.Modulo = plain elemental.Modulo
      by elemental.Sign = plain elemental.Sign
      by elemental.Iand = plain elemental.Iand
      by elemental.Ior = plain elemental.Ior
      by elemental.Ieor = plain elemental.Ieor
      by elemental.Ichar = plain elemental.Ichar
      by elemental.Char = plain elemental.Char
      by elemental.LenTrim = plain elemental.LenTrim
      by elemental.Index = plain elemental.Index
      by elemental.Adjustl = plain elemental.Adjustl
      by elemental.Adjustr = plain elemental.Adjustr

  -- a value that stands in variable t
  in_t : (t : ℕ) (x : Tree) → t < 2 ^ 32 → atom_of c nests t x ≡ atom.Int t → words_of c nests t x ≡ text.Variable t →
      Good room loop (tree_lines c nests t x) → GoodTree t x
  in_t t x low a w lines = record {
    lines = lines;
    atom_in = subst FitsAtom (sym a) low;
    words_in = subst FitsText (sym w) low;
  }

  asked_good : (q : Question) (n : Name) (t : ℕ) (s : Sort) → t < 2 ^ 32 → question_sort c.own q n ≡ Some s →
      Good room loop (asked_lines q t (array_number c.own n) (reference_to (sort_of_name c.own n) (array_number c.own n)))
  asked_good (question.Lower dim) n t s low h =
      let e = (sort_if_some (has_dimension c.own n dim) sort.Exact s h).0 in
      let r = dimension_sort c.own n dim e in
      let there = array_below c.own n r.0 r.1 in
      good_set t _ [] low (omega (arith, there, known.dimensions n dim e, known.numbers)) (good_none top)
  asked_good (question.Extent dim) n t s low h =
      let e = (sort_if_some (has_dimension c.own n dim) sort.Exact s h).0 in
      let r = dimension_sort c.own n dim e in
      let there = array_below c.own n r.0 r.1 in
      good_set t _ [] low (omega (arith, there, known.dimensions n dim e, known.numbers)) (good_none top)
  asked_good question.Size n t s low h =
      let r = there_is (sort_of_name c.own n) (sort_if_some (is_some (sort_of_name c.own n)) sort.Exact s h).0 in
      good_set t _ [] low (reference_fits c nests known (sort_of_name c.own n) (array_number c.own n)
      (array_below c.own n r.0 r.1)) (good_none top)
  asked_good question.Allocated n t s low h =
      let r = there_is (sort_of_name c.own n) (sort_if_some (is_some (sort_of_name c.own n)) sort.Log s h).0 in
      good_set t _ [] low (reference_fits c nests known (sort_of_name c.own n) (array_number c.own n)
      (array_below c.own n r.0 r.1)) (good_none top)
  asked_good (question.Upper dim) n t s low h = good_none top
  asked_good question.Length n t s low h = good_none top

  mutual
    pub tree_good : (x : Tree) (s : Sort) → sort_of c x ≡ Some s → written_tree x ≡ true → (t : ℕ) →
        t + tree_nodes x + 4 ≤ 2 ^ 32 → GoodTree t x
    tree_good (Literal x) s h w t low = record { lines = good_none top; atom_in = short_number x s h; words_in = text_fits x w }
    tree_good (Number z) s h w t low = record {
      lines = good_none top;
      atom_in = wide_number z (sort_if_some (fits_64_bits z) sort.Exact s h).0;
      words_in = omega (arith, low);
    }
    tree_good (Constant n) s h w t low =
        let x = constant_there (slice_get c.unit.constants n) s h in
        let same : slice_index_or c.unit.constants n nothing ≡ x.0 = get_or_from_slice_get c.unit.constants n x.0 nothing x.1 in
        record {
          lines = good_none top;
          atom_in = subst (λ y. FitsAtom (literal y)) (sym same) (short_number x.0 s x.2);
          words_in = subst (λ y. FitsText (text.Literal (text_of y))) (sym same)
              (text_fits x.0 (each_constant c.unit.constants n x.0 known.constants x.1));
        }
    tree_good (Fixed k) s h w t low =
        let within = scalar_below c.own k s h in record {
          lines = good_none top;
          atom_in = omega (arith, within, known.numbers);
          words_in = omega (arith, within, known.numbers);
        }
    tree_good (Read a) s h w t low =
        let fit = some_behind (fits_access c a) (sort_of_name c.own a.name) s h in
        let both = and_parts (has_rank c.own a.name (length a.dimensions) && list_all (λ d. fits_along c d.along) a.dimensions)
        (fits_portion c.own a.name a.portion) fit.0 in
        let alongs = and_parts (has_rank c.own a.name (length a.dimensions)) (list_all (λ d. fits_along c d.along) a.dimensions)
        both.0 in
        let here : t < 4294967296 = omega (arith, low) in
        let there = array_below c.own a.name s fit.1 in
        in_t t (Read a) here refl refl
        (good_both (place_lines c.own nests t (array_number c.own a.name) 0 a.dimensions) _
        (place_good c nests known top t (array_number c.own a.name) 0 a.dimensions (omega (arith, low)) there
        (omega (arith, known.ranks a.name (length a.dimensions) alongs.0)) alongs.1)
        (good_both (cell_lines (sort_of_name c.own a.name) t (array_number c.own a.name) (place_atom c.own nests t a.dimensions)) _
        (cell_good c nests known top (sort_of_name c.own a.name) t (array_number c.own a.name)
        (place_atom c.own nests t a.dimensions) here there (place_atom_fits c nests known t a.dimensions here))
        (part_good c nests known top t a.name a.portion here both.1)))
    tree_good (Cell n x) s h w t low =
        let fit = some_behind (is_block c.own n && some_serves (sort_of c x) sort.Exact) (sort_of_name c.own n) s h in
        let two = and_parts (is_block c.own n) (some_serves (sort_of c x) sort.Exact) fit.0 in
        let sx = served (sort_of c x) sort.Exact two.1 in
        let here : t < 4294967296 = omega (arith, low) in
        let g = tree_good x sx.sort sx.is w t (omega (arith, low)) in
        in_t t (Cell n x) here refl refl (good_both (tree_lines c nests t x) _ g.lines
        (cell_good c nests known top (sort_of_name c.own n) t (array_number c.own n) (atom_of c nests t x) here
        (array_below c.own n s fit.1) g.atom_in))
    tree_good (Entry l x) s h w t low = in_t t (Entry l x) (omega (arith, low)) refl refl (good_none top)
    tree_good (Turn i) s h w t low = record {
      lines = good_none top;
      atom_in = loop_low c nests known i (sort_if_some (is_loop c i) sort.Exact s h).0;
      words_in = omega (arith, low);
    }
    tree_good (Place a) s h w t low =
        let e = sort_if_some (fits_access c a && is_some (sort_of_name c.own a.name)) sort.Exact s h in
        let fit = and_parts (fits_access c a) (is_some (sort_of_name c.own a.name)) e.0 in
        let r = there_is (sort_of_name c.own a.name) fit.1 in
        let both = and_parts (has_rank c.own a.name (length a.dimensions) && list_all (λ d. fits_along c d.along) a.dimensions)
        (fits_portion c.own a.name a.portion) fit.0 in
        let alongs = and_parts (has_rank c.own a.name (length a.dimensions)) (list_all (λ d. fits_along c d.along) a.dimensions)
        both.0 in
        let here : t < 4294967296 = omega (arith, low) in
        in_t t (Place a) here refl refl
        (good_both (place_lines c.own nests t (array_number c.own a.name) 0 a.dimensions) _
        (place_good c nests known top t (array_number c.own a.name) 0 a.dimensions (omega (arith, low))
        (array_below c.own a.name r.0 r.1) (omega (arith, known.ranks a.name (length a.dimensions) alongs.0)) alongs.1)
        (good_set t (int.Atom (place_atom c.own nests t a.dimensions)) [] here (place_atom_fits c nests known t a.dimensions here)
        (good_none top)))
    tree_good (Asked q n) s h w t low =
        let here : t < 4294967296 = omega (arith, low) in in_t t (Asked q n) here refl refl (asked_good q n t s here h)
    tree_good (Unary op x) s h w t low =
        let fit = unary_fits op (sort_of c x) s h in
        let sx = served (sort_of c x) (unary_asks op) fit.0 in
        let here : t < 4294967296 = omega (arith, low) in
        let g = tree_good x sx.sort sx.is w t (omega (arith, low)) in
        in_t t (Unary op x) here refl refl (good_both (tree_lines c nests t x) _ g.lines
        (unary_good deep top t op (atom_of c nests t x) here g.atom_in))
    tree_good (Binary op x y) s h w t low =
        let texts = some_serves (sort_of c x) sort.Text in
        let fit = binary_fits op (sort_of c x) (sort_of c y) s h in
        let sx = served (sort_of c x) (asks op texts) fit.0 in
        let sy = served (sort_of c y) (asks op texts) fit.1 in
        let two = and_parts (written_tree x) (written_tree y) w in
        let g = tree_good x sx.sort sx.is two.0 t (omega (arith, low)) in
        let k = tree_good y sy.sort sy.is two.1 (suc t) (omega (arith, low, some_nodes x)) in
        in_t t (Binary op x y) (omega (arith, low)) refl refl (good_both (tree_lines c nests t x) _ g.lines
        (good_both (tree_lines c nests (suc t) y) _ k.lines
        (binary_good deep top t (omega (arith, low)) texts op (atom_of c nests t x) (atom_of c nests (suc t) y) (words_of c nests t x)
        (words_of c nests (suc t) y) g.atom_in k.atom_in g.words_in k.words_in)))
    tree_good (Exactly op x y) s h w t low =
        let fit = (sort_if_some (both_serve (sort_of c x) (sort_of c y) sort.Exact) (exact_sort op) s h).0 in
        let both = and_parts (some_serves (sort_of c x) sort.Exact) (some_serves (sort_of c y) sort.Exact) fit in
        let sx = served (sort_of c x) sort.Exact both.0 in
        let sy = served (sort_of c y) sort.Exact both.1 in
        let two = and_parts (written_tree x) (written_tree y) w in
        let g = tree_good x sx.sort sx.is two.0 t (omega (arith, low)) in
        let k = tree_good y sy.sort sy.is two.1 (suc t) (omega (arith, low, some_nodes x)) in
        in_t t (Exactly op x y) (omega (arith, low)) refl refl (good_both (tree_lines c nests t x) _ g.lines
        (good_both (tree_lines c nests (suc t) y) _ k.lines
        (exact_good deep top t (omega (arith, low)) op (atom_of c nests t x) (atom_of c nests (suc t) y) g.atom_in k.atom_in)))
    tree_good (Wrapped x) s h w t low =
        let sx = served (sort_of c x) sort.Exact (sort_if_some (some_serves (sort_of c x) sort.Exact) sort.Int s h).0 in
        let here : t < 4294967296 = omega (arith, low) in
        let g = tree_good x sx.sort sx.is w t (omega (arith, low)) in
        in_t t (Wrapped x) here refl refl (good_both (tree_lines c nests t x) _ g.lines
        (good_set t (int.Wrap (atom_of c nests t x)) [] here g.atom_in (good_none top)))
    tree_good (Each which ts) s h w t low =
        let sorted = all_sorted c which ts s h in
        let g = trees_good ts sorted w t (omega (arith, low)) in
        in_t t (Each which ts) (omega (arith, low)) refl refl (good_both (trees_lines c nests t ts) _ g.0
        (each_good which t ts (omega (arith, low, as_many ts)) g.1))
    tree_good (Trim x) s h w t low =
        let sx = served (sort_of c x) sort.Text (sort_if_some (some_serves (sort_of c x) sort.Text) sort.Text s h).0 in
        let here : t < 4294967296 = omega (arith, low) in
        let g = tree_good x sx.sort sx.is w t (omega (arith, low)) in
        in_t t (Trim x) here refl refl (good_both (tree_lines c nests t x) _ g.lines
        (good_say t (words.Trim (words_of c nests t x)) [] here g.words_in (good_none top)))
    tree_good (Len x) s h w t low =
        let sx = served (sort_of c x) sort.Text (sort_if_some (some_serves (sort_of c x) sort.Text) sort.Exact s h).0 in
        let here : t < 4294967296 = omega (arith, low) in
        let g = tree_good x sx.sort sx.is w t (omega (arith, low)) in
        in_t t (Len x) here refl refl (good_both (tree_lines c nests t x) _ g.lines
        (good_set t (int.Length (words_of c nests t x)) [] here g.words_in (good_none top)))
    tree_good (Applied r blank p ts) s h w t low = in_t t (Applied r blank p ts) (omega (arith, low)) refl refl (good_none top)

    trees_good : (ts : Trees) → AllSorted c ts → written_trees ts ≡ true → (t : ℕ) → t + trees_nodes ts + 4 ≤ 2 ^ 32 →
        Good room loop (trees_lines c nests t ts) × AtomsFit t ts
    trees_good no_tree sorted w t low = (good_none top, tt)
    trees_good (tree place x ts) sorted w t low =
        let two = and_parts (written_tree x) (written_trees ts) w in
        let g = tree_good x sorted.0.0 sorted.0.1 two.0 t (omega (arith, low)) in
        let k = trees_good ts sorted.1 two.1 (suc t) (omega (arith, low, some_nodes x)) in
        (good_both (tree_lines c nests t x) (trees_lines c nests (suc t) ts) g.lines k.0, ((g.atom_in, g.words_in), k.1))
