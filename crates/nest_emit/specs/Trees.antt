-- The lines that leave the value of an element tree in an atom. They use the variables from number t on; a leaf needs no line.
use Rattle.std.specs.Prelude.{ℕ, suc, ℤ, pos, Bool, true, false, List, [], ◌∷◌, ◌++◌, Option, Some, None, slice_index_or, ◌-◌, nat_eq, if◌then◌else◌, ◌+◌}
use Rattle.a95_base.specs.declared.fault.FaultKind.{FaultKind}
use Rattle.a95_base.specs.declared.fault.FaultKind.TheVariants as fault
use Rattle.a95_base.specs.declared.scalar.Scalar.{Scalar}
use Rattle.a95_base.specs.declared.scalar.Scalar.TheVariants as scalar
use Rattle.f95_unit.specs.declared.operation.UnaryOp.{UnaryOp}
use Rattle.f95_unit.specs.declared.operation.UnaryOp.TheVariants as unary
use Rattle.f95_unit.specs.declared.operation.BinaryOp.{BinaryOp}
use Rattle.f95_unit.specs.declared.operation.BinaryOp.TheVariants as binary
use Rattle.array_meaning.specs.Values.{nothing, text_of}
use Rattle.nest_tree.specs.declared.access.Along.{Along}
use Rattle.nest_tree.specs.declared.access.Along.TheVariants as along
use Rattle.nest_tree.specs.declared.access.Amount.{Amount}
use Rattle.nest_tree.specs.declared.access.Amount.TheVariants as amounts
use Rattle.nest_tree.specs.declared.access.Dimension.{Dimension}
use Rattle.nest_tree.specs.declared.access.Portion.{Portion}
use Rattle.nest_tree.specs.declared.tree.Exact.{Exact}
use Rattle.nest_tree.specs.declared.tree.Exact.TheVariants as exact
use Rattle.nest_tree.specs.declared.unit.Sort.{Sort}
use Rattle.nest_tree.specs.declared.unit.Sort.TheVariants as sort
use Rattle.f95_unit.specs.declared.operation.Elemental.{Elemental}
use Rattle.f95_unit.specs.declared.operation.Elemental.TheVariants as elemental
use Rattle.nest_tree.specs.Plain.{Procedure, Tree, Literal, Number, Constant, Fixed, Read, Turn, Unary, Binary, Exactly, Wrapped, Trim, Len, Asked, Cell, Place, Each, Trees, no_tree, tree}
use Rattle.nest_tree.specs.Sound.{Scope, sort_of, sorts_of, elemental_sort, some_serves, sort_of_name}
use Rattle.loop_tree.specs.declared.atom.Atom.{Atom}
use Rattle.loop_tree.specs.declared.atom.Atom.TheVariants as atom
use Rattle.loop_tree.specs.declared.atom.TextAtom.{TextAtom}
use Rattle.loop_tree.specs.declared.atom.TextAtom.TheVariants as text
use Rattle.loop_tree.specs.declared.atom.Operator.{Operator}
use Rattle.loop_tree.specs.declared.atom.Operator.TheVariants as operator
use Rattle.loop_tree.specs.declared.row.IntValue.{IntValue}
use Rattle.loop_tree.specs.declared.row.IntValue.TheVariants as int
use Rattle.loop_tree.specs.declared.row.TextValue.{TextValue}
use Rattle.loop_tree.specs.declared.row.TextValue.TheVariants as words
use Rattle.loop_tree.specs.declared.row.ControlRow.TheVariants as control
use Rattle.loop_tree.specs.declared.row.Row.TheVariants as row
use Rattle.loop_tree.specs.declared.tree.Stmt.{Stmt}
use Rattle.loop_tree.specs.declared.tree.Stmt.TheVariants as stmt
use Rattle.loop_tree.specs.Values.{truth}
use Rattle.nest_emit.specs.Numbers.{array_number, lower_number, extent_number, scalar_number, loop_number}
use Rattle.loop_tree.specs.declared.atom.Reference.{Reference}
use Rattle.loop_tree.specs.declared.atom.Reference.TheVariants as reference
use Rattle.nest_tree.specs.declared.tree.Question.{Question}
use Rattle.nest_tree.specs.declared.tree.Question.TheVariants as question

-- ---- rows

abbrev pub set : ℕ → IntValue → Stmt
set t x = stmt.Row (row.Int t x)

abbrev pub say : ℕ → TextValue → Stmt
say t x = stmt.Row (row.Text t x)

-- a value by its sort, into a variable
abbrev pub keep : Option Sort → ℕ → Atom → TextAtom → Stmt
keep (Some sort.Text) n a w = say n (words.Atom w)
keep s n a w = set n (int.Atom a)

abbrev pub compute : ℕ → Atom → Operator → Atom → Stmt
compute t a op b = set t (int.Operation a op b)

-- a fault where the atom is 0
abbrev pub unless_fault : Atom → FaultKind → Stmt
unless_fault a kind = stmt.IfElse a [] (stmt.Row (row.Control (control.Fault kind)) ∷ [])

-- ---- values that are known in the text

-- the integer that stands for a scalar in the machine
abbrev pub number_for : Scalar → ℤ
number_for (scalar.Int z) = z
number_for (scalar.Log b) = truth b
number_for (scalar.Text bytes) = pos 0

abbrev pub literal : Scalar → Atom
literal x = atom.Number (number_for x)

abbrev pub amount_atom : Procedure → Amount → Atom
amount_atom q (amounts.Number z) = atom.Number z
amount_atom q (amounts.Kept k) = atom.Int (scalar_number q k)

-- ---- operators

-- what an INTEGER is, in 32 bits
abbrev pub computed : ℕ → Atom → Operator → Atom → List Stmt
computed t a op b = compute t a op b ∷ set t (int.Wrap (atom.Int t)) ∷ []

abbrev pub unary_lines : UnaryOp → ℕ → Atom → List Stmt
unary_lines unary.Plus t a = set t (int.Atom a) ∷ []
unary_lines unary.Minus t a = computed t (atom.Number (pos 0)) operator.Subtract a
unary_lines unary.Not t a = compute t a operator.Equal (atom.Number (pos 0)) ∷ []

-- 1 where two integers compare so, else 0
abbrev pub compare_line : BinaryOp → ℕ → Atom → Atom → Stmt
compare_line binary.Equal t a b = compute t a operator.Equal b
compare_line binary.NotEqual t a b = compute t a operator.NotEqual b
compare_line binary.Less t a b = compute t a operator.Less b
compare_line binary.LessEqual t a b = compute t a operator.LessEqual b
compare_line binary.Greater t a b = compute t b operator.Less a
compare_line op t a b = compute t b operator.LessEqual a

-- of texts the order of their bytes is compared with 0
abbrev pub compared_lines : Bool → BinaryOp → ℕ → Atom → Atom → TextAtom → TextAtom → List Stmt
compared_lines true op t a b v w = set t (int.Compare v w) ∷ compare_line op t (atom.Int t) (atom.Number (pos 0)) ∷ []
compared_lines false op t a b v w = compare_line op t a b ∷ []

-- By a negative exponent it is one divided by the base, or by its square, as the exponent is odd or even: that is the same
abbrev pub inverse_lines : ℕ → ℕ → Atom → Atom → List Stmt
inverse_lines t test a b = unless_fault a fault.ZeroDivide ∷ compute test b operator.Remainder (atom.Number (pos 2))
    ∷ stmt.IfElse (atom.Int test) (set test (int.Atom a) ∷ []) (compute test a operator.Multiply a ∷ [])
    ∷ computed t (atom.Number (pos 1)) operator.Divide (atom.Int test)

abbrev pub power_lines : ℕ → ℕ → Atom → Atom → List Stmt
power_lines t test a b = compute test b operator.Less (atom.Number (pos 0))
    ∷ stmt.IfElse (atom.Int test) (inverse_lines t test a b) (set t (int.Power a b) ∷ []) ∷ []

abbrev pub binary_lines : Bool → BinaryOp → ℕ → Atom → Atom → TextAtom → TextAtom → List Stmt
binary_lines texts binary.Power t a b v w = power_lines t (suc (suc t)) a b
binary_lines texts binary.Multiply t a b v w = computed t a operator.Multiply b
binary_lines texts binary.Divide t a b v w = unless_fault b fault.ZeroDivide ∷ computed t a operator.Divide b
binary_lines texts binary.Add t a b v w = computed t a operator.Add b
binary_lines texts binary.Subtract t a b v w = computed t a operator.Subtract b
binary_lines texts binary.Concat t a b v w = say t (words.Join v w) ∷ []
binary_lines texts binary.And t a b v w = compute t a operator.And b ∷ []
binary_lines texts binary.Or t a b v w = compute t a operator.Or b ∷ []
binary_lines texts binary.Equivalent t a b v w = compute t a operator.Equal b ∷ []
binary_lines texts binary.NotEquivalent t a b v w = compute t a operator.NotEqual b ∷ []
binary_lines texts op t a b v w = compared_lines texts op t a b v w

-- the operators on exact integers that are one row
abbrev pub exact_operator : Exact → Operator
exact_operator exact.Minus = operator.Subtract
exact_operator exact.Times = operator.Multiply
exact_operator exact.Over = operator.Divide
exact_operator exact.Below = operator.Less
exact_operator exact.AtMost = operator.LessEqual
exact_operator exact.Same = operator.Equal
exact_operator other = operator.Add

-- the greater or the less of two, by a test in a variable further on
abbrev pub chosen_lines : ℕ → Atom → Atom → Atom → Atom → List Stmt
chosen_lines t a b x y = compute (suc (suc t)) b operator.Less a
    ∷ stmt.IfElse (atom.Int (suc (suc t))) (set t (int.Atom x) ∷ []) (set t (int.Atom y) ∷ []) ∷ []

abbrev pub exact_lines : Exact → ℕ → Atom → Atom → List Stmt
exact_lines exact.Most t a b = chosen_lines t a b a b
exact_lines exact.Least t a b = chosen_lines t a b b a
exact_lines op t a b = compute t a (exact_operator op) b ∷ []

-- ---- elemental functions

abbrev pub count_trees : Trees → ℕ
count_trees no_tree = 0
count_trees (tree place x ts) = suc (count_trees ts)

-- the absolute value
abbrev pub absolute_lines : ℕ → Atom → List Stmt
absolute_lines t a = compute t a operator.Less (atom.Number (pos 0))
    ∷ stmt.IfElse (atom.Int t) (compute t (atom.Number (pos 0)) operator.Subtract a ∷ []) (set t (int.Atom a) ∷ []) ∷ []

-- of the first arguments, with free variables behind all of them
abbrev pub elemental_lines : Elemental → ℕ → ℕ → Atom → Atom → TextAtom → List Stmt
elemental_lines elemental.Abs t test a b v = absolute_lines test a ++ (set t (int.Wrap (atom.Int test)) ∷ [])
elemental_lines elemental.Mod t test a b v = unless_fault b fault.ZeroDivide ∷ compute t a operator.Remainder b ∷ []
elemental_lines elemental.Modulo t test a b v = unless_fault b fault.ZeroDivide ∷ compute test a operator.Remainder b
    ∷ compute test (atom.Int test) operator.Add b ∷ compute t (atom.Int test) operator.Remainder b ∷ []
elemental_lines elemental.Sign t test a b v = absolute_lines test a ++ (compute (suc test) b operator.Less (atom.Number (pos 0))
    ∷ stmt.IfElse (atom.Int (suc test)) (computed t (atom.Number (pos 0)) operator.Subtract (atom.Int test))
    (set t (int.Wrap (atom.Int test)) ∷ []) ∷ [])
elemental_lines elemental.Iand t test a b v = computed t a operator.And b
elemental_lines elemental.Ior t test a b v = computed t a operator.Or b
elemental_lines elemental.Ieor t test a b v = set t (int.Xor a b) ∷ set t (int.Wrap (atom.Int t)) ∷ []
elemental_lines elemental.Char t test a b v = compute test (atom.Number (pos 0)) operator.LessEqual a
    ∷ unless_fault (atom.Int test) fault.CharRange ∷ compute test a operator.Less (atom.Number (pos 256))
    ∷ unless_fault (atom.Int test) fault.CharRange ∷ say t (words.Char a) ∷ []
elemental_lines elemental.Adjustl t test a b v = say t (words.Left v) ∷ []
elemental_lines elemental.Adjustr t test a b v = say t (words.Right v) ∷ []
elemental_lines which t test a b v = []

-- a better value is kept in a variable, where the test behind it tells
abbrev pub better_line : Bool → (best : ℕ) → Atom → Stmt
better_line true best a = stmt.IfElse (atom.Int (suc best)) [] (set best (int.Atom a) ∷ [])
better_line false best a = stmt.IfElse (atom.Int (suc best)) (set best (int.Atom a) ∷ []) []

-- ---- places

module _ (q : Procedure) (nests : ℕ) where
  abbrev pub subscript_atom : ℕ → Along → Atom
  subscript_atom t (along.Alone a) = amount_atom q a
  subscript_atom t other = atom.Int t

  abbrev pub subscript_lines : ℕ → Along → List Stmt
  subscript_lines t (along.Alone a) = []
  subscript_lines t (along.Steps loop start stride) =
      compute t (atom.Loop (loop_number nests loop)) operator.Multiply (amount_atom q stride)
      ∷ compute t (amount_atom q start) operator.Add (atom.Int t) ∷ []
  subscript_lines t (along.Listed loop list) = []

  -- the number of the element, from the last dimension to the first
  abbrev pub place_atom : ℕ → List Dimension → Atom
  place_atom t [] = atom.Number (pos 0)
  place_atom t (d ∷ more) = atom.Int t

  abbrev pub place_lines : ℕ → ℕ → ℕ → List Dimension → List Stmt
  place_lines t array dim [] = []
  place_lines t array dim (d ∷ []) = subscript_lines t d.along
      ++ (compute t (subscript_atom t d.along) operator.Subtract (atom.Int (lower_number array dim)) ∷ [])
  place_lines t array dim (d ∷ e ∷ more) = place_lines t array (suc dim) (e ∷ more)
      ++ (compute t (atom.Int (extent_number array dim)) operator.Multiply (atom.Int t) ∷ (subscript_lines (suc t) d.along
      ++ (compute (suc t) (subscript_atom (suc t) d.along) operator.Subtract (atom.Int (lower_number array dim))
      ∷ compute t (atom.Int t) operator.Add (atom.Int (suc t)) ∷ [])))

-- ---- texts

-- the bytes of a text that an access names
abbrev pub part_lines : Procedure → ℕ → Option Portion → List Stmt
part_lines q t None = []
part_lines q t (Some p) = say t (words.Part (text.Variable t) (amount_atom q p.first) (amount_atom q p.last)) ∷ []

-- ---- trees

abbrev pub reference_to : Option Sort → ℕ → Reference
reference_to (Some sort.Text) array = reference.Texts array
reference_to s array = reference.Ints array

-- what is known of an array: its bounds stand in variables
abbrev pub asked_lines : Question → ℕ → ℕ → Reference → List Stmt
asked_lines (question.Lower dim) t array r = set t (int.Atom (atom.Int (lower_number array (dim - 1)))) ∷ []
asked_lines (question.Extent dim) t array r = set t (int.Atom (atom.Int (extent_number array (dim - 1)))) ∷ []
asked_lines question.Size t array r = set t (int.Size r) ∷ []
asked_lines question.Allocated t array r = set t (int.Live r) ∷ []
asked_lines q t array r = []

-- a cell, of a block of integers or of texts
abbrev pub cell_lines : Option Sort → ℕ → ℕ → Atom → List Stmt
cell_lines (Some sort.Text) t array place = say t (words.Cell array place) ∷ []
cell_lines s t array place = set t (int.Cell array place) ∷ []

module _ (c : Scope) (nests : ℕ) where
  abbrev pub atom_of : ℕ → Tree → Atom
  atom_of t (Literal x) = literal x
  atom_of t (Number z) = atom.Number z
  atom_of t (Constant n) = literal (slice_index_or c.unit.constants n nothing)
  atom_of t (Fixed k) = atom.Int (scalar_number c.own k)
  atom_of t (Turn loop) = atom.Loop (loop_number nests loop)
  atom_of t other = atom.Int t

  abbrev pub words_of : ℕ → Tree → TextAtom
  words_of t (Literal x) = text.Literal (text_of x)
  words_of t (Constant n) = text.Literal (text_of (slice_index_or c.unit.constants n nothing))
  words_of t (Fixed k) = text.Variable (scalar_number c.own k)
  words_of t other = text.Variable t

  -- the argument with a place, where the first of the arguments stands at number t
  abbrev pub atom_at : (place t : ℕ) → Trees → Atom
  atom_at place t no_tree = atom.Number (pos 0)
  atom_at place t (tree p x ts) = if nat_eq p place then atom_of t x else atom_at place (suc t) ts

  abbrev pub words_at : (place t : ℕ) → Trees → TextAtom
  words_at place t no_tree = text.Literal []
  words_at place t (tree p x ts) = if nat_eq p place then words_of t x else words_at place (suc t) ts

  -- the greatest or the least of INTEGERs: that of the arguments so far stands in a variable, the others from number k on
  abbrev pub better_lines : Bool → (best k : ℕ) → Trees → List Stmt
  better_lines greatest best k no_tree = []
  better_lines greatest best k (tree place x ts) = compute (suc best) (atom_of k x) operator.Less (atom.Int best)
      ∷ better_line greatest best (atom_of k x) ∷ better_lines greatest best (suc k) ts

  abbrev pub best_lines : Bool → (t best : ℕ) → Trees → List Stmt
  best_lines greatest t best no_tree = []
  best_lines greatest t best (tree place x ts) = set best (int.Atom (atom_of t x)) ∷ (better_lines greatest best (suc t) ts
      ++ (set t (int.Atom (atom.Int best)) ∷ []))

  -- an elemental function of arguments from number t on
  abbrev pub each_lines : Elemental → ℕ → Trees → List Stmt
  each_lines elemental.Max t ts = best_lines true t (t + count_trees ts) ts
  each_lines elemental.Min t ts = best_lines false t (t + count_trees ts) ts
  each_lines elemental.Merge t ts = stmt.IfElse (atom_at 2 t ts)
      (keep (elemental_sort elemental.Merge (sorts_of c ts)) t (atom_at 0 t ts) (words_at 0 t ts) ∷ [])
      (keep (elemental_sort elemental.Merge (sorts_of c ts)) t (atom_at 1 t ts) (words_at 1 t ts) ∷ []) ∷ []
  each_lines which t ts = elemental_lines which t (t + count_trees ts) (atom_at 0 t ts) (atom_at 1 t ts) (words_at 0 t ts)

  abbrev mutual
    pub tree_lines : ℕ → Tree → List Stmt
    tree_lines t (Read a) = place_lines c.own nests t (array_number c.own a.name) 0 a.dimensions
        ++ (cell_lines (sort_of_name c.own a.name) t (array_number c.own a.name) (place_atom c.own nests t a.dimensions)
        ++ part_lines c.own t a.portion)
    tree_lines t (Cell n x) = tree_lines t x ++ cell_lines (sort_of_name c.own n) t (array_number c.own n) (atom_of t x)
    tree_lines t (Place a) = place_lines c.own nests t (array_number c.own a.name) 0 a.dimensions
        ++ (set t (int.Atom (place_atom c.own nests t a.dimensions)) ∷ [])
    tree_lines t (Asked q n) = asked_lines q t (array_number c.own n) (reference_to (sort_of_name c.own n) (array_number c.own n))
    tree_lines t (Each which ts) = trees_lines t ts ++ each_lines which t ts
    tree_lines t (Unary op x) = tree_lines t x ++ unary_lines op t (atom_of t x)
    tree_lines t (Binary op x y) = tree_lines t x ++ (tree_lines (suc t) y
        ++ binary_lines (some_serves (sort_of c x) sort.Text) op t (atom_of t x) (atom_of (suc t) y) (words_of t x)
        (words_of (suc t) y))
    tree_lines t (Exactly op x y) = tree_lines t x ++ (tree_lines (suc t) y
        ++ exact_lines op t (atom_of t x) (atom_of (suc t) y))
    tree_lines t (Wrapped x) = tree_lines t x ++ (set t (int.Wrap (atom_of t x)) ∷ [])
    tree_lines t (Trim x) = tree_lines t x ++ (say t (words.Trim (words_of t x)) ∷ [])
    tree_lines t (Len x) = tree_lines t x ++ (set t (int.Length (words_of t x)) ∷ [])
    tree_lines t other = []

    pub trees_lines : ℕ → Trees → List Stmt
    trees_lines t no_tree = []
    trees_lines t (tree place x ts) = tree_lines t x ++ trees_lines (suc t) ts
