-- The rows of an element that is read and of exact integers leave their values.
use Rattle.std.proofs.Common.{◌≡◌, ℕ, suc, ◌<◌, ◌≤◌, ◌^◌, Bool, true, false, ◌&&◌, List, [], ◌∷◌, ◌++◌, Option, Some, None, refl, sym, ap, ◌∙◌, subst, arith, ℤ, pos, length, if◌then◌else◌}
use Rattle.std.specs.Prelude.{Ok, map, get_or, ◌+ℤ◌, ◌-ℤ◌, ◌*ℤ◌, int_le, int_lt, int_div, cond}
use Rattle.std.specs.Int.{w64, int_wrap}
use Rattle.std.specs.Ordering.{int_eq}
use Rattle.std.proofs.lemmas.List.{get_or-map, length-map}
use Rattle.a95_base.specs.declared.scalar.Scalar.{Scalar}
use Rattle.a95_base.specs.declared.scalar.Scalar.TheVariants as scalar
use Rattle.a95_base.specs.Lists.{Every}
use Rattle.a95_base.specs.Steps.{Ran}
use Rattle.array_meaning.specs.Values.{integer_of, text_of, length_of}
use Rattle.array_meaning.specs.State.{Array, Variable, Substring}
use Rattle.nest_tree.specs.declared.access.Access.{Access}
use Rattle.nest_tree.specs.declared.tree.Exact.{Exact}
use Rattle.nest_tree.specs.declared.tree.Exact.TheVariants as exact
use Rattle.nest_tree.specs.declared.unit.Sort.{Sort}
use Rattle.nest_tree.specs.declared.unit.Sort.TheVariants as sort
use Rattle.nest_tree.specs.Plain.{Procedure, Tree, Literal, Number, Constant, Fixed, Turn}
use Rattle.nest_tree.specs.State.{NestState, Memory, Halt, on}
use Rattle.nest_tree.specs.Places.{place, portion_of, Aim, aimed_by}
use Rattle.array_meaning.specs.Sections.{is_part, part_bytes}
use Rattle.nest_tree.specs.Elements.{int, in_64_bits, exact_of, least_exact}
use Rattle.nest_tree.specs.Sound.{Scope, sort_of, exact_sort}
use Rattle.loop_tree.specs.declared.atom.Atom.{Atom}
use Rattle.loop_tree.specs.declared.atom.Atom.TheVariants as atom
use Rattle.loop_tree.specs.declared.atom.Operator.{Operator}
use Rattle.loop_tree.specs.declared.atom.Operator.TheVariants as operator
use Rattle.loop_tree.specs.declared.row.IntValue.TheVariants as int_row
use Rattle.loop_tree.specs.declared.row.TextValue.TheVariants as words
use Rattle.loop_tree.specs.declared.tree.CodeLine.{CodeLine}
use Rattle.loop_tree.specs.declared.tree.CodeLine.TheVariants as code
use Rattle.loop_tree.specs.declared.tree.Stmt.TheVariants as stmt
use Rattle.loop_tree.specs.declared.tree.Function.{Function}
use Rattle.loop_tree.specs.Lines.{flats}
use Rattle.loop_tree.specs.State.{Brace, Cells, Ints, Texts, Block, cells_or_stuck}
use Rattle.loop_tree.specs.Values.{number_at, text_at, truth, operation, and_then, ints_at, texts_at, ints_of, texts_of, int_cell, text_cell, block_at, holds}
use Rattle.loop_laws.specs.At.{Variables, value_of, bytes_of}
use Rattle.loop_laws.proofs.Within.{int_within as int_there_within, text_within as text_there_within, truth_holds}
use Rattle.nest_emit.specs.Numbers.{first_free, scalar_number, loop_number}
use Rattle.nest_emit.specs.Trees.{set, compute, number_for, cell_lines, atom_of, words_of, exact_lines, chosen_lines}
use Rattle.nest_emit.specs.Meets.{DoesAt}
use Rattle.nest_emit.specs.Kin.{IsOf, Shows, cells_of as block_cells, held, block_of, Around, Kin, Keeps}
use Rattle.nest_emit.proofs.Values.{some_is, scalar_below}
use Rattle.nest_emit.proofs.Rows.{read_int_cell, read_text_cell, adds, subtracts, multiplies, is_less, is_at_most, is_equal, set_does, say_does, compute_does, read_atom, divides}
use Rattle.nest_emit.proofs.Indices.{wrap_fits}
use Rattle.nest_emit.proofs.Runs.{either_does, behind_else, behind_close}
use Rattle.nest_emit.proofs.Kin.{keeps_then, keeps_less}
use Rattle.a95_base.proofs.Lists.{each_at}

-- ---- an element that an access aims at

-- the array, the number of the element in it, and that the part of it is one of its text
pub record Aiming (held : Option Array) (m : Memory) (turn : List ℕ) (a : Access) (blank : Scalar) : Type 0 where
  pub array : Array
  pub there : held ≡ Some array
  pub number : ℕ
  pub placed : place m.temps.setting turn array.bounds a ≡ Some number
  pub part : is_part (length_of blank) (portion_of m.temps.setting a.portion) ≡ true

abbrev pub aim_at : Variable → Array → ℕ → Substring → Aim
aim_at v array number bytes = record { block = v; array = array; number = number; bytes = bytes }

-- what comes of it
pub aiming : {A : Type 0} (v : Variable) (o : Option Array) (m : Memory) (turn : List ℕ) (a : Access) (f : Aim → Option A) (x : A) →
    on (on o (λ h. on (place m.temps.setting turn h.bounds a) (aimed_by v h (portion_of m.temps.setting a.portion)))) f ≡ Some x →
    (k : Aiming o m turn a v.blank)
    × (f (aim_at v k.array k.number (part_bytes (portion_of m.temps.setting a.portion))) ≡ Some x)
aiming v None m turn a f x h = cc
aiming {A} v (Some array) m turn a f x h = by (place m.temps.setting turn array.bounds a) refl h
  where
    parted : (k : ℕ) → place m.temps.setting turn array.bounds a ≡ Some k →
        (b : Bool) → is_part (length_of v.blank) (portion_of m.temps.setting a.portion) ≡ b →
        on (if b then Some (aim_at v array k (part_bytes (portion_of m.temps.setting a.portion))) else None) f ≡ Some x →
        (k : Aiming (Some array) m turn a v.blank) × (f (aim_at v k.array k.number (part_bytes (portion_of m.temps.setting a.portion))) ≡ Some x)
    parted k e true is g = (record { array = array; there = refl; number = k; placed = e; part = is }, g)
    parted k e false is g = cc

    by : (o : Option ℕ) → place m.temps.setting turn array.bounds a ≡ o →
        on (on o (aimed_by v array (portion_of m.temps.setting a.portion))) f ≡ Some x →
        (k : Aiming (Some array) m turn a v.blank) × (f (aim_at v k.array k.number (part_bytes (portion_of m.temps.setting a.portion))) ≡ Some x)
    by None e g = cc
    by (Some k) e g = parted k e (is_part (length_of v.blank) (portion_of m.temps.setting a.portion)) refl g

pub ints_there : (blocks : List Block) (r : Option ℕ) (cells : List ℤ) → held blocks r ≡ Some (Ints cells) →
    ints_at blocks r ≡ Ok cells
ints_there blocks None cells h = cc
ints_there blocks (Some n) cells h = ap (λ (o : Option Cells). and_then (cells_or_stuck o) ints_of) h

pub texts_there : (blocks : List Block) (r : Option ℕ) (cells : List (List ℕ)) → held blocks r ≡ Some (Texts cells) →
    texts_at blocks r ≡ Ok cells
texts_there blocks None cells h = cc
texts_there blocks (Some n) cells h = ap (λ (o : Option Cells). and_then (cells_or_stuck o) texts_of) h

-- ---- the rows of leaves

module _ {functions : List Function} {limit : ℕ} {q : Procedure} {around : Around} {n : NestState} {braces : List Brace}
    {r : Ran Halt NestState (Unit {0})} (t : ℕ) (w : Variables) (lines : List CodeLine) (free : first_free q ≤ t)
    (kin : Kin q around n w) where
  number_cell : (array : ℕ) (at : Atom) (xs : List Scalar) (k : ℕ) (blank : Scalar) →
      held w.blocks (block_at w.int_blocks array) ≡ Some (Ints (map number_for xs)) → value_of w at ≡ pos k → k < length xs →
      ((u : Variables) → Kin q around n u → Keeps t w u → number_at u.ints t ≡ number_for (get_or xs k blank) →
      DoesAt functions limit n u lines braces r) →
      DoesAt functions limit n w (flats (set t (int_row.Cell array at) ∷ []) ++ lines) braces r
  number_cell array at xs k blank there value below next =
      set_does t w [] lines free kin (int_row.Cell array at) (number_at (map number_for xs) k) refl
      (read_int_cell w array at
      ∙ ap (λ cells. and_then cells (λ c. int_cell c (value_of w at)))
      (ints_there w.blocks (block_at w.int_blocks array) (map number_for xs) there)
      ∙ int_there_within (map number_for xs) (value_of w at) k value (subst (λ m. k < m) (sym (length-map xs number_for)) below))
      (λ u k' keep is. next u k' keep (is ∙ get_or-map number_for xs k blank (pos 0) below))

  pub cell_does : (s : Sort) (array : ℕ) (at : Atom) (xs : List Scalar) (k : ℕ) (blank : Scalar) →
      held w.blocks (block_of s w array) ≡ Some (block_cells s xs) → Every (IsOf s) xs → value_of w at ≡ pos k → k < length xs →
      ((u : Variables) → Kin q around n u → Keeps t w u → Shows s (number_at u.ints t) (text_at u.texts t) (get_or xs k blank) →
      DoesAt functions limit n u lines braces r) →
      DoesAt functions limit n w (flats (cell_lines (Some s) t array at) ++ lines) braces r
  cell_does sort.Exact array at xs k blank there sorted value below next =
      number_cell array at xs k blank there value below
      (λ u k' keep is. next u k' keep (record { of = each_at (IsOf sort.Exact) xs k blank sorted below; value = is }))
  cell_does sort.Int array at xs k blank there sorted value below next =
      number_cell array at xs k blank there value below
      (λ u k' keep is. next u k' keep (record { of = each_at (IsOf sort.Int) xs k blank sorted below; value = is }))
  cell_does sort.Log array at xs k blank there sorted value below next =
      number_cell array at xs k blank there value below
      (λ u k' keep is. next u k' keep (record { of = each_at (IsOf sort.Log) xs k blank sorted below; value = is }))
  cell_does sort.Text array at xs k blank there sorted value below next =
      say_does t w [] lines free kin (words.Cell array at) (text_at (map text_of xs) k)
      (read_text_cell w array at
      ∙ ap (λ cells. and_then cells (λ c. text_cell c (value_of w at)))
      (texts_there w.blocks (block_at w.text_blocks array) (map text_of xs) there)
      ∙ text_there_within (map text_of xs) (value_of w at) k value (subst (λ m. k < m) (sym (length-map xs text_of)) below))
      (λ u k' keep is. next u k' keep (record {
        of = each_at (IsOf sort.Text) xs k blank sorted below;
        value = is ∙ get_or-map text_of xs k blank [] below;
      }))

-- ---- exact integers

kept_64 : (z : ℤ) (x : Scalar) (b : Bool) → (int_le least_exact z && int_lt z (pos (2 ^ 63))) ≡ b →
    (if b then Some (int z) else None) ≡ Some x →
    (int z ≡ x) × (int_wrap w64 z ≡ z)
kept_64 z x true e h = (cc, wrap_fits z e)
kept_64 z x false e h = cc

pub in_64 : (z : ℤ) (x : Scalar) → in_64_bits z ≡ Some x → (int z ≡ x) × (int_wrap w64 z ≡ z)
in_64 z x h = kept_64 z x (int_le least_exact z && int_lt z (pos (2 ^ 63))) refl h

quotient_64 : (x y : ℤ) (z : Scalar) (b : Bool) → int_eq y (pos 0) ≡ b → (if b then None else in_64_bits (int_div x y)) ≡ Some z →
    (int_eq y (pos 0) ≡ false) × (in_64_bits (int_div x y) ≡ Some z)
quotient_64 x y z true e h = cc
quotient_64 x y z false e h = (e, h)

module _ {functions : List Function} {limit : ℕ} {q : Procedure} {around : Around} {n : NestState} {braces : List Brace}
    {r : Ran Halt NestState (Unit {0})} (t : ℕ) (w : Variables) (lines : List CodeLine) (free : first_free q ≤ t)
    (kin : Kin q around n w) (a b : Atom) (x y z : Scalar) (left : value_of w a ≡ integer_of x)
    (right : value_of w b ≡ integer_of y)
    (wide : int_wrap w64 (integer_of x) ≡ integer_of x) (broad : int_wrap w64 (integer_of y) ≡ integer_of y)
    (still : (u : Variables) → Keeps (suc (suc t)) w u → value_of u a ≡ value_of w a)
    (calm : (u : Variables) → Keeps (suc (suc t)) w u → value_of u b ≡ value_of w b) where
  -- one row that gives this integer
  exactly : (op : Operator) (f : ℤ → ℤ → ℤ) →
      operation op (value_of w a) (value_of w b) ≡ Ok (int_wrap w64 (f (value_of w a) (value_of w b))) →
      in_64_bits (f (integer_of x) (integer_of y)) ≡ Some z →
      ((u : Variables) → Kin q around n u → Keeps t w u → Shows sort.Exact (number_at u.ints t) (text_at u.texts t) z →
      DoesAt functions limit n u lines braces r) →
      DoesAt functions limit n w (flats (compute t a op b ∷ []) ++ lines) braces r
  exactly op f does is next =
      let whole = in_64 (f (integer_of x) (integer_of y)) z is in
      compute_does t w [] lines free kin a op b _ does (λ u k keep there. next u k keep
      (subst (λ y'. Shows sort.Exact (number_at u.ints t) (text_at u.texts t) y') whole.0 (record {
        of = (refl, whole.1);
        value = there ∙ ap (λ i. int_wrap w64 (f i (value_of w b))) left ∙ ap (λ j. int_wrap w64 (f (integer_of x) j)) right
            ∙ whole.1;
      })))

  tested : (op : Operator) (f : ℤ → ℤ → Bool) →
      operation op (value_of w a) (value_of w b) ≡ Ok (truth (f (value_of w a) (value_of w b))) →
      scalar.Log (f (integer_of x) (integer_of y)) ≡ z →
      ((u : Variables) → Kin q around n u → Keeps t w u → Shows sort.Log (number_at u.ints t) (text_at u.texts t) z →
      DoesAt functions limit n u lines braces r) →
      DoesAt functions limit n w (flats (compute t a op b ∷ []) ++ lines) braces r
  tested op f does is next =
      compute_does t w [] lines free kin a op b _ does (λ u k keep there. next u k keep
      (subst (λ y'. Shows sort.Log (number_at u.ints t) (text_at u.texts t) y') is (record {
        of = refl;
        value = there ∙ ap (λ i. truth (f i (value_of w b))) left ∙ ap (λ j. truth (f (integer_of x) j)) right;
      })))

  -- one of two, as the test says
  chosen : (p o : Atom) (i j : ℤ) → ((u : Variables) → Keeps (suc (suc t)) w u → value_of u p ≡ i) →
      ((u : Variables) → Keeps (suc (suc t)) w u → value_of u o ≡ j) → int_wrap w64 i ≡ i → int_wrap w64 j ≡ j →
      int (cond (int_lt (integer_of y) (integer_of x)) i j) ≡ z →
      ((u : Variables) → Kin q around n u → Keeps t w u → Shows sort.Exact (number_at u.ints t) (text_at u.texts t) z →
      DoesAt functions limit n u lines braces r) →
      DoesAt functions limit n w (flats (chosen_lines t a b p o) ++ lines) braces r
  chosen p o i j one two wide_one wide_two is next =
      let test = suc (suc t) in
      let further : first_free q ≤ test = omega (arith, free) in
      let first = set t (int_row.Atom p) ∷ [] in
      let second = set t (int_row.Atom o) ∷ [] in
      compute_does test w (stmt.IfElse (atom.Int test) first second ∷ []) lines further kin b operator.Less a _
      (is_less (value_of w b) (value_of w a)) (λ u k keep there.
      let tested : number_at u.ints test ≡ truth (int_lt (integer_of y) (integer_of x)) =
      there ∙ ap (λ c. truth (int_lt c (value_of w a))) right ∙ ap (λ c. truth (int_lt (integer_of y) c)) left in
      let known : (c : Bool) → holds (number_at u.ints test) ≡ c → int_lt (integer_of y) (integer_of x) ≡ c =
      λ c h. sym (truth_holds (int_lt (integer_of y) (integer_of x))) ∙ ap holds (sym tested) ∙ h in
      either_does (atom.Int test) first second [] lines
      (λ h. set_does t u [] (code.Else ∷ (flats second ++ code.Close ∷ lines)) free k (int_row.Atom p) (value_of u p) refl
      (read_atom u p) (λ u' k' keep' value.
      behind_else second lines (next u' k' (keeps_then (keeps_less (omega arith) keep) keep')
      (subst (λ y'. Shows sort.Exact (number_at u'.ints t) (text_at u'.texts t) y')
      (ap (λ c. int (cond c i j)) (sym (known true h)) ∙ is)
      (record { of = (refl, wide_one); value = value ∙ one u keep })))))
      (λ h. set_does t u [] (code.Close ∷ lines) free k (int_row.Atom o) (value_of u o) refl (read_atom u o) (λ u' k' keep' value.
      behind_close lines (next u' k' (keeps_then (keeps_less (omega arith) keep) keep')
      (subst (λ y'. Shows sort.Exact (number_at u'.ints t) (text_at u'.texts t) y')
      (ap (λ c. int (cond c i j)) (sym (known false h)) ∙ is)
      (record { of = (refl, wide_two); value = value ∙ two u keep }))))))

  pub exact_does : (op : Exact) → exact_of op (integer_of x) (integer_of y) ≡ Some z →
      ((u : Variables) → Kin q around n u → Keeps t w u → Shows (exact_sort op) (number_at u.ints t) (text_at u.texts t) z →
      DoesAt functions limit n u lines braces r) →
      DoesAt functions limit n w (flats (exact_lines op t a b) ++ lines) braces r
  exact_does exact.Plus is next = exactly operator.Add (λ i j. i +ℤ j) (adds (value_of w a) (value_of w b)) is next
  exact_does exact.Minus is next = exactly operator.Subtract (λ i j. i -ℤ j) (subtracts (value_of w a) (value_of w b)) is next
  exact_does exact.Times is next = exactly operator.Multiply (λ i j. i *ℤ j) (multiplies (value_of w a) (value_of w b)) is next
  exact_does exact.Over is next =
      let two = quotient_64 (integer_of x) (integer_of y) z (int_eq (integer_of y) (pos 0)) refl is in
      exactly operator.Divide int_div (divides (value_of w a) (value_of w b) (ap (λ j. int_eq j (pos 0)) right ∙ two.0)) two.1 next
  exact_does exact.Most is next =
      chosen a b (integer_of x) (integer_of y) (λ u k. still u k ∙ left) (λ u k. calm u k ∙ right) wide broad (some_is is) next
  exact_does exact.Least is next =
      chosen b a (integer_of y) (integer_of x) (λ u k. calm u k ∙ right) (λ u k. still u k ∙ left) broad wide (some_is is) next
  exact_does exact.Below is next = tested operator.Less int_lt (is_less (value_of w a) (value_of w b)) (some_is is) next
  exact_does exact.AtMost is next = tested operator.LessEqual int_le (is_at_most (value_of w a) (value_of w b)) (some_is is) next
  exact_does exact.Same is next = tested operator.Equal int_eq (is_equal (value_of w a) (value_of w b)) (some_is is) next

-- ---- trees

-- an atom stays while only variables behind number t change
pub steady : (c : Scope) (nests t : ℕ) (x : Tree) (s : Sort) → sort_of c x ≡ Some s → first_free c.own ≤ t → {v w : Variables} →
    Keeps (suc t) v w →
    (value_of w (atom_of c nests t x) ≡ value_of v (atom_of c nests t x)) ×
    (bytes_of w (words_of c nests t x) ≡ bytes_of v (words_of c nests t x))
steady c nests t (Literal x) s h free k = (refl, refl)
steady c nests t (Number z) s h free k = (refl, k.texts t (omega arith))
steady c nests t (Constant i) s h free k = (refl, refl)
steady c nests t (Fixed i) s h free k =
    let below : scalar_number c.own i < suc t = let within = scalar_below c.own i s h in omega (arith, within, free) in
    (k.ints (scalar_number c.own i) below, k.texts (scalar_number c.own i) below)
steady c nests t (Turn loop) s h free
    k = (ap (λ (is : List ℤ). number_at is (loop_number nests loop)) k.indices, k.texts t (omega arith))
steady c nests t x s h free k = (k.ints t (omega arith), k.texts t (omega arith))
