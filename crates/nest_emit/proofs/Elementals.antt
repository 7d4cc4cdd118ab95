-- The rows of elemental functions leave their values, or their faults.
use Rattle.std.proofs.Common.{◌≡◌, ℕ, suc, ◌+◌, ◌<◌, ◌≤◌, Bool, true, false, not, nat_le, List, [], ◌∷◌, ◌++◌, Some, None, refl, sym, ap, ◌∙◌, subst, arith, ℤ, pos, length}
use Rattle.std.specs.Prelude.{FitsSigned, negsuc, Ok, Err, unsigned_abs, int_lt, int_le, int_rem, neg_ℤ, ◌-ℤ◌, ◌+ℤ◌, map, fold, cond}
use Rattle.std.specs.Int.{w32, w64, int_wrap, int_bit_and, int_bit_or, int_bit_xor}
use Rattle.std.specs.Ordering.{int_eq}
use Rattle.std.specs.Option.{ok_or}
use Rattle.std.proofs.lemmas.Int.{rem_below}
use Rattle.std.proofs.lemmas.Bool.Decides.{nat_tests, Decides-int_eq}
use Rattle.a95_base.specs.declared.fault.FaultKind.TheVariants as fault
use Rattle.a95_base.specs.declared.scalar.Scalar.{Scalar}
use Rattle.a95_base.specs.declared.scalar.Scalar.TheVariants as scalar
use Rattle.a95_base.specs.Integer.{wrapped, remainder_of, modulo_of, absolute_of, sign_of, greater_of, lesser_of}
use Rattle.a95_base.specs.Text.{adjust_left, adjust_right, char_of}
use Rattle.a95_base.specs.Steps.{Ran, ◌>>=◌}
use Rattle.a95_base.proofs.Quotients.{left_over}
use Rattle.a95_base.proofs.Wrapping.{wrapped-int_wrap, wrapped_fits}
use Rattle.std.proofs.lemmas.Bool.{not-true, not-false}
use Rattle.a95_base.proofs.Tests.{clash}
use Rattle.a95_base.proofs.Moduli.{some_divisor}
use Rattle.f95_unit.specs.declared.operation.Elemental.{Elemental}
use Rattle.f95_unit.specs.declared.operation.Elemental.TheVariants as elemental
use Rattle.array_meaning.specs.Values.{nothing, integer_of, text_of, argument_of}
use Rattle.array_meaning.specs.Scalars.{integer_or, text_or, best, merged, integers, elemental_of}
use Rattle.nest_tree.specs.declared.unit.Sort.{Sort}
use Rattle.nest_tree.specs.declared.unit.Sort.TheVariants as sort
use Rattle.nest_tree.specs.Plain.{Procedure, Trees, no_tree, tree}
use Rattle.nest_tree.specs.State.{NestState, Halt, Step, given}
use Rattle.nest_tree.specs.Sound.{Scope, some_serves, sort_of, sorts_of, sort_at, elemental_sort}
use Rattle.loop_tree.specs.declared.stuck.StuckState.TheVariants as stuck
use Rattle.loop_tree.specs.declared.atom.Atom.{Atom}
use Rattle.loop_tree.specs.declared.atom.Atom.TheVariants as atom
use Rattle.loop_tree.specs.declared.atom.TextAtom.{TextAtom}
use Rattle.loop_tree.specs.declared.atom.Operator.{Operator}
use Rattle.loop_tree.specs.declared.atom.Operator.TheVariants as operator
use Rattle.loop_tree.specs.declared.row.IntValue.TheVariants as int
use Rattle.loop_tree.specs.declared.row.TextValue.{TextValue}
use Rattle.loop_tree.specs.declared.row.TextValue.TheVariants as words
use Rattle.loop_tree.specs.declared.tree.CodeLine.{CodeLine}
use Rattle.loop_tree.specs.declared.tree.CodeLine.TheVariants as code
use Rattle.loop_tree.specs.declared.tree.Stmt.{Stmt}
use Rattle.loop_tree.specs.declared.tree.Stmt.TheVariants as stmt
use Rattle.loop_tree.specs.declared.tree.Function.{Function}
use Rattle.loop_tree.specs.Lines.{flats}
use Rattle.loop_tree.specs.State.{Brace}
use Rattle.loop_tree.specs.Values.{number_at, text_at, truth, holds, operation}
use Rattle.loop_laws.specs.At.{Variables, value_of, bytes_of, text_read}
use Rattle.loop_laws.proofs.Within.{truth_holds}
use Rattle.nest_emit.specs.Numbers.{first_free}
use Rattle.nest_emit.specs.Trees.{set, say, keep, compute, computed, unless_fault, atom_of, words_of, atom_at, words_at, count_trees, absolute_lines, elemental_lines, better_line, better_lines, best_lines, each_lines}
use Rattle.nest_emit.specs.Emits.{emits_elemental}
use Rattle.nest_emit.specs.Meets.{DoesAt}
use Rattle.nest_emit.specs.Kin.{Shows, Around, Kin, Keeps}
use Rattle.nest_emit.proofs.Runs.{told, guard_does, either_does, behind_else, behind_close}
use Rattle.nest_emit.proofs.Values.{served, int_shown, int_fits, text_shown, is_true, shows_serves}
use Rattle.nest_emit.proofs.Integers.{not_zero, abs_few, abs_below, abs_above, opposite_wide, remainder_and_divisor, modulo_by_rows, and_by_rows, or_by_rows, xor_by_rows}
use Rattle.nest_emit.proofs.Comparisons.{at_most_is}
use Rattle.nest_emit.proofs.Rows.{read_atom, read_wrap, read_exclusive, read_words, read_left, read_right, read_char, adds, subtracts, is_less, is_at_most, remains, both_bits, either_bit, set_does, say_does, compute_does, computed_does}
use Rattle.nest_emit.proofs.Binary.{fault_given, value_given}
use Rattle.nest_emit.proofs.Operators.{int_there, from_zero}
use Rattle.nest_emit.proofs.Arguments.{AllShown, argument_shown, argument_still, one_asked, two_asked, merge_asked, ListOf, list_asked, AllInts, all_ints}
use Rattle.nest_emit.proofs.Leaves.{steady}
use Rattle.nest_emit.proofs.Kin.{keeps_all, keeps_then, keeps_less}

-- ---- values

small_rest : (z : ℤ) (n : ℕ) → unsigned_abs z < n → n ≤ 2147483648 → FitsSigned w32 z
small_rest (pos k) n h few = omega (arith, h, few)
small_rest (negsuc k) n h few = omega (arith, h, few)

remainder_fits : (a p : ℤ) → int_eq p (pos 0) ≡ false → FitsSigned w32 p → wrapped (int_rem a p) ≡ int_rem a p
remainder_fits a p e f = wrapped_fits (int_rem a p) (small_rest (int_rem a p) (unsigned_abs p) (rem_below a p (some_divisor p e))
    (abs_few p f))

no_remainder : (x y : ℤ) → int_eq y (pos 0) ≡ true → integer_or fault.ZeroDivide (remainder_of x y) ≡ Err fault.ZeroDivide
no_remainder x y h = rw h refl

some_remainder : (x y : ℤ) → int_eq y (pos 0) ≡ false →
    integer_or fault.ZeroDivide (remainder_of x y) ≡ Ok (scalar.Int (int_rem x y))
some_remainder x y h = ap (integer_or fault.ZeroDivide) (sym (left_over x y (not_zero y h)))

no_modulo : (x y : ℤ) → int_eq y (pos 0) ≡ true → integer_or fault.ZeroDivide (modulo_of x y) ≡ Err fault.ZeroDivide
no_modulo x y h =
    let zero : y ≡ pos 0 = (Decides-int_eq y (pos 0)).0 h in ap (λ z. integer_or fault.ZeroDivide (modulo_of x z)) zero

sign_is : (x y : ℤ) (b : Bool) → int_lt y (pos 0) ≡ b →
    sign_of x y ≡ cond b (wrapped (neg_ℤ (pos (unsigned_abs x)))) (absolute_of x)
sign_is x y true h = rw (at_most_is (pos 0) y ∙ ap not h) refl
sign_is x y false h = rw (at_most_is (pos 0) y ∙ ap not h) refl

some_char : (z : ℤ) → int_le (pos 0) z ≡ true → int_lt z (pos 256) ≡ true → (bytes : List ℕ) × (char_of z ≡ Some bytes)
some_char (pos n) h g = (n ∷ [], rw g refl)
some_char (negsuc n) h g = cc

no_char_below : (z : ℤ) → int_le (pos 0) z ≡ false → char_of z ≡ None
no_char_below (pos n) h = absurd (clash (int_le (pos 0) (pos n)) (grind (arith, nat_tests)) h)
no_char_below (negsuc n) h = refl

no_char_above : (z : ℤ) → int_lt z (pos 256) ≡ false → char_of z ≡ None
no_char_above (pos n) h = rw h refl
no_char_above (negsuc n) h = refl

-- ---- rows

module _ {functions : List Function} {limit : ℕ} {q : Procedure} {around : Around} {n : NestState} {braces : List Brace}
    {r : Ran Halt NestState (Unit {0})} (t : ℕ) (w : Variables) (more : List Stmt) (lines : List CodeLine)
    (free : first_free q ≤ t)
    (kin : Kin q around n w) where
  -- the absolute value of an INTEGER
  absolute_does : (a : Atom) (z : ℤ) → FitsSigned w32 z → ((u : Variables) → Keeps t w u → value_of u a ≡ z) →
      ((u : Variables) → Kin q around n u → Keeps t w u → number_at u.ints t ≡ pos (unsigned_abs z) →
      DoesAt functions limit n u (flats more ++ lines) braces r) →
      DoesAt functions limit n w (flats (absolute_lines t a ++ more) ++ lines) braces r
  absolute_does a z fits still next =
      let first = compute t (atom.Number (pos 0)) operator.Subtract a ∷ [] in
      let second = set t (int.Atom a) ∷ [] in
      compute_does t w (stmt.IfElse (atom.Int t) first second ∷ more) lines free kin a operator.Less (atom.Number (pos 0)) _
      (is_less (value_of w a) (pos 0)) (λ u k keep there.
      let tested : number_at u.ints t ≡ truth (int_lt z (pos 0)) = there ∙ ap (λ i. truth (int_lt i (pos 0)))
      (still w (keeps_all t w)) in
      let known : (b : Bool) → holds (number_at u.ints t) ≡ b → int_lt z (pos 0) ≡ b =
      λ b h. sym (truth_holds (int_lt z (pos 0))) ∙ ap holds (sym tested) ∙ h in
      either_does (atom.Int t) first second more lines
      (λ h. compute_does t u [] (code.Else ∷ (flats second ++ code.Close ∷ (flats more ++ lines))) free k
      (atom.Number (pos 0)) operator.Subtract a _ (subtracts (pos 0) (value_of u a)) (λ v k' keep' is.
      behind_else second (flats more ++ lines) (next v k' (keeps_then keep keep')
      (is ∙ ap (λ i. int_wrap w64 (pos 0 -ℤ i)) (still u keep) ∙ opposite_wide z fits ∙ abs_below z (known true h)))))
      (λ h. set_does t u [] (code.Close ∷ (flats more ++ lines)) free k (int.Atom a) (value_of u a) refl (read_atom u a)
      (λ v k' keep' is.
      behind_close (flats more ++ lines) (next v k' (keeps_then keep keep')
      (is ∙ still u keep ∙ abs_above z (known false h))))))

  -- a value of a sort, into a free variable
  put_in_does : (s : Sort) (a : Atom) (d : TextAtom) (x : Scalar) → Shows s (value_of w a) (bytes_of w d) x →
      ((u : Variables) → Kin q around n u → Keeps t w u → Shows s (number_at u.ints t) (text_at u.texts t) x →
      DoesAt functions limit n u (flats more ++ lines) braces r) →
      DoesAt functions limit n w (flats (keep (Some s) t a d ∷ more) ++ lines) braces r
  put_in_does sort.Exact a d x sh next = set_does t w more lines free kin (int.Atom a) (value_of w a) refl (read_atom w a)
      (λ u k keep is. next u k keep (record { of = sh.of; value = is ∙ sh.value }))
  put_in_does sort.Int a d x sh next = set_does t w more lines free kin (int.Atom a) (value_of w a) refl (read_atom w a)
      (λ u k keep is. next u k keep (record { of = sh.of; value = is ∙ sh.value }))
  put_in_does sort.Log a d x sh next = set_does t w more lines free kin (int.Atom a) (value_of w a) refl (read_atom w a)
      (λ u k keep is. next u k keep (record { of = sh.of; value = is ∙ sh.value }))
  put_in_does sort.Text a d x sh next = say_does t w more lines free kin (words.Atom d) (bytes_of w d) (read_words w d)
      (λ u k keep is. next u k keep (record { of = sh.of; value = is ∙ sh.value }))

-- ---- the greatest and the least

abbrev better : Bool → ℤ → ℤ → ℤ
better true = greater_of
better false = lesser_of

abbrev chosen : Bool → Bool → ℤ → ℤ → ℤ
chosen true b z y = cond b z y
chosen false b z y = cond b y z

better_is : (greatest : Bool) (z y : ℤ) (b : Bool) → int_lt y z ≡ b → better greatest z y ≡ chosen greatest b z y
better_is true z y true h = ap (λ b. cond b z y) h
better_is true z y false h = ap (λ b. cond b z y) h
better_is false z y true h = ap (λ b. cond b y z) h
better_is false z y false h = ap (λ b. cond b y z) h

one_fits : (greatest b : Bool) (z y : ℤ) → FitsSigned w32 z → FitsSigned w32 y → FitsSigned w32 (chosen greatest b z y)
one_fits true true z y f g = f
one_fits true false z y f g = g
one_fits false true z y f g = g
one_fits false false z y f g = f

abbrev best_from : Bool → ℤ → List (ℕ × Scalar) → ℤ
best_from greatest z xs = fold (λ i x. better greatest i (integer_of x)) z (map (λ (x : ℕ × Scalar). x.1) xs)

module _ {functions : List Function} {limit : ℕ} (c : Scope) {around : Around} {n : NestState} {braces : List Brace}
    {r : Ran Halt NestState (Unit {0})} (nests : ℕ) (w : Variables) (greatest : Bool) (t most : ℕ) (free : first_free c.own ≤ t)
    (above : t ≤ most) (lines : List CodeLine) where
  -- one more argument
  better_one : (u : Variables) → Kin c.own around n u → Keeps most w u → (a : Atom) (z y : ℤ) → number_at u.ints most ≡ z →
      ((v : Variables) → Keeps most w v → value_of v a ≡ y) → (more : List Stmt) →
      ((v : Variables) → Kin c.own around n v → Keeps most w v → number_at v.ints most ≡ better greatest z y →
      DoesAt functions limit n v (flats more ++ lines) braces r) →
      DoesAt functions limit n u (flats (compute (suc most) a operator.Less (atom.Int most) ∷ better_line greatest most a ∷ more)
      ++ lines) braces r
  better_one u k keep a z y value still more next =
      compute_does (suc most) u (better_line greatest most a ∷ more) lines (omega (arith, free, above)) k a operator.Less
      (atom.Int most) _ (is_less (value_of u a) (number_at u.ints most)) (λ v k' keep' there.
      let here : Keeps most w v = keeps_then keep (keeps_less (omega arith) keep') in
      let same : number_at v.ints most ≡ z = keep'.ints most (omega arith) ∙ value in
      let tested : number_at v.ints (suc most) ≡ truth (int_lt y z) = there
      ∙ ap (λ i. truth (int_lt i (number_at u.ints most))) (still u keep) ∙ ap (λ i. truth (int_lt y i)) value in
      let known : (b : Bool) → holds (number_at v.ints (suc most)) ≡ b → int_lt y z ≡ b =
      λ b h. sym (truth_holds (int_lt y z)) ∙ ap holds (sym tested) ∙ h in
      by greatest refl v k' here same known)
    where
      by : (g : Bool) → greatest ≡ g → (v : Variables) → Kin c.own around n v → Keeps most w v → number_at v.ints most ≡ z →
          ((b : Bool) → holds (number_at v.ints (suc most)) ≡ b → int_lt y z ≡ b) →
          DoesAt functions limit n v (flats (better_line g most a ∷ more) ++ lines) braces r
      by true e v k' here same known = either_does (atom.Int (suc most)) [] (set most (int.Atom a) ∷ []) more lines
          (λ h. behind_else (set most (int.Atom a) ∷ []) (flats more ++ lines) (next v k' here
          (same ∙ sym (ap (λ g. better g z y) e ∙ better_is true z y true (known true h)))))
          (λ h. set_does most v [] (code.Close ∷ (flats more ++ lines)) (omega (arith, free, above)) k' (int.Atom a)
          (value_of v a) refl (read_atom v a) (λ v' k'' keep'' is.
          behind_close (flats more ++ lines) (next v' k'' (keeps_then here keep'')
          (is ∙ still v here ∙ sym (ap (λ g. better g z y) e ∙ better_is true z y false (known false h))))))
      by false e v k' here same known = either_does (atom.Int (suc most)) (set most (int.Atom a) ∷ []) [] more lines
          (λ h. set_does most v [] (code.Else ∷ (flats [] ++ code.Close ∷ (flats more ++ lines))) (omega (arith, free, above)) k'
          (int.Atom a) (value_of v a) refl (read_atom v a) (λ v' k'' keep'' is.
          behind_else [] (flats more ++ lines) (next v' k'' (keeps_then here keep'')
          (is ∙ still v here ∙ sym (ap (λ g. better g z y) e ∙ better_is false z y true (known true h))))))
          (λ h. behind_close (flats more ++ lines) (next v k' here
          (same ∙ sym (ap (λ g. better g z y) e ∙ better_is false z y false (known false h)))))

  better_do : (k : ℕ) (ts : Trees) (xs : List (ℕ × Scalar)) → t ≤ k → k + count_trees ts ≤ most → AllShown c nests w k ts xs →
      AllInts c ts → (u : Variables) → Kin c.own around n u → Keeps most w u → (z : ℤ) → number_at u.ints most ≡ z →
      FitsSigned w32 z → (more : List Stmt) →
      ((v : Variables) → Kin c.own around n v → Keeps most w v → number_at v.ints most ≡ best_from greatest z xs →
      FitsSigned w32 (best_from greatest z xs) → DoesAt functions limit n v (flats more ++ lines) braces r) →
      DoesAt functions limit n u (flats (better_lines c nests greatest most k ts ++ more) ++ lines) braces r
  better_do k no_tree [] from below shown all u kin keep z value fits more next = next u kin keep value fits
  better_do k no_tree (x ∷ xs) from below shown all u kin keep z value fits more next = absurd shown
  better_do k (tree place x ts) [] from below shown all u kin keep z value fits more next = absurd shown
  better_do k (tree place x ts) (y ∷ xs) from below shown all u kin keep z value fits more next =
      let s = served (sort_of c x) sort.Int all.0 in
      let sh = shows_serves s.sort sort.Int s.serves_it (value_of w (atom_of c nests k x)) (bytes_of w (words_of c nests k x)) y.1
      (shown.1 s.sort s.is) in
      better_one u kin keep (atom_of c nests k x) z (integer_of y.1) value
      (λ v keep'. (steady c nests k x s.sort s.is (omega (arith, free, from)) (keeps_less (omega (arith, below)) keep')).0
      ∙ int_shown sh)
      (better_lines c nests greatest most (suc k) ts ++ more) (λ v k' keep' value'.
      better_do (suc k) ts xs (omega (arith, from)) (omega (arith, below)) shown.2 all.1 v k' keep' (better greatest z (integer_of y.1))
      value' (subst (λ i. FitsSigned w32 i)
      (sym (better_is greatest z (integer_of y.1) (int_lt (integer_of y.1) z) refl))
      (one_fits greatest (int_lt (integer_of y.1) z) z (integer_of y.1) fits (int_fits sh))) more next)

-- ---- the functions

module _ (functions : List Function) (limit : ℕ) (c : Scope) {around : Around} {n : NestState} (braces : List Brace) (nests t : ℕ)
    (w : Variables)
    (lines : List CodeLine) (free : first_free c.own ≤ t) (kin : Kin c.own around n w) (line : ℕ) (at_line : w.line ≡ line)
    (ts : Trees) (xs : List (ℕ × Scalar)) (shown : AllShown c nests w t ts xs) (go : Scalar → Step (Unit {0})) where
  abbrev Result_of : Elemental → Sort → Type 0
  Result_of which s = ((u : Variables) (z : Scalar) → Kin c.own around n u → Keeps t w u →
      Shows s (number_at u.ints t) (text_at u.texts t) z → DoesAt functions limit n u lines braces (go z n))

  abbrev evaluated : Elemental → Ran Halt NestState (Unit {0})
  evaluated which = (given line (elemental_of which xs) >>= go) n

  abbrev behind : ℕ
  behind = t + count_trees ts

  abbrev atom_of_place : ℕ → Atom
  atom_of_place place = atom_at c nests place t ts

  further : first_free c.own ≤ behind
  further = omega (arith, free)

  -- an argument that is an INTEGER
  record IntAt (place : ℕ) : Type 0 where
    is : value_of w (atom_of_place place) ≡ integers xs place
    fits : FitsSigned w32 (integers xs place)
    still : (u : Variables) → Keeps behind w u → value_of u (atom_of_place place) ≡ integers xs place

  int_at : (place : ℕ) → some_serves (sort_at place (sorts_of c ts)) sort.Int ≡ true → IntAt place
  int_at place h =
      let sh = argument_shown c nests w place sort.Int t ts xs shown h in record {
        is = int_shown sh;
        fits = int_fits sh;
        still = λ u keep. argument_still c nests place sort.Int t ts free h keep ∙ int_shown sh;
      }

  less : {u : Variables} → Keeps behind w u → Keeps t w u
  less keep = keeps_less (omega arith) keep

  -- the value of the function, an INTEGER of what was computed
  valued : (which : Elemental) (z : ℤ) → elemental_of which xs ≡ Ok (scalar.Int (wrapped z)) → Result_of which sort.Int →
      (u : Variables) → Kin c.own around n u → Keeps t w u → number_at u.ints t ≡ wrapped z →
      DoesAt functions limit n u lines braces (evaluated which)
  valued which z is next u k keep value =
      told (value_given line (scalar.Int (wrapped z)) (elemental_of which xs) go n is)
      (next u (scalar.Int (wrapped z)) k keep (int_there (number_at u.ints t) z (text_at u.texts t) value))

  abs_does : IntAt 0 → Result_of elemental.Abs sort.Int →
      DoesAt functions limit n w
      (flats (absolute_lines behind (atom_of_place 0) ++ (set t (int.Wrap (atom.Int behind)) ∷ [])) ++ lines) braces
      (evaluated elemental.Abs)
  abs_does a next =
      let x = integers xs 0 in
      absolute_does behind w (set t (int.Wrap (atom.Int behind)) ∷ []) lines further kin (atom_of_place 0) x a.fits a.still
      (λ u k keep is.
      set_does t u [] lines free k (int.Wrap (atom.Int behind)) (wrapped (number_at u.ints behind)) refl
      (read_wrap u (atom.Int behind)) (λ v k' keep' value.
      valued elemental.Abs (pos (unsigned_abs x)) refl next v k' (keeps_then (less keep) keep') (value ∙ ap wrapped is)))

  sign_does : IntAt 0 → IntAt 1 → Result_of elemental.Sign sort.Int →
      DoesAt functions limit n w
      (flats (elemental_lines elemental.Sign t behind (atom_of_place 0) (atom_of_place 1) (words_at c nests 0 t ts)) ++ lines) braces
      (evaluated elemental.Sign)
  sign_does a b next =
      let x = integers xs 0 in
      let y = integers xs 1 in
      let test = suc behind in
      let first = computed t (atom.Number (pos 0)) operator.Subtract (atom.Int behind) in
      let second = set t (int.Wrap (atom.Int behind)) ∷ [] in
      absolute_does behind w (compute test (atom_of_place 1) operator.Less (atom.Number (pos 0))
      ∷ stmt.IfElse (atom.Int test) first second ∷ []) lines further kin (atom_of_place 0) x a.fits a.still (λ u k keep is.
      compute_does test u (stmt.IfElse (atom.Int test) first second ∷ []) lines (omega (arith, further)) k (atom_of_place 1)
      operator.Less (atom.Number (pos 0)) _ (is_less (value_of u (atom_of_place 1)) (pos 0)) (λ v k' keep' there.
      let here : Keeps t w v = keeps_then (less keep) (keeps_less (omega arith) keep') in
      let same : number_at v.ints behind ≡ pos (unsigned_abs x) = keep'.ints behind (omega arith) ∙ is in
      let tested : number_at v.ints test ≡ truth (int_lt y (pos 0)) = there ∙ ap (λ i. truth (int_lt i (pos 0))) (b.still u keep) in
      let known : (e : Bool) → holds (number_at v.ints test) ≡ e → int_lt y (pos 0) ≡ e =
      λ e h. sym (truth_holds (int_lt y (pos 0))) ∙ ap holds (sym tested) ∙ h in
      either_does (atom.Int test) first second [] lines
      (λ h. computed_does t v (code.Else ∷ (flats second ++ code.Close ∷ lines)) free k' (atom.Number (pos 0)) operator.Subtract
      (atom.Int behind) _ (subtracts (pos 0) (number_at v.ints behind)) (λ v' k'' keep'' value.
      behind_else second lines (valued elemental.Sign (neg_ℤ (pos (unsigned_abs x)))
      (ap (λ i. Ok (scalar.Int i)) (sign_is x y true (known true h))) next v' k'' (keeps_then here keep'')
      (value ∙ wrapped-int_wrap (pos 0 -ℤ number_at v.ints behind) ∙ ap wrapped (from_zero (number_at v.ints behind) ∙ ap neg_ℤ same)))))
      (λ h. set_does t v [] (code.Close ∷ lines) free k' (int.Wrap (atom.Int behind)) (wrapped (number_at v.ints behind)) refl
      (read_wrap v (atom.Int behind)) (λ v' k'' keep'' value.
      behind_close lines (valued elemental.Sign (pos (unsigned_abs x))
      (ap (λ i. Ok (scalar.Int i)) (sign_is x y false (known false h))) next v' k'' (keeps_then here keep'')
      (value ∙ ap wrapped same))))))

  -- a remainder: a fault where the some_divisor is 0
  divided : (which : Elemental) → IntAt 1 → (more : List Stmt) →
      (int_eq (integers xs 1) (pos 0) ≡ true → elemental_of which xs ≡ Err fault.ZeroDivide) →
      (int_eq (integers xs 1) (pos 0) ≡ false → DoesAt functions limit n w (flats more ++ lines) braces (evaluated which)) →
      DoesAt functions limit n w (flats (unless_fault (atom_of_place 1) fault.ZeroDivide ∷ more) ++ lines) braces (evaluated which)
  divided which b more fails goes =
      guard_does line fault.ZeroDivide n (evaluated which) (atom_of_place 1) more lines at_line
      (λ h. goes (ap (λ j. int_eq j (pos 0)) (sym b.is) ∙ not-true (int_eq (value_of w (atom_of_place 1)) (pos 0)) h))
      (λ h. fault_given line fault.ZeroDivide (elemental_of which xs) go n (fails
      (ap (λ j. int_eq j (pos 0)) (sym b.is) ∙ not-false (int_eq (value_of w (atom_of_place 1)) (pos 0)) h)))

  -- the value of the function, which is an INTEGER as it is
  whole : (which : Elemental) (z : ℤ) → elemental_of which xs ≡ Ok (scalar.Int z) → wrapped z ≡ z → Result_of which sort.Int →
      (u : Variables) → Kin c.own around n u → Keeps t w u → number_at u.ints t ≡ z →
      DoesAt functions limit n u lines braces (evaluated which)
  whole which z is fits next u k keep value =
      told (value_given line (scalar.Int z) (elemental_of which xs) go n is)
      (next u (scalar.Int z) k keep (record { of = (refl, fits); value = value }))

  mod_does : IntAt 0 → IntAt 1 → Result_of elemental.Mod sort.Int →
      DoesAt functions limit n w
      (flats (elemental_lines elemental.Mod t behind (atom_of_place 0) (atom_of_place 1) (words_at c nests 0 t ts)) ++ lines) braces
      (evaluated elemental.Mod)
  mod_does a b next =
      let x = integers xs 0 in
      let y = integers xs 1 in
      divided elemental.Mod b (compute t (atom_of_place 0) operator.Remainder (atom_of_place 1) ∷ []) (no_remainder x y) (λ some.
      compute_does t w [] lines free kin (atom_of_place 0) operator.Remainder (atom_of_place 1) _
      (remains (value_of w (atom_of_place 0)) (value_of w (atom_of_place 1)) (ap (λ j. int_eq j (pos 0)) b.is ∙ some))
      (λ u k keep value.
      whole elemental.Mod (int_rem x y) (some_remainder x y some) (remainder_fits x y some b.fits) next u k keep
      (value ∙ ap (λ i. int_rem i (value_of w (atom_of_place 1))) a.is ∙ ap (λ j. int_rem x j) b.is)))

  modulo_does : IntAt 0 → IntAt 1 → Result_of elemental.Modulo sort.Int →
      DoesAt functions limit n w
      (flats (elemental_lines elemental.Modulo t behind (atom_of_place 0) (atom_of_place 1) (words_at c nests 0 t ts)) ++ lines) braces
      (evaluated elemental.Modulo)
  modulo_does a b next =
      let x = integers xs 0 in
      let y = integers xs 1 in
      let last = compute t (atom.Int behind) operator.Remainder (atom_of_place 1) ∷ [] in
      let adding = compute behind (atom.Int behind) operator.Add (atom_of_place 1) ∷ last in
      divided elemental.Modulo b (compute behind (atom_of_place 0) operator.Remainder (atom_of_place 1) ∷ adding) (no_modulo x y)
      (λ some.
      compute_does behind w adding lines further kin (atom_of_place 0) operator.Remainder (atom_of_place 1) _
      (remains (value_of w (atom_of_place 0)) (value_of w (atom_of_place 1)) (ap (λ j. int_eq j (pos 0)) b.is ∙ some))
      (λ u k keep value.
      let rest : number_at u.ints behind ≡ int_rem x y = value ∙ ap (λ i. int_rem i (value_of w (atom_of_place 1))) a.is
      ∙ ap (λ j. int_rem x j) b.is in
      compute_does behind u last lines further k (atom.Int behind) operator.Add (atom_of_place 1) _
      (adds (number_at u.ints behind) (value_of u (atom_of_place 1))) (λ v k' keep' value'.
      let sum : number_at v.ints behind ≡ int_rem x y +ℤ y = value'
      ∙ ap (λ i. int_wrap w64 (i +ℤ value_of u (atom_of_place 1))) rest ∙ ap (λ j. int_wrap w64 (int_rem x y +ℤ j)) (b.still u keep)
      ∙ remainder_and_divisor x y some b.fits in
      let kept : Keeps behind w v = keeps_then keep keep' in
      compute_does t v [] lines free k' (atom.Int behind) operator.Remainder (atom_of_place 1) _
      (remains (number_at v.ints behind) (value_of v (atom_of_place 1)) (ap (λ j. int_eq j (pos 0)) (b.still v kept) ∙ some))
      (λ v' k'' keep'' value''.
      whole elemental.Modulo (int_rem (int_rem x y +ℤ y) y) (ap (integer_or fault.ZeroDivide) (modulo_by_rows x y some))
      (remainder_fits (int_rem x y +ℤ y) y some b.fits) next v' k'' (keeps_then (less kept) keep'')
      (value'' ∙ ap (λ i. int_rem i (value_of v (atom_of_place 1))) sum ∙ ap (λ j. int_rem (int_rem x y +ℤ y) j) (b.still v kept))))))

  -- bit by bit
  bits_do : (which : Elemental) (op : Operator) (f g : ℤ → ℤ → ℤ) → ((i j : ℤ) → operation op i j ≡ Ok (f i j)) →
      ((i j : ℤ) → FitsSigned w32 i → FitsSigned w32 j → wrapped (f i j) ≡ g i j) →
      elemental_of which xs ≡ Ok (scalar.Int (g (integers xs 0) (integers xs 1))) → IntAt 0 → IntAt 1 →
      Result_of which sort.Int →
      DoesAt functions limit n w (flats (computed t (atom_of_place 0) op (atom_of_place 1)) ++ lines) braces (evaluated which)
  bits_do which op f g row narrow is a b next =
      let x = integers xs 0 in
      let y = integers xs 1 in
      computed_does t w lines free kin (atom_of_place 0) op (atom_of_place 1) _
      (row (value_of w (atom_of_place 0)) (value_of w (atom_of_place 1))) (λ u k keep value.
      valued which (f x y) (is ∙ ap (λ i. Ok (scalar.Int i)) (sym (narrow x y a.fits b.fits))) next u k keep
      (value ∙ ap (λ i. wrapped (f i (value_of w (atom_of_place 1)))) a.is ∙ ap (λ j. wrapped (f x j)) b.is))

  exclusive_does : IntAt 0 → IntAt 1 → Result_of elemental.Ieor sort.Int →
      DoesAt functions limit n w
      (flats (set t (int.Xor (atom_of_place 0) (atom_of_place 1)) ∷ set t (int.Wrap (atom.Int t)) ∷ []) ++ lines) braces
      (evaluated elemental.Ieor)
  exclusive_does a b next =
      let x = integers xs 0 in
      let y = integers xs 1 in
      set_does t w (set t (int.Wrap (atom.Int t)) ∷ []) lines free kin (int.Xor (atom_of_place 0) (atom_of_place 1)) _ refl
      (read_exclusive w (atom_of_place 0) (atom_of_place 1)) (λ u k keep is.
      set_does t u [] lines free k (int.Wrap (atom.Int t)) (wrapped (number_at u.ints t)) refl (read_wrap u (atom.Int t))
      (λ v k' keep' value.
      valued elemental.Ieor (int_bit_xor w64 x y) (ap (λ i. Ok (scalar.Int i)) (sym (xor_by_rows x y a.fits b.fits))) next v k'
      (keeps_then keep keep')
      (value ∙ ap wrapped (is ∙ ap (λ i. int_bit_xor w64 i (value_of w (atom_of_place 1))) a.is
      ∙ ap (λ j. int_bit_xor w64 x j) b.is))))

  char_does : IntAt 0 → Result_of elemental.Char sort.Text →
      DoesAt functions limit n w
      (flats (elemental_lines elemental.Char t behind (atom_of_place 0) (atom_of_place 1) (words_at c nests 0 t ts)) ++ lines) braces
      (evaluated elemental.Char)
  char_does a next =
      let x = integers xs 0 in
      let result = elemental_of elemental.Char xs in
      let last = say t (words.Char (atom_of_place 0)) ∷ [] in
      let second = unless_fault (atom.Int behind) fault.CharRange ∷ last in
      let again = compute behind (atom_of_place 0) operator.Less (atom.Number (pos 256)) ∷ second in
      compute_does behind w (unless_fault (atom.Int behind) fault.CharRange ∷ again) lines further kin (atom.Number (pos 0))
      operator.LessEqual (atom_of_place 0) _ (is_at_most (pos 0) (value_of w (atom_of_place 0))) (λ u k keep there.
      let tested : number_at u.ints behind ≡ truth (int_le (pos 0) x) = there ∙ ap (λ i. truth (int_le (pos 0) i)) a.is in
      let low : (e : Bool) → holds (number_at u.ints behind) ≡ e → int_le (pos 0) x ≡ e =
      λ e h. sym (truth_holds (int_le (pos 0) x)) ∙ ap holds (sym tested) ∙ h in
      guard_does line fault.CharRange n (evaluated elemental.Char) (atom.Int behind) again lines (keep.line ∙ at_line)
      (λ h. compute_does behind u second lines further k (atom_of_place 0) operator.Less (atom.Number (pos 256)) _
      (is_less (value_of u (atom_of_place 0)) (pos 256)) (λ v k' keep' there'.
      let kept : Keeps behind w v = keeps_then keep keep' in
      let tested' : number_at v.ints behind ≡ truth (int_lt x (pos 256)) = there' ∙ ap (λ i. truth (int_lt i (pos 256)))
      (a.still u keep) in
      let high : (e : Bool) → holds (number_at v.ints behind) ≡ e → int_lt x (pos 256) ≡ e =
      λ e h'. sym (truth_holds (int_lt x (pos 256))) ∙ ap holds (sym tested') ∙ h' in
      guard_does line fault.CharRange n (evaluated elemental.Char) (atom.Int behind) last lines (kept.line ∙ at_line)
      (λ h'. let one = some_char x (low true h) (high true h') in
      say_does t v [] lines free k' (words.Char (atom_of_place 0)) one.0
      (read_char v (atom_of_place 0) ∙ ap (λ i. ok_or (char_of i) stuck.NoByte) (a.still v kept)
      ∙ ap (λ o. ok_or o stuck.NoByte) one.1) (λ v' k'' keep'' is.
      told (value_given line (scalar.Text one.0) result go n (ap (text_or fault.CharRange) one.1))
      (next v' (scalar.Text one.0) k'' (keeps_then (less kept) keep'') (record { of = refl; value = is }))))
      (λ h'. fault_given line fault.CharRange result go n (ap (text_or fault.CharRange) (no_char_above x (high false h'))))))
      (λ h. fault_given line fault.CharRange result go n (ap (text_or fault.CharRange) (no_char_below x (low false h)))))

  adjusted : (which : Elemental) (f : List ℕ → List ℕ) → some_serves (sort_at 0 (sorts_of c ts)) sort.Text ≡ true →
      (row_value : TextValue) →
      text_read w row_value ≡ Ok (f (bytes_of w (words_at c nests 0 t ts))) →
      elemental_of which xs ≡ Ok (scalar.Text (f (text_of (argument_of nothing 0 xs)))) → Result_of which sort.Text →
      DoesAt functions limit n w (flats (say t row_value ∷ []) ++ lines) braces (evaluated which)
  adjusted which f fit row_value read is next =
      let sh = argument_shown c nests w 0 sort.Text t ts xs shown fit in
      say_does t w [] lines free kin row_value (f (bytes_of w (words_at c nests 0 t ts))) read (λ u k keep there.
      told (value_given line (scalar.Text (f (text_of (argument_of nothing 0 xs)))) (elemental_of which xs) go n is)
      (next u (scalar.Text (f (text_of (argument_of nothing 0 xs)))) k keep
      (record { of = refl; value = there ∙ ap f (text_shown sh) })))

  merge_does : (s : Sort) → elemental_sort elemental.Merge (sorts_of c ts) ≡ Some s → Result_of elemental.Merge s →
      DoesAt functions limit n w (flats (each_lines c nests elemental.Merge t ts) ++ lines) braces (evaluated elemental.Merge)
  merge_does s h next =
      let of = merge_asked (sorts_of c ts) s h in
      let x = argument_of nothing 0 xs in
      let y = argument_of nothing 1 xs in
      let b = argument_of nothing 2 xs in
      let one = argument_shown c nests w 0 s t ts xs shown of.first in
      let other = argument_shown c nests w 1 s t ts xs shown of.next in
      let choice = argument_shown c nests w 2 sort.Log t ts xs shown of.chosen in
      let result = elemental_of elemental.Merge xs in
      let first = keep (Some s) t (atom_of_place 0) (words_at c nests 0 t ts) ∷ [] in
      let second = keep (Some s) t (atom_of_place 1) (words_at c nests 1 t ts) ∷ [] in
      subst (λ o. DoesAt functions limit n w (flats (stmt.IfElse (atom_of_place 2)
      (keep o t (atom_of_place 0) (words_at c nests 0 t ts) ∷ []) (keep o t (atom_of_place 1) (words_at c nests 1 t ts) ∷ []) ∷ [])
      ++ lines) braces (evaluated elemental.Merge)) (sym h)
      (either_does (atom_of_place 2) first second [] lines
      (λ g. put_in_does t w [] (code.Else ∷ (flats second ++ code.Close ∷ lines)) free kin s (atom_of_place 0)
      (words_at c nests 0 t ts) x one (λ u k keep sh.
      behind_else second lines (told (value_given line x result go n (ap (λ e. Ok (merged e x y)) (is_true choice g)))
      (next u x k keep sh))))
      (λ g. put_in_does t w [] (code.Close ∷ lines) free kin s (atom_of_place 1) (words_at c nests 1 t ts) y other (λ u k keep sh.
      behind_close lines (told (value_given line y result go n (ap (λ e. Ok (merged e x y)) (is_true choice g)))
      (next u y k keep sh)))))

  best_does : (which : Elemental) (greatest : Bool) → elemental_of which xs ≡ Ok (best (better greatest) (map (λ x. x.1) xs)) →
      ListOf (sorts_of c ts) → Result_of which sort.Int →
      DoesAt functions limit n w (flats (best_lines c nests greatest t behind ts) ++ lines) braces (evaluated which)
  best_does which greatest is of next = by ts xs refl refl shown (all_ints c ts of.all) of.some
    where
      by : (us : Trees) (ys : List (ℕ × Scalar)) → ts ≡ us → xs ≡ ys → AllShown c nests w t us ys → AllInts c us →
          nat_le 1 (length (sorts_of c us)) ≡ true →
          DoesAt functions limit n w (flats (best_lines c nests greatest t (t + count_trees us) us) ++ lines) braces
          (evaluated which)
      by no_tree ys e f sh all some = cc
      by (tree place x us) [] e f sh all some = absurd sh
      by (tree place x us) (y ∷ ys) e f sh all some =
          let most = t + suc (count_trees us) in
          let s = served (sort_of c x) sort.Int all.0 in
          let a = shows_serves s.sort sort.Int s.serves_it (value_of w (atom_of c nests t x)) (bytes_of w (words_of c nests t x)) y.1
          (sh.1 s.sort s.is) in
          let last = set t (int.Atom (atom.Int most)) ∷ [] in
          let i = best_from greatest (integer_of y.1) ys in
          set_does most w (better_lines c nests greatest most (suc t) us ++ last) lines (omega (arith, free)) kin
          (int.Atom (atom_of c nests t x)) (value_of w (atom_of c nests t x)) refl (read_atom w (atom_of c nests t x))
          (λ u k keep value.
          better_do c nests w greatest t most free (omega arith) lines (suc t) us ys (omega arith) (omega arith) sh.2 all.1 u k keep
          (integer_of y.1) (value ∙ int_shown a) (int_fits a) last (λ v k' keep' value' fits.
          set_does t v [] lines free k' (int.Atom (atom.Int most)) (number_at v.ints most) refl (read_atom v (atom.Int most))
          (λ v' k'' keep'' last_value.
          whole which i (is ∙ ap (λ zs. Ok (best (better greatest) (map (λ x'. x'.1) zs))) f) (wrapped_fits i fits) next v' k''
          (keeps_then (keeps_less (omega arith) keep') keep'') (last_value ∙ value'))))

  pub elemental_does : (which : Elemental) (s : Sort) → emits_elemental which ≡ true →
      elemental_sort which (sorts_of c ts) ≡ Some s → Result_of which s →
      DoesAt functions limit n w (flats (each_lines c nests which t ts) ++ lines) braces (evaluated which)
  elemental_does elemental.Abs s e h next =
      let o = one_asked (sorts_of c ts) sort.Int sort.Int s h in
      abs_does (int_at 0 o.0.only) (subst (Result_of elemental.Abs) (sym o.1) next)
  elemental_does elemental.Mod s e h next =
      let o = two_asked (sorts_of c ts) sort.Int sort.Int s h in
      mod_does (int_at 0 o.0.first) (int_at 1 o.0.next) (subst (Result_of elemental.Mod) (sym o.1) next)
  elemental_does elemental.Modulo s e h next =
      let o = two_asked (sorts_of c ts) sort.Int sort.Int s h in
      modulo_does (int_at 0 o.0.first) (int_at 1 o.0.next) (subst (Result_of elemental.Modulo) (sym o.1) next)
  elemental_does elemental.Sign s e h next =
      let o = two_asked (sorts_of c ts) sort.Int sort.Int s h in
      sign_does (int_at 0 o.0.first) (int_at 1 o.0.next) (subst (Result_of elemental.Sign) (sym o.1) next)
  elemental_does elemental.Max s e h next =
      let o = list_asked (sorts_of c ts) s h in
      best_does elemental.Max true refl o.0 (subst (Result_of elemental.Max) (sym o.1) next)
  elemental_does elemental.Min s e h next =
      let o = list_asked (sorts_of c ts) s h in
      best_does elemental.Min false refl o.0 (subst (Result_of elemental.Min) (sym o.1) next)
  elemental_does elemental.Iand s e h next =
      let o = two_asked (sorts_of c ts) sort.Int sort.Int s h in
      bits_do elemental.Iand operator.And (int_bit_and w64) (int_bit_and w32) both_bits and_by_rows refl (int_at 0 o.0.first)
      (int_at 1 o.0.next) (subst (Result_of elemental.Iand) (sym o.1) next)
  elemental_does elemental.Ior s e h next =
      let o = two_asked (sorts_of c ts) sort.Int sort.Int s h in
      bits_do elemental.Ior operator.Or (int_bit_or w64) (int_bit_or w32) either_bit or_by_rows refl (int_at 0 o.0.first)
      (int_at 1 o.0.next) (subst (Result_of elemental.Ior) (sym o.1) next)
  elemental_does elemental.Ieor s e h next =
      let o = two_asked (sorts_of c ts) sort.Int sort.Int s h in
      exclusive_does (int_at 0 o.0.first) (int_at 1 o.0.next) (subst (Result_of elemental.Ieor) (sym o.1) next)
  elemental_does elemental.Merge s e h next = merge_does s h next
  elemental_does elemental.Ichar s e h next = cc
  elemental_does elemental.Char s e h next =
      let o = one_asked (sorts_of c ts) sort.Int sort.Text s h in
      char_does (int_at 0 o.0.only) (subst (Result_of elemental.Char) (sym o.1) next)
  elemental_does elemental.LenTrim s e h next = cc
  elemental_does elemental.Index s e h next = cc
  elemental_does elemental.Adjustl s e h next =
      let o = one_asked (sorts_of c ts) sort.Text sort.Text s h in
      adjusted elemental.Adjustl adjust_left o.0.only (words.Left (words_at c nests 0 t ts)) (read_left w (words_at c nests 0 t ts))
      refl (subst (Result_of elemental.Adjustl) (sym o.1) next)
  elemental_does elemental.Adjustr s e h next =
      let o = one_asked (sorts_of c ts) sort.Text sort.Text s h in
      adjusted elemental.Adjustr adjust_right o.0.only (words.Right (words_at c nests 0 t ts))
      (read_right w (words_at c nests 0 t ts)) refl (subst (Result_of elemental.Adjustr) (sym o.1) next)
