-- The lines that make an array leave its bounds in their variables, and its block is new.
use Rattle.std.proofs.Common.{◌≡◌, ◌≢◌, ◌⊎◌, inl, inr, ℕ, suc, ◌+◌, ◌*◌, ◌<◌, ◌≤◌, Bool, true, false, not, ◌&&◌, List, [], ◌∷◌, ◌++◌, refl, sym, ap, ◌∙◌, arith, ℤ, pos, length, if◌then◌else◌}
use Rattle.std.specs.Prelude.{Ok, negsuc, slice_get, unsigned_abs, int_lt, ◌+ℤ◌, ◌-ℤ◌, ◌*ℤ◌}
use Rattle.std.specs.List.{list_all}
use Rattle.std.specs.Int.{w64, int_wrap}
use Rattle.std.proofs.lemmas.Int.{ints, int_wrap-add_left}
use Rattle.std.proofs.lemmas.List.{length-map}
use Rattle.std.proofs.lemmas.Bool.Decides.{nat_tests}
use Rattle.a95_base.specs.Steps.{Ran}
use Rattle.std.proofs.lemmas.Bool.{and_parts}
use Rattle.a95_base.proofs.Tests.{clash}
use Rattle.array_meaning.specs.Values.{size_of}
use Rattle.array_meaning.specs.State.{dimension, extent_of, extents_of}
use Rattle.nest_tree.specs.declared.access.Amount.{Amount}
use Rattle.nest_tree.specs.declared.access.Amount.TheVariants as amounts
use Rattle.nest_tree.specs.declared.statement.Span.{Span}
use Rattle.nest_tree.specs.declared.unit.Sort.TheVariants as sort
use Rattle.nest_tree.specs.Plain.{Procedure}
use Rattle.nest_tree.specs.State.{NestState, Halt}
use Rattle.nest_tree.specs.Places.{amount, natural, bounds_for}
use Rattle.nest_tree.specs.Sound.{fits_amount}
use Rattle.loop_tree.specs.declared.atom.Atom.TheVariants as atom
use Rattle.loop_tree.specs.declared.atom.Operator.TheVariants as operator
use Rattle.loop_tree.specs.declared.row.IntValue.{IntValue}
use Rattle.loop_tree.specs.declared.row.IntValue.TheVariants as int
use Rattle.loop_tree.specs.declared.tree.CodeLine.{CodeLine}
use Rattle.loop_tree.specs.declared.tree.CodeLine.TheVariants as code
use Rattle.loop_tree.specs.declared.tree.Stmt.{Stmt}
use Rattle.loop_tree.specs.declared.tree.Stmt.TheVariants as stmt
use Rattle.loop_tree.specs.declared.tree.Function.{Function}
use Rattle.loop_tree.specs.Lines.{flats}
use Rattle.loop_tree.specs.State.{Brace, Choice, with_at}
use Rattle.loop_tree.specs.Values.{number_at, truth, holds}
use Rattle.loop_laws.specs.At.{Variables, value_of, int_read, with_int}
use Rattle.loop_laws.specs.Rows.{behind_read}
use Rattle.loop_laws.proofs.Rows.{step_int}
use Rattle.loop_laws.proofs.Numbered.{with_at_same, with_at_other}
use Rattle.loop_laws.proofs.Within.{truth_holds}
use Rattle.nest_emit.specs.Numbers.{array_count, lower_number, extent_number, length_number, first_free, scalar_number}
use Rattle.nest_emit.specs.Trees.{set, compute, amount_atom}
use Rattle.nest_emit.specs.Statements.{bounds_lines, length_lines}
use Rattle.nest_emit.specs.Meets.{DoesAt}
use Rattle.nest_emit.specs.Kin.{BoundsAt, Around, Kin}
use Rattle.nest_emit.proofs.Runs.{parts, row_gives, if_does, either_does, behind_else, behind_close}
use Rattle.nest_emit.proofs.Values.{served, scalar_below}
use Rattle.nest_emit.proofs.Rows.{read_atom, read_operation, adds, subtracts, multiplies, is_less}
use Rattle.nest_emit.proofs.Comparisons.{at_most_is}
use Rattle.nest_emit.proofs.Indices.{le_tells, wrap_product, small_wrap}
use Rattle.nest_emit.proofs.Places.{amount_shown}
use Rattle.nest_emit.proofs.Kin.{same_bounds}

-- ---- extents

extent_known : (l u : ℤ) (b : Bool) → int_lt u l ≡ b →
    int_wrap w64 (pos (if b then 0 else unsigned_abs (u -ℤ l +ℤ pos 1))) ≡ int_wrap w64 (pos (extent_of (dimension l u)))
extent_known l u b e = ap (λ (t : Bool). int_wrap w64 (pos (if t then 0 else unsigned_abs (u -ℤ l +ℤ pos 1)))) (sym e)

gap_is : (l u : ℤ) → int_lt u l ≡ false → u -ℤ l +ℤ pos 1 ≡ pos (unsigned_abs (u -ℤ l +ℤ pos 1))
gap_is l u h =
    let above = le_tells l u (at_most_is l u ∙ ap not h) in
    let whole : u -ℤ l +ℤ pos 1 ≡ pos (above.by + 1) = omega (arith, ints, above.is) in
    whole ∙ ap pos (sym (ap unsigned_abs whole))

no_length : (z : ℤ) → int_lt z (pos 0) ≡ true → natural z ≡ 0
no_length (pos n) h = absurd (clash (int_lt (pos n) (pos 0)) h (grind (arith, nat_tests)))
no_length (negsuc n) h = refl

some_length : (z : ℤ) → int_lt z (pos 0) ≡ false → z ≡ pos (natural z)
some_length (pos n) h = refl
some_length (negsuc n) h = cc

-- ---- integers that are set one after the other

-- all that isn't among the bounds of the array, and stands below number t, is as before, the length of its texts too
pub record Moved (array t : ℕ) (before now : List ℤ) : Type 0 where
  pub same : (x : ℕ) → x < t → (x < 16 * array) ⊎ (16 * array + 15 ≤ x) → number_at now x ≡ number_at before x

abbrev pub with_ints : Variables → List ℤ → Variables
with_ints v is = record v { ints = is }

moved_set : (array t : ℕ) (before is : List ℤ) (k : ℕ) (z : ℤ) → ((16 * array ≤ k) × (k < 16 * array + 15)) ⊎ (t ≤ k) →
    Moved array t before is →
    Moved array t before (with_at (pos 0) is k z)
moved_set array t before is k z where_it moved = record {
  same = λ x below side. with_at_other (pos 0) is k x z (apart x below side where_it) ∙ moved.same x below side;
}
  where
    apart : (x : ℕ) → x < t → (x < 16 * array) ⊎ (16 * array + 15 ≤ x) → ((16 * array ≤ k) × (k < 16 * array + 15)) ⊎ (t ≤ k) →
        k ≢ x
    apart x below (inl low) (inl slot) = omega (arith, low, slot.0)
    apart x below (inr high) (inl slot) = omega (arith, high, slot.1)
    apart x below side (inr far) = omega (arith, below, far)

amount_now : {q : Procedure} {around : Around} {n : NestState} {v : Variables} (array : ℕ) → array < array_count q →
    (t : ℕ) → first_free q ≤ t →
    Kin q around n v → (is : List ℤ) → Moved array t v.ints is → (a : Amount) → fits_amount q a ≡ true →
    value_of (with_ints v is) (amount_atom q a) ≡ amount n.cells.temps.setting a
amount_now array there t free kin is moved (amounts.Number z) h = refl
amount_now {q} {around} {n} {v} array there t free kin is moved (amounts.Kept k) h =
    let s = served (slice_get q.scalars k) sort.Exact h in
    let below : scalar_number q k < t = let within = scalar_below q k s.sort s.is in omega (arith, within, free) in
    moved.same (scalar_number q k) below (inr (omega (arith, there))) ∙ amount_shown (amounts.Kept k) h kin

module _ {functions : List Function} {limit : ℕ} {q : Procedure} {around : Around} {n : NestState} {v : Variables}
    {r : Ran Halt NestState (Unit {0})} (array : ℕ) (there : array < array_count q) (t : ℕ) (free : first_free q ≤ t)
    (kin : Kin q around n v) where
  -- one integer is set
  one_set : (is : List ℤ) (k : ℕ) (x : IntValue) (z : ℤ) → int_read (with_ints v is) x ≡ Ok z →
      (more : List Stmt) (lines : List CodeLine) (braces : List Brace) →
      DoesAt functions limit n (with_int (behind_read (with_ints v is) x) k z) (flats more ++ lines) braces r →
      DoesAt functions limit n (with_ints v is) (flats (set k x ∷ more) ++ lines) braces r
  one_set is k x z read more lines braces d = row_gives (step_int k x) more lines read d

  -- behind the extent of a dimension: the dimensions that follow, and the product
  behind_do : (dim : ℕ) (s : Span) (spans : List Span) → suc dim + length spans ≤ 7 → (is js : List ℤ) → Moved array t v.ints js →
      (lines : List CodeLine) (braces : List Brace) →
      number_at js (lower_number array dim) ≡ amount n.cells.temps.setting s.lower →
      number_at js (extent_number array dim) ≡ int_wrap w64
      (pos (extent_of (dimension (amount n.cells.temps.setting s.lower) (amount n.cells.temps.setting s.upper)))) →
      ((x : ℕ) → 16 * array ≤ x → x < 16 * array + 2 * dim → number_at js x ≡ number_at is x) →
      ((os : List ℤ) → Moved array t v.ints os → (ls : List CodeLine) (bs : List Brace) →
      ((ks : List ℤ) → Moved array t v.ints ks →
      ((x : ℕ) → 16 * array ≤ x → x < 16 * array + 2 * suc dim → number_at ks x ≡ number_at os x) →
      BoundsAt ks array (suc dim) (bounds_for n.cells.temps.setting spans) →
      number_at ks t ≡ int_wrap w64 (pos (size_of (extents_of (bounds_for n.cells.temps.setting spans)))) →
      DoesAt functions limit n (with_ints v ks) ls bs r) →
      DoesAt functions limit n (with_ints v os) (flats (bounds_lines q array t (suc dim) spans) ++ ls) bs r) →
      ((ks : List ℤ) → Moved array t v.ints ks →
      ((x : ℕ) → 16 * array ≤ x → x < 16 * array + 2 * dim → number_at ks x ≡ number_at is x) →
      BoundsAt ks array dim (bounds_for n.cells.temps.setting (s ∷ spans)) →
      number_at ks t ≡ int_wrap w64 (pos (size_of (extents_of (bounds_for n.cells.temps.setting (s ∷ spans))))) →
      DoesAt functions limit n (with_ints v ks) lines braces r) →
      DoesAt functions limit n (with_ints v js) (flats (bounds_lines q array t (suc dim) spans
      ++ (compute t (atom.Int (extent_number array dim)) operator.Multiply (atom.Int t) ∷ [])) ++ lines) braces r
  behind_do dim s spans few is js moved lines braces low extent kept more next =
      let st = n.cells.temps.setting in
      let e = extent_number array dim in
      let d = dimension (amount st s.lower) (amount st s.upper) in
      let size = size_of (extents_of (bounds_for st spans)) in
      let last = compute t (atom.Int e) operator.Multiply (atom.Int t) ∷ [] in
      let long : length (bounds_for st spans) ≡ length spans = length-map spans
      (λ (x : Span). dimension (amount st x.lower) (amount st x.upper)) in
      parts (bounds_lines q array t (suc dim) spans) last lines
      (more js moved (flats last ++ lines) braces (λ ks moved' kept' bounds number.
      let z = int_wrap w64 (number_at ks e *ℤ number_at ks t) in
      let new = with_at (pos 0) ks t z in
      one_set ks t (int.Operation (atom.Int e) operator.Multiply (atom.Int t)) z
      (read_operation (with_ints v ks) (atom.Int e) operator.Multiply (atom.Int t) z
      (multiplies (number_at ks e) (number_at ks t))) [] lines braces
      (next new (moved_set array t v.ints ks t z (inr (omega arith)) moved')
      (λ x from below. with_at_other (pos 0) ks t x z (omega (arith, below, there, few, free))
      ∙ kept' x from (omega (arith, below)) ∙ kept x from below) (
        with_at_other (pos 0) ks t (lower_number array dim) z (omega (arith, there, few, free))
            ∙ kept' (lower_number array dim) (omega arith) (omega arith) ∙ low,
        with_at_other (pos 0) ks t e z (omega (arith, there, few, free)) ∙ kept' e (omega arith) (omega arith) ∙ extent,
        same_bounds ks new array (suc dim) (bounds_for st spans)
            (λ x from below. with_at_other (pos 0) ks t x z (omega (arith, below, there, free)))
            (omega (arith, few, long)) bounds,
      )
      (with_at_same (pos 0) ks t z ∙ ap (λ i. int_wrap w64 (i *ℤ number_at ks t)) (kept' e (omega arith) (omega arith) ∙ extent)
      ∙ ap (λ i. int_wrap w64 (int_wrap w64 (pos (extent_of d)) *ℤ i)) number ∙ wrap_product (pos (extent_of d)) (pos size)))))

  -- the bounds from a dimension on, and how many elements they make
  pub bounds_do : (spans : List Span) (dim : ℕ) → dim + length spans ≤ 7 →
      list_all (λ s. fits_amount q s.lower && fits_amount q s.upper) spans ≡ true →
      (is : List ℤ) → Moved array t v.ints is → (lines : List CodeLine) (braces : List Brace) →
      ((js : List ℤ) → Moved array t v.ints js →
      ((x : ℕ) → 16 * array ≤ x → x < 16 * array + 2 * dim → number_at js x ≡ number_at is x) →
      BoundsAt js array dim (bounds_for n.cells.temps.setting spans) →
      number_at js t ≡ int_wrap w64 (pos (size_of (extents_of (bounds_for n.cells.temps.setting spans)))) →
      DoesAt functions limit n (with_ints v js) lines braces r) →
      DoesAt functions limit n (with_ints v is) (flats (bounds_lines q array t dim spans) ++ lines) braces r
  bounds_do [] dim few fits is moved lines braces next =
      let js = with_at (pos 0) is t (pos 1) in
      one_set is t (int.Atom (atom.Number (pos 1))) (pos 1) (read_atom (with_ints v is) (atom.Number (pos 1))) [] lines braces
      (next js (moved_set array t v.ints is t (pos 1) (inr (omega arith)) moved)
      (λ x from below. with_at_other (pos 0) is t x (pos 1) (far x below)) tt
      (with_at_same (pos 0) is t (pos 1) ∙ sym (small_wrap 1 (omega arith))))
    where
      far : (x : ℕ) → x < 16 * array + 2 * dim → t ≢ x
      far x below = omega (arith, below, there, few, free)
  bounds_do (s ∷ spans) dim few fits is moved lines braces next =
      let st = n.cells.temps.setting in
      let l = amount st s.lower in
      let u = amount st s.upper in
      let low = lower_number array dim in
      let extent = extent_number array dim in
      let two = and_parts (fits_amount q s.lower && fits_amount q s.upper)
      (list_all (λ s. fits_amount q s.lower && fits_amount q s.upper) spans) fits in
      let one = and_parts (fits_amount q s.lower) (fits_amount q s.upper) two.0 in
      let a = amount_atom q s.lower in
      let b = amount_atom q s.upper in
      let test = suc t in
      let last = compute t (atom.Int extent) operator.Multiply (atom.Int t) ∷ [] in
      let rest = bounds_lines q array t (suc dim) spans ++ last in
      let nothing = set extent (int.Atom (atom.Number (pos 0))) ∷ [] in
      let something = compute extent b operator.Subtract a ∷ compute extent (atom.Int extent) operator.Add
      (atom.Number (pos 1)) ∷ [] in
      let choice = stmt.IfElse (atom.Int test) nothing something ∷ rest in
      let is1 = with_at (pos 0) is low (value_of (with_ints v is) a) in
      let moved1 = moved_set array t v.ints is low (value_of (with_ints v is) a) (inl (omega arith, omega (arith, few))) moved in
      let z2 = truth (int_lt (value_of (with_ints v is1) b) (value_of (with_ints v is1) a)) in
      let is2 = with_at (pos 0) is1 test z2 in
      let moved2 = moved_set array t v.ints is1 test z2 (inr (omega arith)) moved1 in
      let less : z2 ≡ truth (int_lt u l) = ap (λ i. truth (int_lt i (value_of (with_ints v is1) a)))
      (amount_now array there t free kin is1 moved1 s.upper one.1)
      ∙ ap (λ i. truth (int_lt u i)) (amount_now array there t free kin is1 moved1 s.lower one.0) in
      let low2 : number_at is2 low ≡ l = with_at_other (pos 0) is1 test low z2 (omega (arith, there, few, free))
      ∙ with_at_same (pos 0) is low (value_of (with_ints v is) a) ∙ amount_now array there t free kin is moved s.lower one.0 in
      let kept2 : (x : ℕ) → x < 16 * array + 2 * dim → number_at is2 x ≡ number_at is x =
      λ x below. with_at_other (pos 0) is1 test x z2 (omega (arith, below, there, few, free))
      ∙ with_at_other (pos 0) is low x (value_of (with_ints v is) a) (omega (arith, below)) in
      let last_few : suc dim + length spans ≤ 7 = omega (arith, few) in
      let tested : number_at is2 test ≡ truth (int_lt u l) = with_at_same (pos 0) is1 test z2 ∙ less in
      one_set is low (int.Atom a) (value_of (with_ints v is) a) (read_atom (with_ints v is) a)
      (compute test b operator.Less a ∷ choice) lines braces
      (one_set is1 test (int.Operation b operator.Less a) z2
      (read_operation (with_ints v is1) b operator.Less a z2
      (is_less (value_of (with_ints v is1) b) (value_of (with_ints v is1) a)))
      choice lines braces
      (either_does (atom.Int test) nothing something rest lines
      (λ h. let b' : int_lt u l ≡ true = sym (truth_holds (int_lt u l)) ∙ ap holds (sym tested) ∙ h in
      one_set is2 extent (int.Atom (atom.Number (pos 0))) (pos 0) (read_atom (with_ints v is2) (atom.Number (pos 0))) []
      (code.Else ∷ (flats something ++ code.Close ∷ (flats rest ++ lines))) (Choice ∷ braces)
      (behind_else something (flats rest ++ lines)
      (behind_do dim s spans last_few is (with_at (pos 0) is2 extent (pos 0))
      (moved_set array t v.ints is2 extent (pos 0) (inl (omega arith, omega (arith, few))) moved2) lines braces
      (with_at_other (pos 0) is2 extent low (pos 0) (omega arith) ∙ low2)
      (with_at_same (pos 0) is2 extent (pos 0) ∙ sym (small_wrap 0 (omega arith)) ∙ extent_known l u true b')
      (λ x from below. with_at_other (pos 0) is2 extent x (pos 0) (omega (arith, below)) ∙ kept2 x below)
      (bounds_do spans (suc dim) last_few two.1) next)))
      (λ h. let b' : int_lt u l ≡ false = sym (truth_holds (int_lt u l)) ∙ ap holds (sym tested) ∙ h in
      let z3 = int_wrap w64 (value_of (with_ints v is2) b -ℤ value_of (with_ints v is2) a) in
      let is3 = with_at (pos 0) is2 extent z3 in
      let moved3 = moved_set array t v.ints is2 extent z3 (inl (omega arith, omega (arith, few))) moved2 in
      let z4 = int_wrap w64 (number_at is3 extent +ℤ pos 1) in
      one_set is2 extent (int.Operation b operator.Subtract a) z3
      (read_operation (with_ints v is2) b operator.Subtract a z3
      (subtracts (value_of (with_ints v is2) b) (value_of (with_ints v is2) a)))
      (compute extent (atom.Int extent) operator.Add (atom.Number (pos 1)) ∷ []) (code.Close ∷ (flats rest ++ lines))
      (Choice ∷ braces)
      (one_set is3 extent (int.Operation (atom.Int extent) operator.Add (atom.Number (pos 1))) z4
      (read_operation (with_ints v is3) (atom.Int extent) operator.Add (atom.Number (pos 1)) z4
      (adds (number_at is3 extent) (pos 1))) []
      (code.Close ∷ (flats rest ++ lines)) (Choice ∷ braces)
      (behind_close (flats rest ++ lines)
      (behind_do dim s spans last_few is (with_at (pos 0) is3 extent z4)
      (moved_set array t v.ints is3 extent z4 (inl (omega arith, omega (arith, few))) moved3) lines braces
      (with_at_other (pos 0) is3 extent low z4 (omega arith) ∙ with_at_other (pos 0) is2 extent low z3 (omega arith) ∙ low2)
      (with_at_same (pos 0) is3 extent z4 ∙ ap (λ i. int_wrap w64 (i +ℤ pos 1)) (with_at_same (pos 0) is2 extent z3)
      ∙ int_wrap-add_left w64 (value_of (with_ints v is2) b -ℤ value_of (with_ints v is2) a) (pos 1)
      ∙ ap (λ i. int_wrap w64 (i -ℤ value_of (with_ints v is2) a +ℤ pos 1))
      (amount_now array there t free kin is2 moved2 s.upper one.1)
      ∙ ap (λ i. int_wrap w64 (u -ℤ i +ℤ pos 1)) (amount_now array there t free kin is2 moved2 s.lower one.0)
      ∙ ap (int_wrap w64) (gap_is l u b') ∙ extent_known l u false b')
      (λ x from below. with_at_other (pos 0) is3 extent x z4 (omega (arith, below))
      ∙ with_at_other (pos 0) is2 extent x z3 (omega (arith, below)) ∙ kept2 x below)
      (bounds_do spans (suc dim) last_few two.1) next))))))

  -- the length of texts, where a negative one is none
  pub length_do : (a : Amount) → fits_amount q a ≡ true → (is : List ℤ) → Moved array t v.ints is →
      (more : List Stmt) (lines : List CodeLine) (braces : List Brace) →
      ((ks : List ℤ) → number_at ks (length_number array) ≡ pos (natural (amount n.cells.temps.setting a)) →
      ((x : ℕ) → x ≢ length_number array → x ≢ suc t → number_at ks x ≡ number_at is x) →
      DoesAt functions limit n (with_ints v ks) (flats more ++ lines) braces r) →
      DoesAt functions limit n (with_ints v is) (flats (length_lines q array (suc t) a ++ more) ++ lines) braces r
  length_do a fits is moved more lines braces next =
      let z = amount n.cells.temps.setting a in
      let len = length_number array in
      let test = suc t in
      let none = set len (int.Atom (atom.Number (pos 0))) ∷ [] in
      let choice = stmt.If (atom.Int test) none ∷ more in
      let first = value_of (with_ints v is) (amount_atom q a) in
      let is1 = with_at (pos 0) is len first in
      let here1 : number_at is1 len ≡ z = with_at_same (pos 0) is len first ∙ amount_now array there t free kin is moved a fits in
      let z2 = truth (int_lt (number_at is1 len) (pos 0)) in
      let is2 = with_at (pos 0) is1 test z2 in
      let apart : test ≢ len = omega (arith, there, free) in
      let here2 : number_at is2 len ≡ z = with_at_other (pos 0) is1 test len z2 apart ∙ here1 in
      let tested : number_at is2 test ≡ truth (int_lt z (pos 0)) = with_at_same (pos 0) is1 test z2
      ∙ ap (λ i. truth (int_lt i (pos 0))) here1 in
      let known : (b : Bool) → holds (number_at is2 test) ≡ b → int_lt z (pos 0) ≡ b =
      λ b h. sym (truth_holds (int_lt z (pos 0))) ∙ ap holds (sym tested) ∙ h in
      let kept : (x : ℕ) → x ≢ len → x ≢ test → number_at is2 x ≡ number_at is x =
      λ x ne other. with_at_other (pos 0) is1 test x z2 (λ e. other (sym e)) ∙ with_at_other (pos 0) is len x first (λ e. ne (sym e)) in
      one_set is len (int.Atom (amount_atom q a)) first (read_atom (with_ints v is) (amount_atom q a))
      (compute test (atom.Int len) operator.Less (atom.Number (pos 0)) ∷ choice) lines braces
      (one_set is1 test (int.Operation (atom.Int len) operator.Less (atom.Number (pos 0))) z2
      (read_operation (with_ints v is1) (atom.Int len) operator.Less (atom.Number (pos 0)) z2 (is_less (number_at is1 len) (pos 0)))
      choice lines braces
      (if_does (atom.Int test) none more lines
      (λ h. one_set is2 len (int.Atom (atom.Number (pos 0))) (pos 0) (read_atom (with_ints v is2) (atom.Number (pos 0))) []
      (code.Close ∷ (flats more ++ lines)) (Choice ∷ braces)
      (behind_close (flats more ++ lines)
      (next (with_at (pos 0) is2 len (pos 0)) (with_at_same (pos 0) is2 len (pos 0) ∙ ap pos (sym (no_length z (known true h))))
      (λ x ne other. with_at_other (pos 0) is2 len x (pos 0) (λ e. ne (sym e)) ∙ kept x ne other))))
      (λ h. next is2 (here2 ∙ some_length z (known false h)) kept)))
