-- The rows of a place leave the number of the element, modulo 2 ^ 64.
use Rattle.std.proofs.Common.{◌≡◌, ℕ, suc, ◌+◌, ◌*◌, ◌<◌, ◌≤◌, true, ◌&&◌, List, [], ◌∷◌, ◌++◌, Some, refl, sym, ap, ◌∙◌, arith, ℤ, pos, length, nat_le}
use Rattle.std.specs.Prelude.{slice_get, ◌+ℤ◌, ◌-ℤ◌, ◌*ℤ◌}
use Rattle.std.specs.List.{list_all}
use Rattle.std.specs.Int.{w64, int_wrap}
use Rattle.std.proofs.lemmas.Int.{int_wrap-add_right}
use Rattle.std.proofs.lemmas.Bool.Decides.{nat_tests}
use Rattle.a95_base.specs.Steps.{Ran}
use Rattle.std.proofs.lemmas.Bool.{and_parts}
use Rattle.array_meaning.specs.State.{Dimension as Bounds, extent_of}
use Rattle.nest_tree.specs.declared.access.Along.{Along}
use Rattle.nest_tree.specs.declared.access.Along.TheVariants as along
use Rattle.nest_tree.specs.declared.access.Amount.{Amount}
use Rattle.nest_tree.specs.declared.access.Amount.TheVariants as amounts
use Rattle.nest_tree.specs.declared.access.Dimension.{Dimension}
use Rattle.nest_tree.specs.declared.unit.Sort.TheVariants as sort
use Rattle.nest_tree.specs.Plain.{Procedure}
use Rattle.nest_tree.specs.State.{NestState, Halt}
use Rattle.nest_tree.specs.Places.{amount, subscript, subscripts, number_within}
use Rattle.nest_tree.specs.Places.{at_turn}
use Rattle.nest_tree.specs.Sound.{Scope, fits_amount, fits_along, is_loop}
use Rattle.loop_tree.specs.declared.atom.Atom.TheVariants as atom
use Rattle.loop_tree.specs.declared.atom.Operator.TheVariants as operator
use Rattle.loop_tree.specs.declared.tree.CodeLine.{CodeLine}
use Rattle.loop_tree.specs.declared.tree.Function.{Function}
use Rattle.loop_tree.specs.Lines.{flats}
use Rattle.loop_tree.specs.State.{Brace}
use Rattle.loop_tree.specs.Values.{number_at}
use Rattle.loop_laws.specs.At.{Variables, value_of}
use Rattle.nest_emit.specs.Numbers.{array_count, lower_number, extent_number, first_free, loop_number}
use Rattle.nest_emit.specs.Trees.{compute, amount_atom, subscript_atom, subscript_lines, place_atom, place_lines}
use Rattle.nest_emit.specs.Emits.{is_computed}
use Rattle.nest_emit.specs.Meets.{DoesAt}
use Rattle.nest_emit.specs.Kin.{Around, Kin, AtTurn, Keeps, BoundsAt}
use Rattle.nest_emit.proofs.Runs.{parts}
use Rattle.nest_emit.proofs.Values.{served, shows_serves, exact_shown}
use Rattle.nest_emit.proofs.Rows.{adds, subtracts, multiplies, compute_does}
use Rattle.nest_emit.proofs.Kin.{keeps_then, keeps_less, keeps_all, turn_kept}
use Rattle.nest_emit.proofs.Indices.{numbered_is, wrap_wrap, wrap_sum, wrap_product, wrap_gap, small_wrap, wrap_fits}

-- ---- amounts

pub amount_shown : {q : Procedure} {around : Around} {n : NestState} {w : Variables} (a : Amount) → fits_amount q a ≡ true →
    Kin q around n w → value_of w (amount_atom q a) ≡ amount n.cells.temps.setting a
amount_shown (amounts.Number z) h kin = refl
amount_shown {q} {around} {n} {w} (amounts.Kept k) h kin =
    let s = served (slice_get q.scalars k) sort.Exact h in
    exact_shown (shows_serves s.sort sort.Exact s.serves_it _ _ (n.cells.temps.setting.kept k) (kin.scalars k s.sort s.is))

pub amount_wraps : {q : Procedure} {around : Around} {n : NestState} {w : Variables} (a : Amount) → fits_amount q a ≡ true →
    Kin q around n w → int_wrap w64 (amount n.cells.temps.setting a) ≡ amount n.cells.temps.setting a
amount_wraps (amounts.Number z) h kin = wrap_fits z h
amount_wraps {q} {around} {n} {w} (amounts.Kept k) h kin =
    let s = served (slice_get q.scalars k) sort.Exact h in
    let shown = shows_serves s.sort sort.Exact s.serves_it _ _ (n.cells.temps.setting.kept k) (kin.scalars k s.sort s.is) in
    shown.of.1

-- ---- one subscript

module _ {functions : List Function} {limit : ℕ} {around : Around} {n : NestState} {braces : List Brace}
    {r : Ran Halt NestState (Unit {0})} (c : Scope) (nests : ℕ) (turn : List ℕ) where
  subscript_does : (t : ℕ) (w : Variables) (a : Along) (lines : List CodeLine) → first_free c.own ≤ t → Kin c.own around n w →
      AtTurn nests c.loops turn w → is_computed a ≡ true → fits_along c a ≡ true → (z : ℤ) →
      subscript n.cells.temps.setting turn a ≡ Some z →
      ((u : Variables) → Kin c.own around n u → Keeps t w u →
      int_wrap w64 (value_of u (subscript_atom c.own nests t a)) ≡ int_wrap w64 z → DoesAt functions limit n u lines braces r) →
      DoesAt functions limit n w (flats (subscript_lines c.own nests t a) ++ lines) braces r
  subscript_does t w (along.Alone a) lines free kin turned computed fits z is next =
      let same : amount n.cells.temps.setting a ≡ z = cc in
      next w kin (keeps_all t w) (ap (int_wrap w64) (amount_shown a fits kin ∙ same))
  subscript_does t w (along.Steps loop start stride) lines free kin turned computed fits z is next =
      let two = and_parts (is_loop c loop && fits_amount c.own start) (fits_amount c.own stride) fits in
      let one = and_parts (is_loop c loop) (fits_amount c.own start) two.0 in
      let range = and_parts (nat_le 1 loop) (nat_le loop c.loops) one.0 in
      let first : 1 ≤ loop = grind (arith, nat_tests, range.0) in
      let last : loop ≤ c.loops = grind (arith, nat_tests, range.1) in
      let st = n.cells.temps.setting in
      let same : amount st start +ℤ pos (at_turn turn loop) *ℤ amount st stride ≡ z = cc in
      compute_does t w (compute t (amount_atom c.own start) operator.Add (atom.Int t) ∷ []) lines free kin
      (atom.Loop (loop_number nests loop)) operator.Multiply (amount_atom c.own stride) _
      (multiplies (number_at w.indices (loop_number nests loop)) (value_of w (amount_atom c.own stride))) (λ u k keep there.
      compute_does t u [] lines free k (amount_atom c.own start) operator.Add (atom.Int t) _
      (adds (value_of u (amount_atom c.own start)) (number_at u.ints t)) (λ u' k' keep' there'.
      next u' k' (keeps_then keep keep') (ap (int_wrap w64) there' ∙ wrap_wrap _
      ∙ ap (λ i. int_wrap w64 (i +ℤ number_at u.ints t)) (amount_shown start one.1 k)
      ∙ ap (λ i. int_wrap w64 (amount st start +ℤ i)) (there
      ∙ ap (λ i. int_wrap w64 (i *ℤ value_of w (amount_atom c.own stride))) (turned.each loop first last)
      ∙ ap (λ i. int_wrap w64 (pos (at_turn turn loop) *ℤ i)) (amount_shown stride two.1 kin))
      ∙ int_wrap-add_right w64 (amount st start) (pos (at_turn turn loop) *ℤ amount st stride)
      ∙ ap (int_wrap w64) same)))
  subscript_does t w (along.Listed loop list) lines free kin turned computed fits z is next = cc

  -- ---- the number of the element

  pub place_does : (array : ℕ) → array < array_count c.own →
      (t : ℕ) (w : Variables) (lines : List CodeLine) (dim : ℕ) (ds : List Dimension) →
      first_free c.own ≤ t → Kin c.own around n w → AtTurn nests c.loops turn w →
      list_all (λ d. is_computed d.along) ds ≡ true → list_all (λ d. fits_along c d.along) ds ≡ true →
      (bounds : List Bounds) → dim + length bounds ≤ 7 → BoundsAt w.ints array dim bounds → (k : ℕ) →
      number_within bounds (subscripts n.cells.temps.setting turn ds) ≡ Some k →
      ((u : Variables) → Kin c.own around n u → Keeps t w u → value_of u (place_atom c.own nests t ds) ≡ int_wrap w64 (pos k) →
      DoesAt functions limit n u lines braces r) →
      DoesAt functions limit n w (flats (place_lines c.own nests t array dim ds) ++ lines) braces r
  place_does array there t w lines dim [] free kin turned computed fits [] few at k is next =
      let none : 0 ≡ k = cc in
      next w kin (keeps_all t w) (sym (small_wrap 0 (omega arith)) ∙ ap (λ i. int_wrap w64 (pos i)) none)
  place_does array there t w lines dim [] free kin turned computed fits (b ∷ bounds) few at k is next = cc
  place_does array there t w lines dim (d ∷ ds) free kin turned computed fits [] few at k is next = cc
  place_does array there t w lines dim (d ∷ []) free kin turned computed fits (b ∷ bounds) few at k is next =
      let st = n.cells.temps.setting in
      let one = numbered_is b (subscript st turn d.along) (number_within bounds []) k is in
      let now = and_parts (is_computed d.along) true computed in
      let fit = and_parts (fits_along c d.along) true fits in
      let low : atom.Int (lower_number array dim) ≡ atom.Int (lower_number array dim) = refl in
      parts (subscript_lines c.own nests t d.along)
      (compute t (subscript_atom c.own nests t d.along) operator.Subtract (atom.Int (lower_number array dim)) ∷ []) lines
      (subscript_does t w d.along
      (flats (compute t (subscript_atom c.own nests t d.along) operator.Subtract (atom.Int (lower_number array dim)) ∷ []) ++
      lines)
      free kin turned now.0 fit.0 one.subscript one.is (λ u k' keep value.
      compute_does t u [] lines free k' (subscript_atom c.own nests t d.along) operator.Subtract
      (atom.Int (lower_number array dim)) _
      (subtracts (value_of u (subscript_atom c.own nests t d.along)) (number_at u.ints (lower_number array dim)))
      (λ u' k'' keep' result.
      next u' k'' (keeps_then keep keep') (result
      ∙ ap (λ i. int_wrap w64 (value_of u (subscript_atom c.own nests t d.along) -ℤ i))
      (keep.ints (lower_number array dim) (omega (arith, there, few, free)) ∙ at.0)
      ∙ wrap_gap (value_of u (subscript_atom c.own nests t d.along)) one.subscript b.lower value
      ∙ ap (int_wrap w64) one.above
      ∙ ap (λ i. int_wrap w64 (pos i)) (last_number b bounds one.step one.rest k one.there one.number)))))
    where
      last_number : (b : Bounds) (bounds : List Bounds) (step rest k : ℕ) → number_within bounds [] ≡ Some rest →
          k ≡ step + extent_of b * rest → step ≡ k
      last_number b [] step rest k h e = let none : 0 ≡ rest = cc in sym
          (e ∙ ap (λ i. step + extent_of b * i) (sym none) ∙ omega arith)
      last_number b (x ∷ bounds) step rest k h e = cc
  place_does array there t w lines dim (d ∷ e ∷ more) free kin turned computed fits (b ∷ bounds) few at k is next =
      let st = n.cells.temps.setting in
      let low = lower_number array dim in
      let extent = extent_number array dim in
      let one = numbered_is b (subscript st turn d.along) (number_within bounds (subscripts st turn (e ∷ more))) k is in
      let now = and_parts (is_computed d.along) (list_all (λ d. is_computed d.along) (e ∷ more)) computed in
      let fit = and_parts (fits_along c d.along) (list_all (λ d. fits_along c d.along) (e ∷ more)) fits in
      let free' : first_free c.own ≤ suc t = omega (arith, free) in
      let sub = subscript_atom c.own nests (suc t) d.along in
      let last = compute t (atom.Int t) operator.Add (atom.Int (suc t)) ∷ [] in
      let gap = compute (suc t) sub operator.Subtract (atom.Int low) ∷ last in
      let rest = compute t (atom.Int extent) operator.Multiply (atom.Int t) ∷ (subscript_lines c.own nests (suc t) d.along ++ gap)
      in
      parts (place_lines c.own nests t array (suc dim) (e ∷ more)) rest lines
      (place_does array there t w (flats rest ++ lines) (suc dim) (e ∷ more) free kin turned now.1 fit.1 bounds
      (omega (arith, few)) at.2 one.rest one.there
      (λ u k1 keep1 value1.
      compute_does t u (subscript_lines c.own nests (suc t) d.along ++ gap) lines free k1 (atom.Int extent) operator.Multiply
      (atom.Int t) _
      (multiplies (number_at u.ints extent) (number_at u.ints t)) (λ u2 k2 keep2 value2.
      parts (subscript_lines c.own nests (suc t) d.along) gap lines
      (subscript_does (suc t) u2 d.along (flats gap ++ lines) free' k2 (turn_kept (keep2.indices ∙ keep1.indices) turned) now.0
      fit.0 one.subscript one.is
      (λ u3 k3 keep3 value3.
      compute_does (suc t) u3 last lines free' k3 sub operator.Subtract (atom.Int low) _
      (subtracts (value_of u3 sub) (number_at u3.ints low)) (λ u4 k4 keep4 value4.
      compute_does t u4 [] lines free k4 (atom.Int t) operator.Add (atom.Int (suc t)) _
      (adds (number_at u4.ints t) (number_at u4.ints (suc t))) (λ u5 k5 keep5 value5.
      let low_below : low < t = omega (arith, there, few, free) in
      let extent_below : extent < t = omega (arith, there, few, free) in
      let keep13 : Keeps t w u3 = keeps_then (keeps_then keep1 keep2) (keeps_less (omega arith) keep3) in
      let product : number_at u4.ints t ≡ int_wrap w64 (pos (extent_of b) *ℤ pos one.rest) =
      keep4.ints t (omega arith) ∙ keep3.ints t (omega arith) ∙ value2
      ∙ ap (λ i. int_wrap w64 (i *ℤ number_at u.ints t)) (keep1.ints extent extent_below ∙ at.1)
      ∙ ap (λ i. int_wrap w64 (int_wrap w64 (pos (extent_of b)) *ℤ i)) value1
      ∙ wrap_product (pos (extent_of b)) (pos one.rest) in
      let difference : number_at u4.ints (suc t) ≡ int_wrap w64 (pos one.step) =
      value4 ∙ ap (λ i. int_wrap w64 (value_of u3 sub -ℤ i)) (keep13.ints low low_below ∙ at.0)
      ∙ wrap_gap (value_of u3 sub) one.subscript b.lower value3 ∙ ap (int_wrap w64) one.above in
      next u5 k5 (keeps_then (keeps_then keep13 (keeps_less (omega arith) keep4)) keep5)
      (value5 ∙ ap (λ i. int_wrap w64 (i +ℤ number_at u4.ints (suc t))) product
      ∙ ap (λ i. int_wrap w64 (int_wrap w64 (pos (extent_of b) *ℤ pos one.rest) +ℤ i)) difference
      ∙ wrap_sum (pos (extent_of b) *ℤ pos one.rest) (pos one.step)
      ∙ ap (λ i. int_wrap w64 (pos i))
      (let order : extent_of b * one.rest + one.step ≡ k = omega (arith, one.number) in order)))))))))
