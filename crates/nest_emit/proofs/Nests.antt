-- Nests: the tests for elements, and loops in their order.
use Rattle.std.proofs.Common.{◌≡◌, ◌≢◌, ◌⊎◌, inl, inr, ℕ, zero, suc, ◌+◌, ◌*◌, ◌-◌, ◌<◌, ◌≤◌, ◌^◌, Bool, true, false, List, [], ◌∷◌, ◌++◌, Some, None, refl, sym, ap, ◌∙◌, subst, arith, ℤ, pos, length, Option}
use Rattle.std.specs.Prelude.{FitsSigned, negsuc, map, slice_index, slice_set, int_lt, nat_eq, nat_le, nat_lt}
use Rattle.std.specs.List.{list_all}
use Rattle.std.specs.Int.{w64, int_wrap}
use Rattle.std.proofs.Math.Nat.{mul-zero, zero-mul}
use Rattle.std.proofs.lemmas.List.{get_or-set_same, get_or-set_other, length-set, length-map}
use Rattle.std.proofs.lemmas.Bool.Decides.{nat_tests}
use Rattle.std.proofs.lemmas.Int.{SFits-int_wrap}
use Rattle.a95_base.specs.Lists.{Every, Pairwise, Member, down_to_one}
use Rattle.a95_base.specs.Steps.{Ran, pure, ◌>>=◌, ◌>>◌}
use Rattle.a95_base.proofs.Permuted.{permuted_back, Permuted-Member, Permuted-Pairwise, Member-down_to_one, each_from_one}
use Rattle.a95_base.proofs.Lists.{Every-weaker}
use Rattle.std.proofs.lemmas.Bool.{and_parts}
use Rattle.a95_base.proofs.Powers.{times_some}
use Rattle.a95_base.proofs.Tests.{clash}
use Rattle.rank_shape.specs.Order.{Level, loops_of, IsOrder}
use Rattle.rank_shape.proofs.Orders.{loops_in_range}
use Rattle.array_meaning.specs.Values.{size_of}
use Rattle.array_meaning.specs.Control.{Next}
use Rattle.nest_tree.specs.declared.access.Amount.{Amount}
use Rattle.nest_tree.specs.declared.frame.Header.{Header}
use Rattle.nest_tree.specs.Plain.{Procedure, Frame, Statements, Nest}
use Rattle.nest_tree.specs.State.{NestState, Memory, Setting, Halt, Step, reads}
use Rattle.nest_tree.specs.Places.{amount, natural, at_turn}
use Rattle.nest_tree.specs.Statements.{Caller, loops, looped, only_next, calmly, all_act}
use Rattle.nest_tree.specs.Sound.{Scope, in_nest, fits_amount, FitsFrame}
use Rattle.loop_tree.specs.declared.atom.Atom.TheVariants as atom
use Rattle.loop_tree.specs.declared.atom.Operator.TheVariants as operator
use Rattle.loop_tree.specs.declared.row.IntValue.TheVariants as int_row
use Rattle.loop_tree.specs.declared.tree.CodeLine.{CodeLine}
use Rattle.loop_tree.specs.declared.tree.CodeLine.TheVariants as code
use Rattle.loop_tree.specs.declared.tree.Stmt.{Stmt}
use Rattle.loop_tree.specs.declared.tree.Stmt.TheVariants as stmt
use Rattle.loop_tree.specs.declared.tree.Function.{Function}
use Rattle.loop_tree.specs.Lines.{flats}
use Rattle.loop_tree.specs.State.{Brace, Choice}
use Rattle.loop_tree.specs.Values.{number_at, truth, holds}
use Rattle.loop_laws.specs.At.{Variables, value_of}
use Rattle.loop_laws.proofs.Numbered.{with_at_other}
use Rattle.loop_laws.proofs.Within.{truth_holds}
use Rattle.nest_emit.specs.Numbers.{first_free, loop_number}
use Rattle.nest_emit.specs.Trees.{set, amount_atom}
use Rattle.nest_emit.specs.Statements.{extent_lines, where_elements, loop_lines, all_lines}
use Rattle.nest_emit.specs.Meets.{DoesAt}
use Rattle.nest_emit.specs.Kin.{Around, Kin, AtTurn, Keeps, Stays}
use Rattle.nest_emit.proofs.Runs.{told, regroup, regroup_next, pured, sees_it, parts, if_does, behind_close}
use Rattle.nest_emit.proofs.Acts.{pick_true, pick_false}
use Rattle.nest_emit.proofs.Values.{some_is}
use Rattle.nest_emit.proofs.Rows.{read_atom, is_less, set_does, compute_does}
use Rattle.nest_emit.proofs.Places.{amount_shown, amount_wraps}
use Rattle.nest_emit.proofs.Rounds.{loop_does}
use Rattle.nest_emit.proofs.Leaving.{no_way}
use Rattle.nest_emit.proofs.Performs.{Performs, PerformsAll, Placed}
use Rattle.nest_emit.proofs.Kin.{keeps_all, keeps_then, keeps_less, stays_then, stays_kept}

-- ---- extents

-- the amounts in the variables from number t on
abbrev Extents : Setting → List ℤ → ℕ → List Amount → Type 0
Extents st ints t [] = Unit {0}
Extents st ints t (a ∷ extents) = (number_at ints t ≡ amount st a) × (int_wrap w64 (amount st a) ≡ amount st a) × Extents st ints
    (suc t) extents

extents_same : (st : Setting) (ints new : List ℤ) (t : ℕ) (extents : List Amount) →
    ((x : ℕ) → t ≤ x → x < t + length extents → number_at new x ≡ number_at ints x) → Extents st ints t extents →
    Extents st new t extents
extents_same st ints new t [] same e = tt
extents_same st ints new t (a ∷ extents) same e = (
  same t (omega arith) (omega arith) ∙ e.0,
  e.1,
  extents_same st ints new (suc t) extents (λ x from below. same x (omega (arith, from)) (omega (arith, below))) e.2,
)

module _ {functions : List Function} {limit : ℕ} {q : Procedure} {around : Around} {n : NestState} {braces : List Brace}
    {r : Ran Halt NestState (Unit {0})} where
  extents_do : (extents : List Amount) (t : ℕ) (w : Variables) (lines : List CodeLine) → first_free q ≤ t → Kin q around n w →
      list_all (fits_amount q) extents ≡ true →
      ((u : Variables) → Kin q around n u → Keeps t w u → Extents n.cells.temps.setting u.ints t extents →
      DoesAt functions limit n u lines braces r) →
      DoesAt functions limit n w (flats (extent_lines q t extents) ++ lines) braces r
  extents_do [] t w lines free kin fits next = next w kin (keeps_all t w) tt
  extents_do (a ∷ extents) t w lines free kin fits next =
      let two = and_parts (fits_amount q a) (list_all (fits_amount q) extents) fits in
      set_does t w (extent_lines q (suc t) extents) lines free kin (int_row.Atom (amount_atom q a))
      (value_of w (amount_atom q a)) refl
      (read_atom w (amount_atom q a)) (λ u k keep is.
      extents_do extents (suc t) u lines (omega (arith, free)) k two.1 (λ u' k' keep' more.
      next u' k' (keeps_then keep (keeps_less (omega arith) keep'))
      (keep'.ints t (omega arith) ∙ is ∙ amount_shown a two.0 kin, amount_wraps a two.0 kin, more)))

-- ---- the test for elements

naturals : Setting → List Amount → List ℕ
naturals st extents = map (λ a. natural (amount st a)) extents

positive : (z : ℤ) → int_lt (pos 0) z ≡ true → 0 < natural z
positive (pos zero) h = cc
positive (pos (suc m)) h = omega arith
positive (negsuc m) h = cc

not_positive : (z : ℤ) → int_lt (pos 0) z ≡ false → natural z ≡ 0
not_positive (pos zero) h = refl
not_positive (pos (suc m)) h = absurd (clash (nat_lt 0 (suc m)) (grind (arith, nat_tests)) h)
not_positive (negsuc m) h = refl

test_is : (z : ℤ) (y : ℤ) (b : Bool) → y ≡ truth (int_lt (pos 0) z) → holds y ≡ b → int_lt (pos 0) z ≡ b
test_is z y b e h = sym (truth_holds (int_lt (pos 0) z)) ∙ ap holds (sym e) ∙ h

module _ {functions : List Function} {limit : ℕ} {q : Procedure} {around : Around} {n : NestState}
    {r : Ran Halt NestState (Unit {0})}
    (test : ℕ) (inner : List Stmt) (free : first_free q ≤ test) (Q : NestState → Variables → Type 0)
    (go : NestState → Ran Halt NestState (Unit {0})) where
  -- where all extents are greater than 0 what stands inside is done, and else it is passed
  where_does : (extents : List Amount) (t : ℕ) → t + length extents ≤ test → (w : Variables) → Kin q around n w →
      Extents n.cells.temps.setting w.ints t extents → (lines : List CodeLine) (braces : List Brace) →
      ((u : Variables) → Kin q around n u → Keeps test w u →
      size_of (map (λ a. natural (amount n.cells.temps.setting a)) extents) ≡ 0 →
      DoesAt functions limit n u lines braces r) →
      ((ls : List CodeLine) (bs : List Brace) (u : Variables) → Kin q around n u → Keeps test w u →
      0 < size_of (map (λ a. natural (amount n.cells.temps.setting a)) extents) →
      ((m : NestState) (v : Variables) → Q m v → DoesAt functions limit m v ls bs (go m)) →
      DoesAt functions limit n u (flats inner ++ ls) bs r) →
      ((m : NestState) (v : Variables) → Q m v → DoesAt functions limit m v lines braces (go m)) →
      DoesAt functions limit n w (flats (where_elements test t (length extents) inner) ++ lines) braces r
  where_does [] t few w kin e lines braces none some next = some lines braces w kin (keeps_all test w) (omega arith) next
  where_does (a ∷ extents) t few w kin e lines braces none some next =
      let z = amount n.cells.temps.setting a in
      let rest = map (λ (b : Amount). natural (amount n.cells.temps.setting b)) extents in
      let tests = where_elements test (suc t) (length extents) inner in
      compute_does test w (stmt.If (atom.Int test) tests ∷ []) lines free kin (atom.Number (pos 0)) operator.Less (atom.Int t) _
      (is_less (pos 0) (number_at w.ints t)) (λ u k keep is.
      let value : number_at u.ints test ≡ truth (int_lt (pos 0) z) = is ∙ ap (λ y. truth (int_lt (pos 0) y)) e.0 in
      if_does (atom.Int test) tests [] lines
      (λ h. where_does extents (suc t) (omega (arith, few)) u k
      (extents_same n.cells.temps.setting w.ints u.ints (suc t) extents (λ x from below. keep.ints x (omega (arith, few, below)))
      e.2)
      (code.Close ∷ lines) (Choice ∷ braces)
      (λ u' k' keep' size. behind_close lines
      (none u' k' (keeps_then keep keep') (ap (λ m. natural z * m) size ∙ mul-zero (natural z))))
      (λ ls bs u' k' keep' size go_on. some ls bs u' k' (keeps_then keep keep')
      (times_some (natural z) (size_of rest) (positive z (test_is z (number_at u.ints test) true value h)) size) go_on)
      (λ m v there. behind_close lines (next m v there)))
      (λ h. none u k keep (ap (λ m. m * size_of rest) (not_positive z (test_is z (number_at u.ints test) false value h))
      ∙ zero-mul (size_of rest))))

-- ---- counts

-- how often each loop runs, in the variables from number t on
abbrev Counts : List ℤ → ℕ → List ℕ → Type 0
Counts ints t [] = Unit {0}
Counts ints t (count ∷ counts) = (number_at ints t ≡ pos count) × (count < 2 ^ 63) × Counts ints (suc t) counts

counts_same : (ints new : List ℤ) (t : ℕ) (counts : List ℕ) →
    ((x : ℕ) → t ≤ x → x < t + length counts → number_at new x ≡ number_at ints x) →
    Counts ints t counts → Counts new t counts
counts_same ints new t [] same c = tt
counts_same ints new t (count ∷ counts) same c = (
  same t (omega arith) (omega arith) ∙ c.0,
  c.1,
  counts_same ints new (suc t) counts (λ x from below. same x (omega (arith, from)) (omega (arith, below))) c.2,
)

count_at : (ints : List ℤ) (t : ℕ) (counts : List ℕ) (j : ℕ) → j < length counts → Counts ints t counts →
    (number_at ints (t + j) ≡ pos (slice_index counts j)) × (slice_index counts j < 2 ^ 63)
count_at ints t [] j h c = absurd (omega (arith, h))
count_at ints t (count ∷ counts) zero h c = let same : t + 0 ≡ t = omega arith in (ap (number_at ints) same ∙ c.0, c.1)
count_at ints t (count ∷ counts) (suc j) h c =
    let same : t + suc j ≡ suc t + j = omega arith in
    let more = count_at ints (suc t) counts j (omega (arith, h)) c.2 in
    (ap (number_at ints) same ∙ more.0, more.1)

factors : (a b : ℕ) → 0 < a * b → (0 < a) × (0 < b)
factors zero b h = absurd (let none : 0 * b ≡ 0 = zero-mul b in omega (arith, none, h))
factors (suc a) zero h = absurd (let none : suc a * 0 ≡ 0 = mul-zero (suc a) in omega (arith, none, h))
factors (suc a) (suc b) h = (omega arith, omega arith)

count_is : (z : ℤ) → 0 < natural z → z ≡ pos (natural z)
count_is (pos m) h = refl
count_is (negsuc m) h = absurd (omega (arith, h))

fits_count : (m : ℕ) → FitsSigned w64 (pos m) → m < 2 ^ 63
fits_count m f = omega (arith, f)

count_small : (z : ℤ) (m : ℕ) → z ≡ pos m → int_wrap w64 z ≡ z → m < 2 ^ 63
count_small z m e h = fits_count m (subst (λ y. FitsSigned w64 y) (h ∙ e) (SFits-int_wrap w64 z))

counts_from : (st : Setting) (ints : List ℤ) (t : ℕ) (extents : List Amount) → Extents st ints t extents →
    0 < size_of (map (λ a. natural (amount st a)) extents) → Counts ints t (map (λ a. natural (amount st a)) extents)
counts_from st ints t [] e h = tt
counts_from st ints t (a ∷ extents) e h =
    let z = amount st a in
    let two = factors (natural z) (size_of (map (λ b. natural (amount st b)) extents)) h in
    let is = count_is z two.0 in
    (e.0 ∙ is, count_small z (natural z) is e.1, counts_from st ints (suc t) extents e.2 two.1)

-- ---- loops in their order

-- what loops leave alone: what is held below number t, and the loop variables that are none of theirs
record LoopStays (q : Procedure) (nests t : ℕ) (loops : List ℕ) (v w : Variables) : Type 0 where
  ints : (x : ℕ) → x < t → first_free q ≤ x → number_at w.ints x ≡ number_at v.ints x
  indices : (x : ℕ) → x < 16 * suc nests → Every (λ l. loop_number (suc nests) l ≢ x) loops →
      number_at w.indices x ≡ number_at v.indices x

-- each loop is still to come, or its variable has its turn
record Ready (nests t rank : ℕ) (counts : List ℕ) (loops : List ℕ) (turn : List ℕ) (v : Variables) : Type 0 where
  long : length turn ≡ rank
  set_or_later : (loop : ℕ) → 1 ≤ loop → loop ≤ rank → Member loops loop
      ⊎ (Every (λ l. l ≢ loop) loops × (number_at v.indices (loop_number (suc nests) loop) ≡ pos (at_turn turn loop)) ×
      (at_turn turn loop < 2 ^ 63))
  counted : Counts v.ints t counts

set_now : {A B : Type 0} → ⊥ ⊎ (Unit {0} × A × B) → A × B
set_now (inl none) = absurd none
set_now (inr now) = (now.1, now.2)

module _ (functions : List Function) (limit : ℕ) (q : Procedure) (around : Around) (nests t rank : ℕ) (counts : List ℕ)
    (body : List ℕ → Step (Unit {0}))
    (inner : List Stmt) (ranked : length counts ≡ rank) (free : first_free q ≤ t) (few : rank ≤ 7)
    (inner_law : (place : List ℕ) (n : NestState) (w : Variables) → Kin q around n w → AtTurn (suc nests) rank place w →
    (lines : List CodeLine) (braces : List Brace) (go : Unit {0} → Step (Unit {0})) →
    ((m : NestState) (u : Variables) → Kin q around m u → Stays q (suc nests) (t + rank) w u →
    DoesAt functions limit m u lines braces (go tt m)) →
    DoesAt functions limit n w (flats inner ++ lines) braces ((body place >>= go) n)) where
  -- where the outermost loop of some is at turn i
  ready_inside : (number : ℕ) (loops : List ℕ) → 1 ≤ number → number ≤ rank → Every (λ l. number ≢ l) loops →
      (turn : List ℕ) (w u : Variables) →
      Ready nests t rank counts (number ∷ loops) turn w → LoopStays q nests (t + rank) (number ∷ loops) w u →
      (i : ℕ) → i < 2 ^ 63 →
      number_at u.indices (loop_number (suc nests) number) ≡ pos i →
      Ready nests t rank counts loops (slice_set turn (number - 1) i) u
  ready_inside number loops first last apart turn w u ready stays i small index = record {
    long = length-set turn (number - 1) i ∙ ready.long;
    set_or_later = λ loop from to. by loop from to (ready.set_or_later loop from to);
    counted = counts_same w.ints u.ints t counts
        (λ x from below. stays.ints x (omega (arith, below, ranked)) (omega (arith, from, free))) ready.counted;
  }
    where
      by : (loop : ℕ) → 1 ≤ loop → loop ≤ rank → Member (number ∷ loops) loop
          ⊎ (Every (λ l. l ≢ loop) (number ∷ loops) ×
          (number_at w.indices (loop_number (suc nests) loop) ≡ pos (at_turn turn loop)) × (at_turn turn loop < 2 ^ 63)) →
          Member loops loop
          ⊎ (Every (λ l. l ≢ loop) loops ×
          (number_at u.indices (loop_number (suc nests) loop) ≡ pos (at_turn (slice_set turn (number - 1) i) loop))
          × (at_turn (slice_set turn (number - 1) i) loop < 2 ^ 63))
      by loop from to (inl (inr later)) = inl later
      by loop from to (inl (inl e)) =
          let inside : number - 1 < length turn = omega (arith, first, last, ready.long) in
          let here : at_turn (slice_set turn (number - 1) i) loop ≡ i =
          ap (λ l. at_turn (slice_set turn (number - 1) i) l) (sym e) ∙ get_or-set_same turn (number - 1) i 0 inside in
          inr (
            Every-weaker (λ l. number ≢ l) (λ l. l ≢ loop) (λ l ne same. ne (e ∙ sym same)) loops apart,
            ap (λ l. number_at u.indices (loop_number (suc nests) l)) (sym e) ∙ index ∙ ap pos (sym here),
            subst (λ j. j < 2 ^ 63) (sym here) small,
          )
      by loop from to (inr set) =
          let ne : loop - 1 ≢ number - 1 = λ same. set.0.0 (omega (arith, same, from, first)) in
          let there : at_turn (slice_set turn (number - 1) i) loop ≡ at_turn turn loop = get_or-set_other turn (number - 1)
          (loop - 1) i 0 ne in
          let far : Every (λ l. loop_number (suc nests) l ≢ loop_number (suc nests) loop) (number ∷ loops) =
          Every-weaker (λ l. l ≢ loop) (λ l. loop_number (suc nests) l ≢ loop_number (suc nests) loop)
          (λ l ne' same. ne' (omega (arith, same))) (number ∷ loops) set.0 in
          inr (
            set.0.1,
            stays.indices (loop_number (suc nests) loop) (omega (arith, to, few)) far ∙ set.1 ∙ ap pos (sym there),
            subst (λ j. j < 2 ^ 63) (sym there) set.2,
          )

  loops_do : (order : List Level) → Every (λ l. (1 ≤ l) × (l ≤ rank)) (loops_of order) → Pairwise (λ x y. x ≢ y) (loops_of order) →
      (turn : List ℕ) (n : NestState) (w : Variables) → Kin q around n w → Ready nests t rank counts (loops_of order) turn w →
      (lines : List CodeLine) (braces : List Brace) (go : Unit {0} → Step (Unit {0})) →
      ((m : NestState) (u : Variables) → Kin q around m u → LoopStays q nests (t + rank) (loops_of order) w u →
      DoesAt functions limit m u lines braces (go tt m)) →
      DoesAt functions limit n w (flats (loop_lines (suc nests) t order inner) ++ lines) braces
      ((loops body order counts turn >>= go) n)
  unfolding loops
  loops_do [] ranges apart turn n w kin ready lines braces go next =
      inner_law turn n w kin (record {
        each = λ loop first last. (set_now (ready.set_or_later loop first last)).0;
        small = λ loop first last. (set_now (ready.set_or_later loop first last)).1;
      }) lines braces go (λ m u k stay. next m u k (record { ints = stay.ints; indices = λ x below far. stay.indices x below }))
  loops_do (level ∷ order) ranges apart turn n w kin ready lines braces go next =
      let number = level.number in
      let k = loop_number (suc nests) number in
      let j = number - 1 in
      let inside : j < length counts = omega (arith, ranges.0.0, ranges.0.1, ranked) in
      let count = count_at w.ints t counts j inside ready.counted in
      let own : k < 16 * suc nests = omega (arith, ranges.0.1, few) in
      let far : Every (λ l. loop_number (suc nests) l ≢ k) (loops_of order) =
      Every-weaker (λ l. number ≢ l) (λ l. loop_number (suc nests) l ≢ k) (λ l ne same. ne (omega (arith, same)))
      (loops_of order) apart.0 in
      loop_does functions limit q around k (atom.Int (t + j)) (loop_lines (suc nests) t order inner) (slice_index counts j) count.1
      (λ i. loops body order counts (slice_set turn j i)) (λ u. LoopStays q nests (t + rank) (loops_of (level ∷ order)) w u) lines
      braces go
      (λ u z stay. record {
        ints = stay.ints;
        indices = λ x below other. with_at_other (pos 0) u.indices k x z other.0 ∙ stay.indices x below other;
      })
      (λ u stay. stay.ints (t + j) (omega (arith, inside, ranked)) (omega (arith, free)) ∙ count.0)
      (λ i below m u kin' stay index ls bs g go_on.
      loops_do order ranges.1 apart.1 (slice_set turn j i) m u kin'
      (ready_inside number (loops_of order) ranges.0.0 ranges.0.1 apart.0 turn w u ready stay i
      (omega (arith, below, count.1)) index) ls bs g
      (λ m' v kin'' stay'. go_on m' v kin'' (record {
        ints = λ x under from. stay'.ints x under from ∙ stay.ints x under from;
        indices = λ x under other. stay'.indices x under other.1 ∙ stay.indices x under other;
      }) (stay'.indices k own far ∙ index)))
      next level.down n w kin (record { ints = λ x h g. refl; indices = λ x h g. refl })

-- ---- nests

numbers_apart : (n : ℕ) → Pairwise (λ x y. x ≢ y) (down_to_one n)
numbers_apart zero = tt
numbers_apart (suc n) = (
  Every-weaker (λ k. (1 ≤ k) × (k ≤ n)) (λ y. suc n ≢ y) (λ k range same. absurd (omega (arith, range.1, same))) (down_to_one n)
      (each_from_one n n (omega arith)),
  numbers_apart n,
)

order_apart : (rank : ℕ) (order : List Level) → IsOrder rank order → Pairwise (λ x y. x ≢ y) (loops_of order)
order_apart rank order is = Permuted-Pairwise (λ x y. x ≢ y) (λ x y ne same. ne (sym same)) (permuted_back is) (numbers_apart rank)

is_zero : (m : ℕ) → m ≡ 0 → nat_eq m 0 ≡ true
is_zero m h = grind (arith, nat_tests, h)

is_not_zero : (m : ℕ) → 0 < m → nat_eq m 0 ≡ false
is_not_zero m h = grind (arith, nat_tests, h)

module _ (functions : List Function) (limit : ℕ) (c : Scope) (nests : ℕ) (calls : Caller) (turn : List ℕ) (depth : Option ℕ)
    (placed : Placed c nests) where
  pub nest_law : (own : Bool) (frame : Frame) (headers : List Header) (checks body : Statements) → FitsFrame c.own frame →
      PerformsAll functions limit c nests calls turn None checks →
      ((place : List ℕ) → PerformsAll functions limit (in_nest c (length frame.extents)) (suc nests) calls place None body) →
      Performs functions limit c nests calls turn depth (Nest own frame headers checks body)
  nest_law own frame headers checks body fits checks_law body_law = record {
    does = λ t free {around} {n} {w} enough kin turned {lines} {braces} go out next.
        let q = c.own in
        let rank = length frame.extents in
        let two = and_parts (nat_le 1 rank) (nat_le rank 7) fits.ranked in
        let few : rank ≤ 7 = grind (arith, nat_tests, two.1) in
        let act = all_act c.unit.constants calls in
        let bodies = λ (place : List ℕ). calmly (act place body) in
        let inner = all_lines (in_nest c rank) (suc nests) (t + rank) body in
        let rest = where_elements (t + rank) t rank (loop_lines (suc nests) t frame.order inner) in
        let f = λ (m : Memory). Some (map (λ (a : Amount). natural (amount m.temps.setting a)) frame.extents) in
        let k = λ (extents : List ℕ). looped bodies frame.order extents >> pure Next in
        let free' : first_free q ≤ t + rank = omega (arith, free) in
        let last = λ (done : Unit {0}). pure Next >>= go in
        regroup_next (calmly (act turn checks)) (reads f >>= k) go n
        (regroup (act turn checks) only_next (λ done. (reads f >>= k) >>= go) n
        (parts (all_lines c nests t checks) (extent_lines q t frame.extents ++ rest) lines
        (checks_law.does t free enough kin turned (λ flow. only_next flow >>= (λ done. (reads f >>= k) >>= go)) no_way
        (λ m u kin1 stay1.
        pured tt (λ done. (reads f >>= k) >>= go) m
        (regroup (reads f) k go m
        (sees_it f (λ extents. k extents >>= go) m (λ extents e.
        let st = m.cells.temps.setting in
        let counts = map (λ (a : Amount). natural (amount st a)) frame.extents in
        let zeros = map (λ (i : ℕ). 0) counts in
        subst (λ xs. DoesAt functions limit m u (flats (extent_lines q t frame.extents ++ rest) ++ lines) braces
        ((k xs >>= go) m)) (some_is e)
        (regroup_next (looped bodies frame.order counts) (pure Next) go m
        (parts (extent_lines q t frame.extents) rest lines
        (extents_do frame.extents t u (flats rest ++ lines) free kin1 fits.amounts (λ u2 kin2 keep2 there.
        where_does (t + rank) (loop_lines (suc nests) t frame.order inner) free' (λ m' v. Kin q around m' v × Stays q nests t w v)
        (go Next)
        frame.extents t (omega arith) u2 kin2 there lines braces
        (λ u3 kin3 keep3 size.
        told (pick_true (nat_eq (size_of counts) 0) (pure tt) (loops bodies frame.order counts zeros) last m
        (is_zero (size_of counts) size))
        (pured tt last m (pured Next go m (next m u3 kin3
        (stays_then stay1 (stays_then (stays_kept keep2) (stays_kept (keeps_less (omega arith) keep3))))))))
        (λ ls bs u3 kin3 keep3 size go_on.
        told (pick_false (nat_eq (size_of counts) 0) (pure tt) (loops bodies frame.order counts zeros) last m
        (is_not_zero (size_of counts) size))
        (loops_do functions limit q around nests t rank counts bodies inner
        (length-map frame.extents (λ (a : Amount). natural (amount st a))) free few
        (λ place n' w' kin' turned' ls' bs' g behind.
        regroup (act place body) only_next g n'
        ((body_law place).does (t + rank) free' enough kin' turned' (λ flow. only_next flow >>= g) no_way
        (λ m' u' k' stay'. pured tt g m' (behind m' u' k' stay'))))
        frame.order (loops_in_range rank frame.order fits.ordered) (order_apart rank frame.order fits.ordered) zeros m u3 kin3
        (record {
          long = length-map counts (λ (i : ℕ). 0) ∙ length-map frame.extents (λ (a : Amount). natural (amount st a));
          set_or_later = λ loop first end. inl
              (Permuted-Member loop (permuted_back fits.ordered) (Member-down_to_one rank loop first end));
          counted = counts_from st u3.ints t frame.extents
              (extents_same st u2.ints u3.ints t frame.extents (λ x from below. keep3.ints x below) there) size;
        }) ls bs last (λ m' v kin' stay'.
        pured Next go m' (go_on m' v (
          kin',
          stays_then stay1 (stays_then (stays_kept keep2) (stays_then (stays_kept (keeps_less (omega arith) keep3)) (record {
            ints = λ x below from. stay'.ints x (omega (arith, below)) from;
            indices = λ x below. stay'.indices x (omega (arith, below))
                (all_far (loops_of frame.order) x (loops_in_range rank frame.order fits.ordered) below);
          }))),
        )))))
        (λ m' v there'. next m' v there'.0 there'.1))))))))))));
  }
    where
      all_far : (loops : List ℕ) (x : ℕ) → Every (λ l. (1 ≤ l) × (l ≤ length frame.extents)) loops → x < 16 * nests →
          Every (λ l. loop_number (suc nests) l ≢ x) loops
      all_far loops x ranges below =
          Every-weaker (λ l. (1 ≤ l) × (l ≤ length frame.extents)) (λ l. loop_number (suc nests) l ≢ x)
          (λ l range same. absurd (omega (arith, same, below))) loops ranges
