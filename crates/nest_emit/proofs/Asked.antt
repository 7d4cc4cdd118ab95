-- What is asked of an array: its bounds from their variables, its size and whether it lives from its block.
use Rattle.std.proofs.Common.{◌≡◌, ℕ, zero, suc, ◌+◌, ◌-◌, Bool, true, false, ◌&&◌, List, [], ◌∷◌, ◌++◌, Option, Some, None, refl, sym, ap, ◌∙◌, subst, arith, ℤ, pos, length, nat_le}
use Rattle.std.specs.Prelude.{Result, Ok, slice_get, is_some}
use Rattle.std.proofs.lemmas.List.{length-map}
use Rattle.a95_base.specs.declared.scalar.Scalar.{Scalar}
use Rattle.a95_base.specs.declared.scalar.Scalar.TheVariants as scalar
use Rattle.a95_base.specs.Lists.{Every}
use Rattle.std.proofs.lemmas.Bool.{and_parts}
use Rattle.nest_tree.proofs.Sorts.{sort_if_some}
use Rattle.array_meaning.specs.Values.{text_of, size_of}
use Rattle.array_meaning.specs.State.{Dimension as Bounds, extent_of, extents_of, Array}
use Rattle.nest_tree.specs.declared.access.Name.{Name}
use Rattle.nest_tree.specs.declared.access.Name.TheVariants as name
use Rattle.nest_tree.specs.declared.tree.Question.{Question}
use Rattle.nest_tree.specs.declared.tree.Question.TheVariants as question
use Rattle.nest_tree.specs.declared.unit.Declared.{Declared}
use Rattle.nest_tree.specs.declared.unit.Sort.{Sort}
use Rattle.nest_tree.specs.declared.unit.Sort.TheVariants as sort
use Rattle.nest_tree.specs.Plain.{Procedure, Asked}
use Rattle.nest_tree.specs.State.{memory_of, on, block_in}
use Rattle.nest_tree.specs.Elements.{int, of_found, answered}
use Rattle.nest_tree.specs.Statements.{Caller}
use Rattle.nest_tree.specs.Sound.{Scope, sort_of_name, sort_of_type, of_declared, has_dimension}
use Rattle.loop_tree.specs.declared.stuck.StuckState.{StuckState}
use Rattle.loop_tree.specs.declared.atom.Atom.TheVariants as atom
use Rattle.loop_tree.specs.declared.atom.Reference.{Reference}
use Rattle.loop_tree.specs.declared.row.IntValue.TheVariants as int_row
use Rattle.loop_tree.specs.declared.tree.Function.{Function}
use Rattle.loop_tree.specs.Lines.{flats}
use Rattle.loop_tree.specs.State.{Cells, Block, cells_at, cells_or_stuck}
use Rattle.loop_tree.specs.Values.{number_at, text_at, truth, int_value, and_then, cell_count, is_live}
use Rattle.loop_laws.specs.At.{Variables, number_of, int_read}
use Rattle.loop_laws.proofs.Within.{cells_there}
use Rattle.nest_emit.specs.Numbers.{array_number, lower_number, extent_number}
use Rattle.nest_emit.specs.Trees.{set, number_for, reference_to}
use Rattle.nest_emit.specs.Emits.{emits_question}
use Rattle.nest_emit.specs.Meets.{DoesAt}
use Rattle.nest_emit.specs.Kin.{Shows, cells_of as block_cells, held, cells_held, block_of, BoundsAt, Narrow, Stands, StandsIf}
use Rattle.nest_emit.proofs.Runs.{sees_it}
use Rattle.nest_emit.proofs.Values.{some_is, reference_is, there_is}
use Rattle.nest_emit.proofs.Rows.{read_atom, set_does}
use Rattle.nest_emit.proofs.Indices.{small_wrap}
use Rattle.nest_emit.proofs.Arrays.{living}
use Rattle.nest_emit.proofs.Evaluates.{Evaluates}

-- ---- bounds

bounds_at : (ints : List ℤ) (array dim : ℕ) (bounds : List Bounds) (j : ℕ) (d : Bounds) → BoundsAt ints array dim bounds →
    Every Narrow bounds →
    slice_get bounds j ≡ Some d →
    (number_at ints (lower_number array (dim + j)) ≡ d.lower) ×
    (number_at ints (extent_number array (dim + j)) ≡ pos (extent_of d)) × Narrow d
bounds_at ints array dim [] j d b narrow h = cc
bounds_at ints array dim (c ∷ bounds) zero d b narrow h =
    let same : c ≡ d = some_is h in
    let here : dim + 0 ≡ dim = omega arith in
    subst (λ (e : Bounds). (number_at ints (lower_number array (dim + 0)) ≡ e.lower) ×
    (number_at ints (extent_number array (dim + 0)) ≡ pos (extent_of e)) × Narrow e) same (
      ap (λ k. number_at ints (lower_number array k)) here ∙ b.0,
      ap (λ k. number_at ints (extent_number array k)) here ∙ b.1 ∙ small_wrap (extent_of c) narrow.0.1,
      narrow.0,
    )
bounds_at ints array dim (c ∷ bounds) (suc j) d b narrow h =
    let there : dim + suc j ≡ suc dim + j = omega arith in
    let more = bounds_at ints array (suc dim) bounds j d b.2 narrow.1 h in (
      ap (λ k. number_at ints (lower_number array k)) there ∙ more.0,
      ap (λ k. number_at ints (extent_number array k)) there
          ∙ more.1,
      more.2,
    )

-- an array that is held, and one of its dimensions
dimension_is : (f : Bounds → ℤ) (o : Option Array) (j : ℕ) (x : Scalar) → on o (λ a. of_found f (slice_get a.bounds j)) ≡ Some x →
    (a : Array) × (o ≡ Some a) × ((d : Bounds) × (slice_get a.bounds j ≡ Some d) × (int (f d) ≡ x))
dimension_is f None j x h = cc
dimension_is f (Some a) j x h = by (slice_get a.bounds j) refl h
  where
    by : (o : Option Bounds) → slice_get a.bounds j ≡ o → of_found f o ≡ Some x →
        (b : Array) × (Some a ≡ Some b) × ((d : Bounds) × (slice_get b.bounds j ≡ Some d) × (int (f d) ≡ x))
    by None e g = cc
    by (Some d) e g = (a, refl, (d, e, some_is g))

size_is : (o : Option Array) (x : Scalar) → on o (λ a. Some (int (pos (size_of (extents_of a.bounds))))) ≡ Some x →
    (a : Array) × (o ≡ Some a) × (int (pos (size_of (extents_of a.bounds))) ≡ x)
size_is None x h = cc
size_is (Some a) x h = (a, refl, some_is h)

-- ---- sorts

own_sort : (o : Option Declared) (test : Declared → Bool) → of_declared false test o ≡ true →
    (s : Sort) × (of_declared None (λ d. Some (sort_of_type d.of)) o ≡ Some s)
own_sort None test h = cc
own_sort (Some d) test h = (sort_of_type d.of, refl)

pub dimension_sort : (q : Procedure) (n : Name) (dim : ℕ) → has_dimension q n dim ≡ true → (s : Sort) × (sort_of_name q n ≡ Some s)
dimension_sort q (name.Own i) dim h = own_sort (slice_get q.variables i) (λ d. nat_le 1 dim && nat_le dim d.rank) h
dimension_sort q (name.Temp t) dim h = there_is (slice_get q.blocks t)
    (and_parts (nat_le 1 dim && nat_le dim 7) (is_some (slice_get q.blocks t)) h).1

-- ---- blocks

pub read_size : (v : Variables) (r : Reference) (cells : Cells) → cells_at v.blocks (number_of v r) ≡ Ok cells →
    int_read v (int_row.Size r) ≡ Ok (pos (cell_count cells))
unfolding int_value
read_size v r cells h = ap (λ (c : Result Cells StuckState). and_then c (λ cells. Ok (pos (cell_count cells)))) h

read_live : (v : Variables) (r : Reference) →
    int_read v (int_row.Live r) ≡ Ok (truth (is_live (cells_at v.blocks (number_of v r))))
unfolding int_value
read_live v r = refl

pub count_cells : (s : Sort) (xs : List Scalar) → cell_count (block_cells s xs) ≡ length xs
count_cells sort.Exact xs = length-map xs number_for
count_cells sort.Int xs = length-map xs number_for
count_cells sort.Log xs = length-map xs number_for
count_cells sort.Text xs = length-map xs text_of

live_is : (blocks : List Block) (r : Option ℕ) (o : Option Cells) → held blocks r ≡ o → is_live (cells_at blocks r) ≡ is_some o
live_is blocks None o h = ap (λ (c : Option Cells). is_some c) h
live_is blocks (Some n) None h = ap (λ (c : Option Cells). is_live (cells_or_stuck c)) h
live_is blocks (Some n) (Some cells) h = ap (λ (c : Option Cells). is_live (cells_or_stuck c)) h

held_some : (s : Sort) (o : Option Array) → is_some (cells_held s o) ≡ is_some o
held_some s None = refl
held_some s (Some a) = refl

-- ---- the law

module _ (functions : List Function) (limit : ℕ) (c : Scope) (nests : ℕ) (calls : Caller) (line : ℕ) (turn : List ℕ) where
  abbrev Law : Question → Name → Type 0
  Law q n = Evaluates functions limit c nests calls line turn (Asked q n)

  lower_law : (dim : ℕ) (n : Name) → Law (question.Lower dim) n
  lower_law dim n = record {
    does = λ s is t free {around} {n = m} {w} kin turned at {lines} {braces} go next.
        let e = sort_if_some (has_dimension c.own n dim) sort.Exact s is in
        let r = dimension_sort c.own n dim e.0 in
        let array = array_number c.own n in
        sees_it (λ mem. answered (question.Lower dim) (block_in mem n)) go m (λ x found.
        let d = dimension_is (λ b. b.lower) (block_in (memory_of m.cells) n).held (dim - 1) x found in
        let stands : Stands r.0 w.ints array d.0 = subst (λ o. StandsIf r.0 w.ints array o) d.1 (kin.arrays.whole n r.0 r.1) in
        let known = bounds_at w.ints array 0 d.0.bounds (dim - 1) d.2.0 stands.bounds stands.narrow d.2.1 in
        let here : 0 + (dim - 1) ≡ dim - 1 = omega arith in
        set_does t w [] lines free kin (int_row.Atom (atom.Int (lower_number array (dim - 1))))
        (number_at w.ints (lower_number array (dim - 1))) refl
        (read_atom w (atom.Int (lower_number array (dim - 1)))) (λ u k keep value.
        next m u x k keep (subst (λ y. Shows s (number_at u.ints t) (text_at u.texts t) y) d.2.2
        (subst (λ v. Shows v (number_at u.ints t) (text_at u.texts t) (int d.2.0.lower)) e.1 (record {
          of = (refl, known.2.0);
          value = value ∙ ap (λ k'. number_at w.ints (lower_number array k')) (sym here) ∙ known.0;
        })))));
  }

  extent_law : (dim : ℕ) (n : Name) → Law (question.Extent dim) n
  extent_law dim n = record {
    does = λ s is t free {around} {n = m} {w} kin turned at {lines} {braces} go next.
        let e = sort_if_some (has_dimension c.own n dim) sort.Exact s is in
        let r = dimension_sort c.own n dim e.0 in
        let array = array_number c.own n in
        sees_it (λ mem. answered (question.Extent dim) (block_in mem n)) go m (λ x found.
        let d = dimension_is (λ b. pos (extent_of b)) (block_in (memory_of m.cells) n).held (dim - 1) x found in
        let stands : Stands r.0 w.ints array d.0 = subst (λ o. StandsIf r.0 w.ints array o) d.1 (kin.arrays.whole n r.0 r.1) in
        let known = bounds_at w.ints array 0 d.0.bounds (dim - 1) d.2.0 stands.bounds stands.narrow d.2.1 in
        let here : 0 + (dim - 1) ≡ dim - 1 = omega arith in
        set_does t w [] lines free kin (int_row.Atom (atom.Int (extent_number array (dim - 1))))
        (number_at w.ints (extent_number array (dim - 1))) refl
        (read_atom w (atom.Int (extent_number array (dim - 1)))) (λ u k keep value.
        next m u x k keep (subst (λ y. Shows s (number_at u.ints t) (text_at u.texts t) y) d.2.2
        (subst (λ v. Shows v (number_at u.ints t) (text_at u.texts t) (int (pos (extent_of d.2.0)))) e.1 (record {
          of = (refl, small_wrap (extent_of d.2.0) known.2.1);
          value = value ∙ ap (λ k'. number_at w.ints (extent_number array k')) (sym here) ∙ known.1;
        })))));
  }

  size_law : (n : Name) → Law question.Size n
  size_law n = record {
    does = λ s is t free {around} {n = m} {w} kin turned at {lines} {braces} go next.
        let e = sort_if_some (is_some (sort_of_name c.own n)) sort.Exact s is in
        let r = there_is (sort_of_name c.own n) e.0 in
        let array = array_number c.own n in
        sees_it (λ mem. answered question.Size (block_in mem n)) go m (λ x found.
        let d = size_is (block_in (memory_of m.cells) n).held x found in
        let size = size_of (extents_of d.0.bounds) in
        let stands : Stands r.0 w.ints array d.0 = subst (λ o. StandsIf r.0 w.ints array o) d.1 (kin.arrays.whole n r.0 r.1) in
        let sight : held w.blocks (block_of r.0 w array) ≡ Some (block_cells r.0 d.0.elements) = kin.arrays.seen n r.0 r.1
        ∙ ap (cells_held r.0) d.1 in
        let l = living w.blocks (block_of r.0 w array) (block_cells r.0 d.0.elements) sight in
        let cells = cells_there w.blocks (number_of w (reference_to (Some r.0) array)) l.number (block_cells r.0 d.0.elements)
        (reference_is r.0 w array ∙ l.named) l.there in
        subst (λ o. DoesAt functions limit m w (flats (set t (int_row.Size (reference_to o array)) ∷ []) ++ lines) braces
        (go x m)) (sym r.1)
        (set_does t w [] lines free kin (int_row.Size (reference_to (Some r.0) array))
        (pos (cell_count (block_cells r.0 d.0.elements))) refl
        (read_size w (reference_to (Some r.0) array) (block_cells r.0 d.0.elements) cells) (λ u k keep value.
        next m u x k keep (subst (λ y. Shows s (number_at u.ints t) (text_at u.texts t) y) d.2
        (subst (λ v. Shows v (number_at u.ints t) (text_at u.texts t) (int (pos size))) e.1 (record {
          of = (refl, small_wrap size (omega (arith, stands.small)));
          value = value ∙ ap pos (count_cells r.0 d.0.elements ∙ stands.sized);
        }))))));
  }

  live_law : (n : Name) → Law question.Allocated n
  live_law n = record {
    does = λ s is t free {around} {n = m} {w} kin turned at {lines} {braces} go next.
        let e = sort_if_some (is_some (sort_of_name c.own n)) sort.Log s is in
        let r = there_is (sort_of_name c.own n) e.0 in
        let array = array_number c.own n in
        sees_it (λ mem. answered question.Allocated (block_in mem n)) go m (λ x found.
        let o = (block_in (memory_of m.cells) n).held in
        let same = live_is w.blocks (block_of r.0 w array) (cells_held r.0 o) (kin.arrays.seen n r.0 r.1) ∙ held_some r.0 o in
        subst (λ p. DoesAt functions limit m w (flats (set t (int_row.Live (reference_to p array)) ∷ []) ++ lines) braces
        (go x m)) (sym r.1)
        (set_does t w [] lines free kin (int_row.Live (reference_to (Some r.0) array)) _ refl
        (read_live w (reference_to (Some r.0) array)) (λ u k keep value.
        next m u x k keep (subst (λ y. Shows s (number_at u.ints t) (text_at u.texts t) y) (some_is found)
        (subst (λ v. Shows v (number_at u.ints t) (text_at u.texts t) (scalar.Log (is_some o))) e.1 (record {
          of = refl;
          value = value ∙ ap (λ b. truth (is_live (cells_at w.blocks b))) (reference_is r.0 w array) ∙ ap truth same;
        }))))));
  }

  pub asked_law : (q : Question) (n : Name) → emits_question q ≡ true → Law q n
  asked_law (question.Lower dim) n h = lower_law dim n
  asked_law (question.Upper dim) n h = cc
  asked_law (question.Extent dim) n h = extent_law dim n
  asked_law question.Size n h = size_law n
  asked_law question.Length n h = cc
  asked_law question.Allocated n h = live_law n
