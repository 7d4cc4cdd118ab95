-- An element by its number, and the number of an element that an access names.
use Rattle.std.proofs.Common.{◌≡◌, ℕ, ◌<◌, ◌≤◌, Bool, true, false, ◌&&◌, List, ◌∷◌, ◌++◌, Option, Some, None, refl, sym, ap, ◌∙◌, subst, arith, ℤ, pos, length, if◌then◌else◌, nat_le, ◌+◌, []}
use Rattle.std.specs.Prelude.{negsuc, is_some}
use Rattle.std.proofs.lemmas.Bool.Decides.{nat_tests}
use Rattle.a95_base.specs.Steps.{◌>>=◌}
use Rattle.array_meaning.specs.Values.{integer_of, size_of}
use Rattle.array_meaning.specs.State.{Array, Variable, extents_of}
use Rattle.nest_tree.specs.declared.access.Access.{Access}
use Rattle.nest_tree.specs.Plain.{Tree, Cell, Place}
use Rattle.nest_tree.specs.State.{on, block_in, memory_of, cells_of, sees}
use Rattle.nest_tree.specs.Places.{element_there, subscripts, index_below, cell_of, Aim, aimed}
use Rattle.nest_tree.specs.Elements.{int, element, at_number}
use Rattle.nest_tree.specs.Sound.{Scope, sort_of, some_serves, sort_of_name, fits_access, fits_portion, has_rank, fits_along, is_block}
use Rattle.loop_tree.specs.declared.tree.Function.{Function}
use Rattle.loop_tree.specs.Lines.{flats}
use Rattle.loop_tree.specs.Values.{number_at, text_at}
use Rattle.loop_laws.specs.At.{value_of}
use Rattle.nest_emit.specs.Numbers.{array_number}
use Rattle.nest_emit.specs.Trees.{cell_lines, atom_of, place_atom, place_lines, tree_lines, set}
use Rattle.nest_emit.specs.Emits.{emits_access}
use Rattle.nest_emit.specs.Meets.{DoesAt}
use Rattle.nest_emit.specs.Kin.{Shows, cells_of as block_cells, held, block_of, cells_held, Stands, StandsIf}
use Rattle.nest_emit.proofs.Values.{some_is, exact_shown, array_below, there_is}
use Rattle.nest_emit.proofs.Rows.{set_does, read_atom}
use Rattle.nest_emit.proofs.Indices.{number_below, small_wrap}
use Rattle.nest_emit.proofs.Runs.{regroup, sees_it, parts}
use Rattle.nest_emit.proofs.Kin.{keeps_then}
use Rattle.std.specs.List.{list_all}
use Rattle.std.proofs.lemmas.Bool.{and_parts}
use Rattle.a95_base.proofs.Tests.{some_behind}
use Rattle.nest_tree.proofs.Sorts.{sort_if_some}
use Rattle.nest_emit.proofs.Places.{place_does}
use Rattle.nest_tree.specs.Statements.{Caller, applied}
use Rattle.nest_emit.proofs.Leaves.{aiming, cell_does}
use Rattle.nest_emit.proofs.Evaluates.{Evaluates, gives_served}
use Rattle.nest_tree.specs.declared.access.Name.{Name}
use Rattle.nest_tree.specs.declared.unit.Sort.TheVariants as sort
use Rattle.loop_tree.specs.declared.row.IntValue.TheVariants as int_row

-- ---- elements by their numbers

-- an index below a count
record Below (count : ℕ) (z : ℤ) (k : ℕ) : Type 0 where
  is : z ≡ pos k
  below : k < count

below_by : (count m k : ℕ) (b : Bool) → nat_le (m + 1) count ≡ b → (if b then Some m else None) ≡ Some k → Below count (pos m) k
below_by count m k true e h =
    let same : m ≡ k = some_is h in
    let less : m + 1 ≤ count = grind (arith, nat_tests, e) in
    record { is = ap pos same; below = omega (arith, same, less) }
below_by count m k false e h = cc

index_is : (count : ℕ) (z : ℤ) (k : ℕ) → index_below count z ≡ Some k → Below count z k
index_is count (pos m) k h = below_by count m k (nat_le (m + 1) count) refl h
index_is count (negsuc m) k h = cc

-- the array that is held, and the number of the element in it
pub record Numbering (held_array : Option Array) (z : ℤ) : Type 0 where
  pub array : Array
  pub there : held_array ≡ Some array
  pub number : ℕ
  pub index : z ≡ pos number
  pub inside : number < size_of (extents_of array.bounds)

-- what comes of it
pub numbering : {A : Type 0} (v : Variable) (o : Option Array) (z : ℤ) (f : Aim → Option A) (x : A) →
    on (on o (λ a. on (index_below (size_of (extents_of a.bounds)) z)
    (λ k. Some (record { block = v; array = a; number = k; bytes = None })))) f ≡ Some x →
    (k : Numbering o z) × (f (record { block = v; array = k.array; number = k.number; bytes = None }) ≡ Some x)
numbering v None z f x h = cc
numbering {A} v (Some a) z f x h = by (index_below (size_of (extents_of a.bounds)) z) refl h
  where
    by : (i : Option ℕ) → index_below (size_of (extents_of a.bounds)) z ≡ i →
        on (on i (λ k. Some (record { block = v; array = a; number = k; bytes = None }))) f ≡ Some x →
        (k : Numbering (Some a) z) × (f (record { block = v; array = k.array; number = k.number; bytes = None }) ≡ Some x)
    by None e g = cc
    by (Some k) e g =
        let within = index_is (size_of (extents_of a.bounds)) z k e in
        (record { array = a; there = refl; number = k; index = within.is; inside = within.below }, g)

module _ (functions : List Function) (limit : ℕ) (c : Scope) (nests : ℕ) (calls : Caller) (line : ℕ) (turn : List ℕ) where
  pub cell_law : (n : Name) (x : Tree) → Evaluates functions limit c nests calls line turn x →
      Evaluates functions limit c nests calls line turn (Cell n x)
  cell_law n x law = record {
    does = λ s is t free {around} {n = st} {w} kin turned at {lines} {braces} go next.
        let fit = some_behind (is_block c.own n && some_serves (sort_of c x) sort.Exact) (sort_of_name c.own n) s is in
        let two = and_parts (is_block c.own n) (some_serves (sort_of c x) sort.Exact) fit.0 in
        let array = array_number c.own n in
        let a = atom_of c nests t x in
        regroup (element cells_of c.unit.constants (applied calls) line turn x)
        (λ i. sees cells_of (λ m. cell_of (block_in m n) (integer_of i))) go st
        (parts (tree_lines c nests t x) (cell_lines (sort_of_name c.own n) t array a) lines
        (gives_served law sort.Exact two.1 t free kin turned at
        (λ i. sees cells_of (λ m. cell_of (block_in m n) (integer_of i)) >>= go) (λ m u i k keep sh.
        sees_it (λ mem. cell_of (block_in mem n) (integer_of i)) go m (λ y found.
        let v = block_in (memory_of m.cells) n in
        let el = numbering v v.held (integer_of i) (λ aim. Some (element_there aim)) y found in
        let stands : Stands s u.ints array el.0.array = subst (λ o. StandsIf s u.ints array o) el.0.there
        (k.arrays.whole n s fit.1) in
        let sight : held u.blocks (block_of s u array) ≡ Some (block_cells s el.0.array.elements) = k.arrays.seen n s fit.1
        ∙ ap (cells_held s) el.0.there in
        let inside : el.0.number < length el.0.array.elements = subst (λ l. el.0.number < l) (sym stands.sized) el.0.inside in
        subst (λ o. DoesAt functions limit m u (flats (cell_lines o t array a) ++ lines) braces (go y m)) (sym fit.1)
        (cell_does t u lines free k s array a el.0.array.elements el.0.number v.blank sight stands.sorted
        (exact_shown sh ∙ el.0.index) inside (λ u' k' keep' shown.
        next m u' y k' (keeps_then keep keep')
        (subst (λ z. Shows s (number_at u'.ints t) (text_at u'.texts t) z) (some_is el.1) shown)))))));
  }

  pub place_law : (a : Access) → emits_access a ≡ true → Evaluates functions limit c nests calls line turn (Place a)
  place_law a emits = record {
    does = λ s is t free {around} {n} {w} kin turned at {lines} {braces} go next.
        let e = sort_if_some (fits_access c a && is_some (sort_of_name c.own a.name)) sort.Exact s is in
        let fit = and_parts (fits_access c a) (is_some (sort_of_name c.own a.name)) e.0 in
        let r = there_is (sort_of_name c.own a.name) fit.1 in
        let q = c.own in
        let array = array_number q a.name in
        let both = and_parts (has_rank q a.name (length a.dimensions) && list_all (λ d. fits_along c d.along) a.dimensions)
        (fits_portion q a.name a.portion) fit.0 in
        let alongs = and_parts (has_rank q a.name (length a.dimensions)) (list_all (λ d. fits_along c d.along) a.dimensions)
        both.0 in
        let m = memory_of n.cells in
        let at_place = place_atom q nests t a.dimensions in
        let last = set t (int_row.Atom at_place) ∷ [] in
        sees_it (λ mem. on (aimed mem turn a) (λ aim. Some (at_number aim))) go n (λ x found.
        let aim = aiming (block_in m a.name) (block_in m a.name).held m turn a (λ aim'. Some (at_number aim')) x found in
        let el = aim.0 in
        let stands : Stands r.0 w.ints array el.array = subst (λ o. StandsIf r.0 w.ints array o) el.there
        (kin.arrays.whole a.name r.0 r.1) in
        let below = number_below el.array.bounds (subscripts m.temps.setting turn a.dimensions) el.number el.placed in
        let few : el.number < 9223372036854775808 = omega (arith, below, stands.small) in
        parts (place_lines q nests t array 0 a.dimensions) last lines
        (place_does c nests turn array (array_below q a.name r.0 r.1) t w (flats last ++ lines) 0 a.dimensions free kin turned
        emits alongs.1
        el.array.bounds (omega (arith, stands.rank)) stands.bounds el.number el.placed (λ u k keep number.
        set_does t u [] lines free k (int_row.Atom at_place) (value_of u at_place) refl (read_atom u at_place)
        (λ u' k' keep' value.
        next n u' x k' (keeps_then keep keep')
        (subst (λ y. Shows s (number_at u'.ints t) (text_at u'.texts t) y) (some_is aim.1)
        (subst (λ v. Shows v (number_at u'.ints t) (text_at u'.texts t) (int (pos el.number))) e.1
        (record { of = (refl, small_wrap el.number few); value = value ∙ number ∙ small_wrap el.number few })))))));
  }
