-- A block that grows: it is one row then, counted from 1.
use Rattle.std.proofs.Common.{◌≡◌, ◌≢◌, ◌⊎◌, inl, inr, ℕ, zero, suc, ◌+◌, ◌*◌, ◌<◌, ◌≤◌, Bool, true, false, not, ◌&&◌, nat_le, List, [], ◌∷◌, ◌++◌, Option, Some, None, refl, sym, ap, ◌∙◌, subst, arith, ℤ, pos, length, if◌then◌else◌}
use Rattle.std.specs.Prelude.{Ok, negsuc, map, replicate, unsigned_abs, int_lt, ◌+ℤ◌, ◌-ℤ◌}
use Rattle.std.specs.Int.{w64, int_wrap}
use Rattle.std.proofs.lemmas.List.{length-append, length-replicate, map-append}
use Rattle.std.proofs.lemmas.Bool.{leb-true, and_parts, not-true}
use Rattle.std.proofs.lemmas.Bool.Decides.{nat_tests}
use Rattle.std.proofs.lemmas.Int.{ints}
use Rattle.a95_base.specs.Limits.{most_elements}
use Rattle.a95_base.specs.declared.scalar.Scalar.{Scalar}
use Rattle.a95_base.specs.Steps.{pure, ◌>>=◌}
use Rattle.a95_base.proofs.Lists.{Every-append}
use Rattle.array_meaning.specs.Values.{text_of, size_of}
use Rattle.array_meaning.specs.State.{dimension, extent_of, extents_of, counted_from_one, Array, Variable}
use Rattle.array_meaning.specs.Control.{Next}
use Rattle.nest_tree.specs.declared.access.Amount.{Amount}
use Rattle.nest_tree.specs.declared.access.Name.{Name}
use Rattle.nest_tree.specs.declared.unit.Sort.{Sort}
use Rattle.nest_tree.specs.declared.unit.Sort.TheVariants as sort
use Rattle.nest_tree.specs.Plain.{Procedure, Grow}
use Rattle.nest_tree.specs.State.{NestState, Memory, memory_of, with_memory, on, changes, where_holds, block_in, with_block}
use Rattle.nest_tree.specs.Places.{amount, count_of, empty_like, grown_by, grown}
use Rattle.nest_tree.specs.Statements.{Caller}
use Rattle.nest_tree.specs.Sound.{Scope, sort_of_name, is_own_text, may_grow, is_result_role, fits_amount}
use Rattle.loop_tree.specs.declared.atom.Atom.TheVariants as atom
use Rattle.loop_tree.specs.declared.row.BlockRow.TheVariants as block_row
use Rattle.loop_tree.specs.declared.row.IntValue.TheVariants as int_row
use Rattle.loop_tree.specs.declared.row.Row.TheVariants as row
use Rattle.loop_tree.specs.declared.tree.Function.{Function}
use Rattle.loop_tree.specs.declared.tree.Stmt.TheVariants as stmt
use Rattle.loop_tree.specs.Lines.{flats}
use Rattle.loop_tree.specs.State.{Ints, Texts, with_cells, with_at}
use Rattle.loop_tree.specs.Values.{number_at, cell_count, more_cells, grown as grown_cells}
use Rattle.loop_laws.specs.At.{Variables, value_of, number_of, with_blocks, with_int}
use Rattle.loop_laws.proofs.Numbered.{with_at_same, with_at_other, changed_here, changed_elsewhere}
use Rattle.loop_laws.proofs.Rows.{step_int, step_grow}
use Rattle.loop_laws.proofs.Within.{cells_there, change_there, grown_within}
use Rattle.nest_emit.specs.Numbers.{array_number, lower_number, extent_number}
use Rattle.nest_emit.specs.Trees.{set, number_for, amount_atom, reference_to}
use Rattle.nest_emit.specs.Statements.{at_line, row_lines}
use Rattle.nest_emit.specs.Meets.{DoesAt}
use Rattle.nest_emit.specs.Kin.{IsOf, cells_of as block_cells, held, cells_held, block_of, GrowsIf, Grows, Stands, StandsIf, Around, Kin}
use Rattle.nest_emit.proofs.Runs.{regroup_next, pured, changed, row_gives}
use Rattle.nest_emit.proofs.Acts.{line_does}
use Rattle.nest_emit.proofs.Values.{some_is, array_below, reference_is}
use Rattle.nest_emit.proofs.Rows.{read_atom}
use Rattle.nest_emit.proofs.Indices.{small_wrap}
use Rattle.nest_emit.proofs.Places.{amount_shown}
use Rattle.nest_emit.proofs.Performs.{Performs}
use Rattle.nest_emit.proofs.Arrays.{Living, living, other_block, kin_array}
use Rattle.nest_emit.proofs.Asked.{read_size, count_cells}
use Rattle.nest_emit.proofs.Makes.{map_replicate, each_replicate}
use Rattle.nest_emit.proofs.Pieces.{named_sort, not_own}
use Rattle.nest_emit.proofs.Kin.{kin_line}

-- ---- what grows

record Grown (o : Option Array) (m : Memory) (n : Name) (v : Variable) (z : ℤ) (new : Memory) : Type 0 where
  array : Array
  there : o ≡ Some array
  more : ℕ
  amount_is : z ≡ pos more
  few : size_of (extents_of array.bounds) + more ≤ most_elements
  is : with_block m n (record v {
    held = Some (record {
      bounds = counted_from_one ((size_of (extents_of array.bounds) + more) ∷ []);
      elements = array.elements ++ replicate more (empty_like v.blank);
    });
  }) ≡ new

count_is : (z : ℤ) (k : ℕ) → count_of z ≡ Some k → z ≡ pos k
count_is (pos m) k h = by (nat_le m most_elements) h
  where
    by : (b : Bool) → (if b then Some m else None) ≡ Some k → pos m ≡ pos k
    by true g = ap pos (some_is g)
    by false g = cc
count_is (negsuc m) k h = cc

grown_is : (o : Option Array) (m : Memory) (n : Name) (v : Variable) (z : ℤ) (new : Memory) →
    on o (λ h. on (count_of z) (λ count. on (grown_by v h count) (λ v'. Some (with_block m n v')))) ≡ Some new →
    Grown o m n v z new
grown_is None m n v z new h = cc
grown_is (Some a) m n v z new h = by (count_of z) refl h
  where
    fits : (k : ℕ) → count_of z ≡ Some k → (b : Bool) → nat_le (size_of (extents_of a.bounds) + k) most_elements ≡ b →
        on (where_holds b (Some (record v {
          held = Some (record {
            bounds = counted_from_one ((size_of (extents_of a.bounds) + k) ∷ []);
            elements = a.elements ++ replicate k (empty_like v.blank);
          });
        }))) (λ v'. Some (with_block m n v')) ≡ Some new → Grown (Some a) m n v z new
    fits k e true within g = record {
      array = a;
      there = refl;
      more = k;
      amount_is = count_is z k e;
      few = leb-true (size_of (extents_of a.bounds) + k) most_elements within;
      is = some_is g;
    }
    fits k e false within g = cc

    by : (c : Option ℕ) → count_of z ≡ c → on c (λ count. on (grown_by v a count) (λ v'. Some (with_block m n v'))) ≡ Some new →
        Grown (Some a) m n v z new
    by None e g = cc
    by (Some k) e g = fits k e (nat_le (size_of (extents_of a.bounds) + k) most_elements) refl g

-- the extent of a row
extent_one : (k : ℕ) → extent_of (dimension (pos 1) (pos k)) ≡ k
extent_one zero = refl
extent_one (suc k) = by (int_lt (pos (suc k)) (pos 1)) (grind (arith, nat_tests))
  where
    whole : unsigned_abs (pos (suc k) -ℤ pos 1 +ℤ pos 1) ≡ suc k
    whole = let same : pos (suc k) -ℤ pos 1 +ℤ pos 1 ≡ pos (suc k) = omega (arith, ints) in ap unsigned_abs same

    by : (b : Bool) → b ≡ false → (if b then 0 else unsigned_abs (pos (suc k) -ℤ pos 1 +ℤ pos 1)) ≡ suc k
    by true h = cc
    by false h = whole

size_one : (k : ℕ) → size_of (extents_of (counted_from_one (k ∷ []))) ≡ k
size_one k = omega (arith, extent_one k)

-- the cells of more elements
cells_grown : (s : Sort) (xs : List Scalar) (k : ℕ) (x : Scalar) → number_for x ≡ pos 0 → text_of x ≡ [] →
    more_cells (block_cells s xs) k ≡ block_cells s (xs ++ replicate k x)
cells_grown s xs k x none empty = by s
  where
    numbers : Ints (map number_for xs ++ replicate k (pos 0)) ≡ Ints (map number_for (xs ++ replicate k x))
    numbers = ap (λ zs. Ints (map number_for xs ++ zs))
        (sym (map_replicate number_for k x ∙ ap (λ z. replicate k z) none))
        ∙ ap Ints (sym (map-append number_for xs (replicate k x)))

    texts : Texts (map text_of xs ++ replicate k []) ≡ Texts (map text_of (xs ++ replicate k x))
    texts = ap (λ (ts : List (List ℕ)). Texts (map text_of xs ++ ts))
        (sym (map_replicate text_of k x ∙ ap (λ (t : List ℕ). replicate k t) empty))
        ∙ ap Texts (sym (map-append text_of xs (replicate k x)))

    by : (s : Sort) → more_cells (block_cells s xs) k ≡ block_cells s (xs ++ replicate k x)
    by sort.Exact = numbers
    by sort.Int = numbers
    by sort.Log = numbers
    by sort.Text = texts

module _ {q : Procedure} {around : Around} {st : NestState} {v : Variables} (n : Name) (s : Sort) (is : sort_of_name q n ≡ Some s)
    (other : is_own_text q n ≡ false) (kin : Kin q around st v) (a : Array)
    (there : (block_in (memory_of st.cells) n).held ≡ Some a) (more : ℕ)
    (few : size_of (extents_of a.bounds) + more ≤ most_elements)
    (l : Living v.blocks (block_of s v (array_number q n)) (block_cells s a.elements)) where
  abbrev array : ℕ
  array = array_number q n

  abbrev blank : Scalar
  blank = (block_in (memory_of st.cells) n).blank

  abbrev size : ℕ
  size = size_of (extents_of a.bounds) + more

  abbrev elements : List Scalar
  elements = a.elements ++ replicate more (empty_like blank)

  abbrev blocks_after : Variables
  blocks_after = with_blocks v (with_cells v.blocks l.number (block_cells s elements))

  abbrev ints_after : List ℤ
  ints_after = with_at (pos 0) (with_at (pos 0) v.ints (lower_number array 0) (pos 1)) (extent_number array 0) (pos size)

  old : Stands s v.ints array a
  old = subst (λ o. StandsIf s v.ints array o) there (kin.arrays.whole n s is)

  grows : Grows s blank
  grows = subst (λ o. GrowsIf s blank o) there (kin.arrays.grows n s is)

  many : length elements ≡ size
  many = length-append a.elements (replicate more (empty_like blank)) ∙ ap (λ k. k + length (replicate more (empty_like blank)))
      old.sized ∙ ap (λ k. size_of (extents_of a.bounds) + k) (length-replicate more (empty_like blank))

  outside : (x : ℕ) → (x < 16 * array) ⊎ (16 * array + 16 ≤ x) → number_at ints_after x ≡ number_at v.ints x
  outside x side =
      with_at_other (pos 0) (with_at (pos 0) v.ints (lower_number array 0) (pos 1)) (extent_number array 0) x (pos size) (up x side)
      ∙ with_at_other (pos 0) v.ints (lower_number array 0) x (pos 1) (low x side)
    where
      up : (x : ℕ) → (x < 16 * array) ⊎ (16 * array + 16 ≤ x) → extent_number array 0 ≢ x
      up x (inl less) = omega (arith, less)
      up x (inr far) = omega (arith, far)

      low : (x : ℕ) → (x < 16 * array) ⊎ (16 * array + 16 ≤ x) → lower_number array 0 ≢ x
      low x (inl less) = omega (arith, less)
      low x (inr far) = omega (arith, far)

  kin_grown : Kin q around (with_memory st (with_block (memory_of st.cells) n (record (block_in (memory_of st.cells) n) {
    held = Some (record { bounds = counted_from_one (size ∷ []); elements = elements });
  }))) (record blocks_after { ints = ints_after })
  kin_grown =
      let small : size < 9223372036854775808 = omega (arith, few) in
      let one : size_of (extents_of (counted_from_one (size ∷ []))) ≡ size = size_one size in
      kin_array is (record {
        others = λ i r h ne. other_block v.blocks (with_cells v.blocks l.number (block_cells s elements))
            (block_of r v (array_number q i)) l.number
            (λ j apart. changed_elsewhere v.blocks l.number j (block_cells s elements) apart)
            (λ e. ne (kin.arrays.apart i n r s l.number h is e l.named));
        ints = λ x below side. outside x side;
        texts = λ x below. refl;
        here = ap (held (with_cells v.blocks l.number (block_cells s elements))) l.named
            ∙ changed_here v.blocks l.number (block_cells s a.elements) (block_cells s elements) l.there;
        stands = record {
          sized = many ∙ sym one;
          small = omega (arith, few, one);
          sorted = Every-append (IsOf s) a.elements (replicate more (empty_like blank)) old.sorted
              (each_replicate (IsOf s) more (empty_like blank) grows.of);
          rank = omega arith;
          narrow = ((small_wrap 1 (omega arith), omega (arith, few, extent_one size)), tt);
          bounds = (
            with_at_other (pos 0) (with_at (pos 0) v.ints (lower_number array 0) (pos 1)) (extent_number array 0)
                (lower_number array 0) (pos size) (omega arith)
                ∙ with_at_same (pos 0) v.ints (lower_number array 0) (pos 1),
            with_at_same (pos 0) (with_at (pos 0) v.ints (lower_number array 0) (pos 1)) (extent_number array 0) (pos size)
                ∙ sym (ap (λ k. int_wrap w64 (pos k)) (extent_one size) ∙ small_wrap size small),
            tt,
          );
        };
        plain = λ text. kin.arrays.plain n s is text;
        grows = grows;
        fitted = λ i own text. absurd (not_own q n s other is i own text);
        apart = kin.arrays.apart;
        below = kin.arrays.below;
        rest = record { pending = refl; input = refl; callers = refl };
      }) kin

module _ (functions : List Function) (limit : ℕ) (c : Scope) (nests : ℕ) (calls : Caller) (turn : List ℕ) (depth : Option ℕ) where
  pub grow_law : (line : ℕ) (n : Name) (a : Amount) → not (is_own_text c.own n) ≡ true →
      (may_grow c.own n && fits_amount c.own a) ≡ true → Performs functions limit c nests calls turn depth (Grow line n a)
  grow_law line name a emits fits = record {
    does = λ t free {around} {n} {w} enough kin turned {lines} {braces} go out next.
        let q = c.own in
        let other = not-true (is_own_text q name) emits in
        let two = and_parts (may_grow q name) (fits_amount q a) fits in
        let s = named_sort is_result_role q name two.0 in
        let array = array_number q name in
        let below = array_below q name s.0 s.1 in
        let mem = memory_of n.cells in
        let z = amount n.cells.temps.setting a in
        let v = record w { line = line } in
        let kin' = kin_line line kin in
        let last = λ (done : Unit {0}). pure Next >>= go in
        let reference = λ (o : Option Sort). reference_to o array in
        let rows = λ (o : Option Sort). stmt.Row (row.Block (block_row.Grow (reference o) (amount_atom q a)))
        ∷ row_lines (reference o) array in
        regroup_next (changes (grown name a)) (pure Next) go n
        (changed (grown name a) last n (λ new e.
        let g = grown_is (block_in mem name).held mem name (block_in mem name) z new e in
        let blank = (block_in mem name).blank in
        let xs = g.array.elements ++ replicate g.more (empty_like blank) in
        let size = size_of (extents_of g.array.bounds) + g.more in
        let final = with_memory n (with_block mem name (record (block_in mem name) {
          held = Some (record { bounds = counted_from_one (size ∷ []); elements = xs });
        })) in
        let sight : held v.blocks (block_of s.0 v array) ≡ Some (block_cells s.0 g.array.elements) = kin'.arrays.seen name s.0 s.1
        ∙ ap (cells_held s.0) g.there in
        let l = living v.blocks (block_of s.0 v array) (block_cells s.0 g.array.elements) sight in
        let stands = old name s.0 s.1 other kin' g.array g.there g.more g.few l in
        let grow = grows name s.0 s.1 other kin' g.array g.there g.more g.few l in
        let r = reference (Some s.0) in
        let named : number_of v r ≡ Some l.number = reference_is s.0 v array ∙ l.named in
        let counted : cell_count (block_cells s.0 g.array.elements) ≡ size_of (extents_of g.array.bounds) =
        count_cells s.0 g.array.elements ∙ stands.sized in
        let long = many name s.0 s.1 other kin' g.array g.there g.more g.few l in
        let cells = block_cells s.0 xs in
        let v1 = with_blocks v (with_cells v.blocks l.number cells) in
        let low = lower_number array 0 in
        let up = extent_number array 0 in
        let v2 = with_int v1 low (pos 1) in
        subst (λ (nm : Memory). DoesAt functions limit n w (flats (at_line line ∷ rows (sort_of_name q name)) ++ lines) braces
        (last tt (with_memory n nm))) g.is
        (pured Next go final
        (line_does line (rows (sort_of_name q name)) lines
        (subst (λ o. DoesAt functions limit n v (flats (rows o) ++ lines) braces (go Next final)) (sym s.1)
        (row_gives (step_grow r (amount_atom q a)) (row_lines r array) lines
        (change_there v.blocks (number_of v r) l.number (block_cells s.0 g.array.elements) cells
        (λ cells'. grown_cells cells' (value_of v (amount_atom q a))) named l.there
        (grown_within (block_cells s.0 g.array.elements) (value_of v (amount_atom q a)) g.more
        (amount_shown a two.1 kin' ∙ g.amount_is) (omega (arith, counted, g.few))
        ∙ ap Ok (cells_grown s.0 g.array.elements g.more (empty_like blank) grow.number grow.text)))
        (row_gives (step_int low (int_row.Atom (atom.Number (pos 1)))) (set up (int_row.Size r) ∷ []) lines
        (read_atom v1 (atom.Number (pos 1)))
        (row_gives (step_int up (int_row.Size r)) [] lines
        (read_size v2 r cells (cells_there v1.blocks (number_of v r) l.number cells named
        (changed_here v.blocks l.number (block_cells s.0 g.array.elements) cells l.there))
        ∙ ap (λ k. Ok (pos k)) (count_cells s.0 xs ∙ long))
        (next final (record v1 { ints = with_at (pos 0) v2.ints up (pos size) })
        (kin_grown name s.0 s.1 other kin' g.array g.there g.more g.few l)
        (record {
          ints = λ y less from. outside name s.0 s.1 other kin' g.array g.there g.more g.few l y
              (inr (omega (arith, below, from)));
          indices = λ y less. refl;
        }))))))))));
  }
