-- One array that changes, with its block: stored into, freed or made. All others stay, by their numbers.
use Rattle.std.proofs.Common.{◌≡◌, ◌≢◌, ◌⊎◌, inl, inr, ℕ, ◌+◌, ◌*◌, ◌<◌, ◌≤◌, false, List, Option, Some, None, refl, sym, ap, ◌∙◌, subst, arith, length}
use Rattle.std.specs.Prelude.{set, map}
use Rattle.std.proofs.lemmas.List.{get_or-set_same, get_or-set_other, length-set, map-set}
use Rattle.a95_base.specs.declared.scalar.Scalar.{Scalar}
use Rattle.a95_base.proofs.Lists.{Every-set}
use Rattle.array_meaning.specs.Values.{length_of}
use Rattle.array_meaning.specs.State.{Array, Variable, no_variable}
use Rattle.nest_tree.specs.declared.access.Name.{Name}
use Rattle.nest_tree.specs.declared.access.Name.TheVariants as name
use Rattle.nest_tree.specs.declared.unit.Sort.{Sort}
use Rattle.nest_tree.specs.declared.unit.Sort.TheVariants as sort
use Rattle.nest_tree.specs.Plain.{Procedure}
use Rattle.nest_tree.specs.State.{Memory, memory_of, NestState, with_memory, block_in, with_block}
use Rattle.nest_tree.specs.Places.{with_elements, without_array}
use Rattle.nest_tree.specs.Sound.{sort_of_name}
use Rattle.loop_tree.specs.State.{Cells, Ints, Block, cells_numbered, with_cells, without}
use Rattle.loop_tree.specs.Values.{number_at, text_at}
use Rattle.loop_laws.specs.At.{Variables, with_blocks}
use Rattle.loop_laws.proofs.Numbered.{changed_here, changed_elsewhere, freed_here, freed_elsewhere}
use Rattle.nest_emit.specs.Numbers.{array_number, length_number, leaving_number, scalar_number}
use Rattle.nest_emit.specs.Trees.{number_for}
use Rattle.nest_emit.specs.Kin.{IsOf, Shows, Fitted, FittedIf, GrowsIf, is_text, is_text_scalar, cells_of, held, cells_held, block_of, Stands, StandsIf, Arrays, Around, Kin, SameOthers}
use Rattle.nest_emit.proofs.Values.{shows_as, scalar_below, array_below, one_array, own_number}
use Rattle.nest_emit.proofs.Kin.{same_stands, same_fitted, set_at_here, set_at_other}

-- ---- one block of the memory

pub same_name : (q : Procedure) (k n : Name) (r s : Sort) → sort_of_name q k ≡ Some r → sort_of_name q n ≡ Some s →
    (k ≡ n) ⊎ (k ≢ n)
same_name q k n r s h g = by (grind arith)
  where
    by : (array_number q k ≡ array_number q n) ⊎ (array_number q k ≢ array_number q n) → (k ≡ n) ⊎ (k ≢ n)
    by (inl e) = inl (one_array q k n r s h g e)
    by (inr ne) = inr (λ e. ne (ap (array_number q) e))

block_here : (q : Procedure) (m : Memory) (n : Name) (s : Sort) (b : Variable) → length m.variables ≡ length q.variables →
    sort_of_name q n ≡ Some s → block_in (with_block m n b) n ≡ b
block_here q m (name.Own i) s b many h =
    let inside : i < length m.variables = subst (λ l. i < l) (sym many) (own_number q i s h) in get_or-set_same m.variables i b
    no_variable inside
block_here q m (name.Temp i) s b many h = set_at_here m.temps.blocks i b i refl

block_other : (m : Memory) (n k : Name) (b : Variable) → k ≢ n → block_in (with_block m n b) k ≡ block_in m k
block_other m (name.Own i) (name.Own j) b ne = get_or-set_other m.variables i j b no_variable (λ e. ne (ap name.Own e))
block_other m (name.Own i) (name.Temp j) b ne = refl
block_other m (name.Temp i) (name.Own j) b ne = refl
block_other m (name.Temp i) (name.Temp j) b ne = set_at_other m.temps.blocks i b j (λ e. ne (ap name.Temp e))

kept_same : (m : Memory) (n : Name) (b : Variable) (k : ℕ) → (with_block m n b).temps.setting.kept k ≡ m.temps.setting.kept k
kept_same m (name.Own i) b k = refl
kept_same m (name.Temp i) b k = refl

many_same : (m : Memory) (n : Name) (b : Variable) → length (with_block m n b).variables ≡ length m.variables
many_same m (name.Own i) b = length-set m.variables i b
many_same m (name.Temp i) b = refl

-- ---- an array that changes

-- array n is now b, with its block and its bounds, and all else is as before
pub record ArrayChanged (q : Procedure) (n : Name) (s : Sort) (b : Variable) (v w : Variables) : Type 0 where
  pub others : (k : Name) (r : Sort) → sort_of_name q k ≡ Some r → k ≢ n →
      held w.blocks (block_of r w (array_number q k)) ≡ held v.blocks (block_of r v (array_number q k))
  pub ints : (x : ℕ) → x < leaving_number q → (x < 16 * array_number q n) ⊎ (16 * array_number q n + 16 ≤ x) →
      number_at w.ints x ≡ number_at v.ints x
  pub texts : (x : ℕ) → x < leaving_number q → text_at w.texts x ≡ text_at v.texts x
  pub here : held w.blocks (block_of s w (array_number q n)) ≡ cells_held s b.held
  pub stands : StandsIf s w.ints (array_number q n) b.held
  pub plain : is_text (Some s) ≡ false → is_text_scalar b.blank ≡ false
  pub fitted : (i : ℕ) → n ≡ name.Own i → s ≡ sort.Text → FittedIf w.ints i b.blank b.held
  pub grows : GrowsIf s b.blank b.held
  pub apart : (i k : Name) (r u : Sort) (number : ℕ) → sort_of_name q i ≡ Some r → sort_of_name q k ≡ Some u →
      block_of r w (array_number q i) ≡ Some number → block_of u w (array_number q k) ≡ Some number → i ≡ k
  pub below : (k : Name) (r : Sort) (number : ℕ) → sort_of_name q k ≡ Some r → block_of r w (array_number q k) ≡ Some number →
      number < w.made
  pub rest : SameOthers v w

module _ {q : Procedure} {n : Name} {s : Sort} {b : Variable} {v w : Variables} (is : sort_of_name q n ≡ Some s)
    (c : ArrayChanged q n s b v w) where
  changed_arrays : (m : Memory) → Arrays q m v → Arrays q (with_block m n b) w
  changed_arrays m a = record {
    many = many_same m n b ∙ a.many;
    plain = λ k r h text. plain_by k r h text (same_name q k n r s h is);
    seen = λ k r h. seen_by k r h (same_name q k n r s h is);
    whole = λ k r h. whole_by k r h (same_name q k n r s h is);
    grows = λ k r h. grows_by k r h (same_name q k n r s h is);
    fitted = λ i h. fitted_by i h (same_name q (name.Own i) n sort.Text s h is);
    apart = c.apart;
    below = c.below;
  }
    where
      sorts : (k : Name) (r : Sort) → sort_of_name q k ≡ Some r → k ≡ n → s ≡ r
      sorts k r h e = let there : sort_of_name q n ≡ Some r = ap (sort_of_name q) (sym e) ∙ h in cc

      now : (k : Name) → k ≡ n → block_in (with_block m n b) k ≡ b
      now k e = ap (block_in (with_block m n b)) e ∙ block_here q m n s b a.many is

      plain_by : (k : Name) (r : Sort) → sort_of_name q k ≡ Some r → is_text (Some r) ≡ false → (k ≡ n) ⊎ (k ≢ n) →
          is_text_scalar (block_in (with_block m n b) k).blank ≡ false
      plain_by k r h text (inl e) =
          subst (λ (x : Variable). is_text_scalar x.blank ≡ false) (sym (now k e))
          (c.plain (ap (λ u. is_text (Some u)) (sorts k r h e) ∙ text))
      plain_by k r h text (inr ne) =
          subst (λ (x : Variable). is_text_scalar x.blank ≡ false) (sym (block_other m n k b ne)) (a.plain k r h text)

      seen_by : (k : Name) (r : Sort) → sort_of_name q k ≡ Some r → (k ≡ n) ⊎ (k ≢ n) →
          held w.blocks (block_of r w (array_number q k)) ≡ cells_held r (block_in (with_block m n b) k).held
      seen_by k r h (inl e) =
          subst (λ (x : Variable). held w.blocks (block_of r w (array_number q k)) ≡ cells_held r x.held) (sym (now k e))
          (subst (λ i. held w.blocks (block_of r w (array_number q i)) ≡ cells_held r b.held) (sym e)
          (subst (λ u. held w.blocks (block_of u w (array_number q n)) ≡ cells_held u b.held) (sorts k r h e) c.here))
      seen_by k r h (inr ne) =
          subst (λ (x : Variable). held w.blocks (block_of r w (array_number q k)) ≡ cells_held r x.held)
          (sym (block_other m n k b ne))
          (c.others k r h ne ∙ a.seen k r h)

      whole_by : (k : Name) (r : Sort) → sort_of_name q k ≡ Some r → (k ≡ n) ⊎ (k ≢ n) →
          StandsIf r w.ints (array_number q k) (block_in (with_block m n b) k).held
      whole_by k r h (inl e) =
          subst (λ (x : Variable). StandsIf r w.ints (array_number q k) x.held) (sym (now k e))
          (subst (λ i. StandsIf r w.ints (array_number q i) b.held) (sym e)
          (subst (λ u. StandsIf u w.ints (array_number q n) b.held) (sorts k r h e) c.stands))
      whole_by k r h (inr ne) =
          let apart : array_number q k ≢ array_number q n = λ e. ne (one_array q k n r s h is e) in
          subst (λ (x : Variable). StandsIf r w.ints (array_number q k) x.held) (sym (block_other m n k b ne))
          (bounds_same k r h ne (slot_apart (array_number q k) (array_number q n) apart) (a.whole k r h))
        where
          slot_apart : (x y : ℕ) → x ≢ y → (x < y) ⊎ (y < x)
          slot_apart x y ne' = grind arith

          away : (k : Name) (x : ℕ) → 16 * array_number q k ≤ x → x < 16 * array_number q k + 16 →
              (array_number q k < array_number q n) ⊎ (array_number q n < array_number q k) →
              (x < 16 * array_number q n) ⊎ (16 * array_number q n + 16 ≤ x)
          away k x from below (inl less) = inl (omega (arith, below, less))
          away k x from below (inr more) = inr (omega (arith, from, more))

          bounds_same : (k : Name) (r : Sort) → sort_of_name q k ≡ Some r → k ≢ n →
              (array_number q k < array_number q n) ⊎ (array_number q n < array_number q k) →
              StandsIf r v.ints (array_number q k) (block_in m k).held → StandsIf r w.ints (array_number q k) (block_in m k).held
          bounds_same k r h ne' side st = same_stands r v.ints w.ints (array_number q k) (block_in m k).held
              (λ x from below. c.ints x (let within = array_below q k r h in omega (arith, within, below))
              (away k x from below side)) st

      grows_by : (k : Name) (r : Sort) → sort_of_name q k ≡ Some r → (k ≡ n) ⊎ (k ≢ n) →
          GrowsIf r (block_in (with_block m n b) k).blank (block_in (with_block m n b) k).held
      grows_by k r h (inl e) =
          subst (λ (x : Variable). GrowsIf r x.blank x.held) (sym (now k e))
          (subst (λ u. GrowsIf u b.blank b.held) (sorts k r h e) c.grows)
      grows_by k r h (inr ne) =
          subst (λ (x : Variable). GrowsIf r x.blank x.held) (sym (block_other m n k b ne)) (a.grows k r h)

      fitted_by : (i : ℕ) → sort_of_name q (name.Own i) ≡ Some sort.Text → (name.Own i ≡ n) ⊎ (name.Own i ≢ n) →
          FittedIf w.ints i (block_in (with_block m n b) (name.Own i)).blank (block_in (with_block m n b) (name.Own i)).held
      fitted_by i h (inl e) =
          subst (λ (x : Variable). FittedIf w.ints i x.blank x.held) (sym (now (name.Own i) e))
          (c.fitted i (sym e) (sorts (name.Own i) sort.Text h e))
      fitted_by i h (inr ne) =
          let apart : array_number q (name.Own i) ≢ array_number q n = λ e. ne (one_array q (name.Own i) n sort.Text s h is e) in
          let side : (length_number i < 16 * array_number q n) ⊎ (16 * array_number q n + 16 ≤ length_number i) = by (one_side apart) in
          subst (λ (x : Variable). FittedIf w.ints i x.blank x.held) (sym (block_other m n (name.Own i) b ne))
          (same_fitted v.ints w.ints i (block_in m (name.Own i)).blank (block_in m (name.Own i)).held
          (c.ints (length_number i) (let within = array_below q (name.Own i) sort.Text h in omega (arith, within)) side)
          (a.fitted i h))
        where
          one_side : i ≢ array_number q n → (i < array_number q n) ⊎ (array_number q n < i)
          one_side ne' = grind arith

          by : (i < array_number q n) ⊎ (array_number q n < i) →
              (length_number i < 16 * array_number q n) ⊎ (16 * array_number q n + 16 ≤ length_number i)
          by (inl less) = inl (omega (arith, less))
          by (inr more) = inr (omega (arith, more))

  pub kin_array : {around : Around} {st : NestState} → Kin q around st v →
      Kin q around (with_memory st (with_block (memory_of st.cells) n b)) w
  kin_array {around} {st} kin = record {
    scalars = λ k r h.
        let within = scalar_below q k r h in
        let past : 16 * array_number q n + 16 ≤ scalar_number q k = let below = array_below q n s is in omega (arith, below) in
        subst (λ x. Shows r (number_at w.ints (scalar_number q k)) (text_at w.texts (scalar_number q k)) x)
        (sym (kept_same (memory_of st.cells) n b k))
        (shows_as (c.ints (scalar_number q k) within (inr past)) (c.texts (scalar_number q k) within) (kin.scalars k r h));
    arrays = changed_arrays (memory_of st.cells) kin.arrays;
    pending = c.rest.pending ∙ kin.pending;
    input = c.rest.input ∙ kin.input;
    callers = c.rest.callers ∙ kin.callers;
    few = kin.few;
    budget = kin.budget;
  }

-- ---- the block of an array that holds something

-- the number of its block
pub record Living (blocks : List Block) (r : Option ℕ) (cells : Cells) : Type 0 where
  pub number : ℕ
  pub named : r ≡ Some number
  pub there : cells_numbered blocks number ≡ Some cells

pub living : (blocks : List Block) (r : Option ℕ) (cells : Cells) → held blocks r ≡ Some cells → Living blocks r cells
living blocks None cells h = cc
living blocks (Some number) cells h = record { number = number; named = refl; there = h }

pub other_block : (blocks new : List Block) (r : Option ℕ) (number : ℕ) →
    ((j : ℕ) → number ≢ j → cells_numbered new j ≡ cells_numbered blocks j) →
    (r ≡ Some number → ⊥) → held new r ≡ held blocks r
other_block blocks new None number same ne = refl
other_block blocks new (Some j) number same ne = same j (λ e. ne (ap Some (sym e)))

-- ---- stores

pub cells_stored : (s : Sort) (xs : List Scalar) (k : ℕ) (x : Scalar) → is_text (Some s) ≡ false →
    cells_of s (set xs k x) ≡ Ints (set (map number_for xs) k (number_for x))
cells_stored sort.Exact xs k x h = ap Ints (map-set number_for xs k x)
cells_stored sort.Int xs k x h = ap Ints (map-set number_for xs k x)
cells_stored sort.Log xs k x h = ap Ints (map-set number_for xs k x)
cells_stored sort.Text xs k x h = cc

module _ {q : Procedure} {around : Around} {st : NestState} {v : Variables} (n : Name) (s : Sort) (is : sort_of_name q n ≡ Some s)
    (a : Array) (there : (block_in (memory_of st.cells) n).held ≡ Some a) (kin : Kin q around st v) where
  pub known : (i : ℕ) → n ≡ name.Own i → s ≡ sort.Text → Fitted v.ints i (block_in (memory_of st.cells) n).blank a
  known i own text = subst (λ o. FittedIf v.ints i (block_in (memory_of st.cells) n).blank o) there
      (subst (λ k. FittedIf v.ints i (block_in (memory_of st.cells) k).blank (block_in (memory_of st.cells) k).held) (sym own)
      (kin.arrays.fitted i (ap (sort_of_name q) (sym own) ∙ is ∙ ap Some text)))

  -- an element of an array takes a value, in a declared variable of texts one of its length
  pub kin_stored : (k : ℕ) (x : Scalar) → IsOf s x →
      ((i : ℕ) → n ≡ name.Own i → s ≡ sort.Text → length_of x ≡ length_of (block_in (memory_of st.cells) n).blank) →
      (l : Living v.blocks (block_of s v (array_number q n)) (cells_of s a.elements)) →
      Kin q around (with_memory st
      (with_block (memory_of st.cells) n (with_elements (block_in (memory_of st.cells) n) a (set a.elements k x))))
      (with_blocks v (with_cells v.blocks l.number (cells_of s (set a.elements k x))))
  kin_stored k x of long l = kin_array is (record {
    others = λ i r h ne. other_block v.blocks (with_cells v.blocks l.number (cells_of s (set a.elements k x)))
        (block_of r v (array_number q i)) l.number
        (λ j apart. changed_elsewhere v.blocks l.number j (cells_of s (set a.elements k x)) apart)
        (λ e. ne (kin.arrays.apart i n r s l.number h is e l.named));
    ints = λ x' h g. refl;
    texts = λ x' h. refl;
    here = ap (held (with_cells v.blocks l.number (cells_of s (set a.elements k x)))) l.named
        ∙ changed_here v.blocks l.number (cells_of s a.elements) (cells_of s (set a.elements k x)) l.there;
    stands =
        let old : Stands s v.ints (array_number q n) a = subst (λ o. StandsIf s v.ints (array_number q n) o) there
        (kin.arrays.whole n s is) in
        record {
          sized = length-set a.elements k x ∙ old.sized;
          small = old.small;
          sorted = Every-set (IsOf s) a.elements k x of old.sorted;
          rank = old.rank;
          narrow = old.narrow;
          bounds = old.bounds;
        };
    plain = λ text. kin.arrays.plain n s is text;
    grows = subst (λ o. GrowsIf s (block_in (memory_of st.cells) n).blank o) there (kin.arrays.grows n s is);
    fitted = λ i own text.
        let same = known i own text in record {
          text = same.text;
          length = same.length;
          small = same.small;
          elements = Every-set (λ y. length_of y ≡ length_of (block_in (memory_of st.cells) n).blank) a.elements k x (long i own text)
              same.elements;
        };
    apart = kin.arrays.apart;
    below = kin.arrays.below;
    rest = record { pending = refl; input = refl; callers = refl };
  }) kin

  -- an array is freed
  pub kin_freed : (l : Living v.blocks (block_of s v (array_number q n)) (cells_of s a.elements)) →
      Kin q around (with_memory st (with_block (memory_of st.cells) n (without_array (block_in (memory_of st.cells) n))))
      (with_blocks v (without v.blocks l.number))
  kin_freed l = kin_array is (record {
    others = λ i r h ne. other_block v.blocks (without v.blocks l.number) (block_of r v (array_number q i)) l.number
        (λ j apart. freed_elsewhere v.blocks l.number j apart) (λ e. ne (kin.arrays.apart i n r s l.number h is e l.named));
    ints = λ x' h g. refl;
    texts = λ x' h. refl;
    here = ap (held (without v.blocks l.number)) l.named ∙ freed_here v.blocks l.number;
    stands = tt;
    plain = λ text. kin.arrays.plain n s is text;
    grows = tt;
    fitted = λ i own text. tt;
    apart = kin.arrays.apart;
    below = kin.arrays.below;
    rest = record { pending = refl; input = refl; callers = refl };
  }) kin
