-- A statement that makes an array: its bounds, its block, and what it starts with.
use Rattle.std.proofs.Common.{◌≡◌, ◌≢◌, ◌⊎◌, inl, inr, ℕ, zero, suc, ◌+◌, ◌*◌, ◌<◌, ◌≤◌, Bool, true, false, ◌&&◌, List, [], ◌∷◌, ◌++◌, Option, Some, None, refl, sym, ap, ◌∙◌, subst, arith, ℤ, pos, length, nat_le, ◌^◌, not, if◌then◌else◌}
use Rattle.std.specs.Prelude.{Ok, map, replicate, is_some, FitsSigned, unsigned_abs, int_lt, ◌+ℤ◌, ◌-ℤ◌, slice_get}
use Rattle.std.specs.List.{list_all}
use Rattle.std.proofs.Math.ListN.{length-replicate}
use Rattle.std.proofs.lemmas.List.{length-map}
use Rattle.a95_base.specs.Limits.{most_elements}
use Rattle.a95_base.specs.declared.scalar.Scalar.{Scalar}
use Rattle.a95_base.specs.Lists.{Every}
use Rattle.a95_base.specs.Steps.{Ran, pure, ◌>>=◌}
use Rattle.a95_base.proofs.Wrapping.{wrapped_small, fits_wrapped}
use Rattle.a95_base.specs.declared.scalar.Scalar.TheVariants as scalar
use Rattle.array_meaning.specs.Values.{size_of, integer_of, text_of, length_of}
use Rattle.array_meaning.specs.State.{Dimension as Bounds, dimension, extents_of}
use Rattle.array_meaning.specs.Control.{Next}
use Rattle.nest_tree.specs.declared.access.Name.{Name}
use Rattle.nest_tree.specs.declared.access.Name.TheVariants as name
use Rattle.nest_tree.specs.declared.statement.Block.{Block}
use Rattle.nest_tree.specs.declared.statement.Made.{Made}
use Rattle.nest_tree.specs.declared.statement.Made.TheVariants as made
use Rattle.nest_tree.specs.declared.statement.Span.{Span}
use Rattle.nest_tree.specs.declared.tree.Blank.{Blank}
use Rattle.nest_tree.specs.declared.tree.Blank.TheVariants as blank
use Rattle.nest_tree.specs.declared.unit.Sort.{Sort}
use Rattle.nest_tree.specs.declared.unit.Sort.TheVariants as sort
use Rattle.nest_tree.specs.Plain.{Procedure, Make}
use Rattle.nest_tree.specs.State.{NestState, Memory, memory_of, with_memory, Setting, Halt, changes, where_holds, with_block}
use Rattle.nest_tree.specs.Places.{amount, natural, blank_for, bounds_for, first_element, has_length, may_be_made, new_variable, made_block}
use Rattle.nest_tree.specs.Statements.{Caller}
use Rattle.nest_tree.specs.Sound.{Scope, serves, served_by, sort_of_name, sort_of_blank, fits_amount, fits_spans, fits_block, fits_blank, has_rank, may_make, declared_at, is_sort}
use Rattle.loop_tree.specs.declared.atom.Atom.TheVariants as atom
use Rattle.loop_tree.specs.declared.tree.CodeLine.{CodeLine}
use Rattle.loop_tree.specs.declared.tree.Function.{Function}
use Rattle.loop_tree.specs.Lines.{flats}
use Rattle.loop_tree.specs.State.{Brace, Cells, Ints, Texts, with_at}
use Rattle.loop_tree.specs.Values.{number_at, zeros, texts_of_length}
use Rattle.loop_laws.specs.At.{Variables}
use Rattle.loop_laws.specs.Rows.{with_new_ints, with_new_texts}
use Rattle.loop_laws.proofs.Rows.{step_new, step_temp, step_copy, step_mark, step_new_text, step_temp_text, step_copy_text}
use Rattle.loop_laws.proofs.Numbered.{with_at_same, with_at_other, made_here, made_elsewhere}
use Rattle.loop_laws.proofs.Within.{zeros_within, texts_within}
use Rattle.nest_emit.specs.Numbers.{array_number, length_number, leaving_number, first_free}
use Rattle.nest_emit.specs.Trees.{number_for}
use Rattle.nest_emit.specs.Statements.{at_line, bounds_lines, make_ints, make_texts, length_lines, make_lines}
use Rattle.nest_emit.specs.Emits.{is_integer, is_positive, emits_span}
use Rattle.nest_emit.specs.Meets.{spot, Does, DoesAt}
use Rattle.nest_emit.specs.Kin.{IsOf, is_text, is_text_scalar, Fitted, Grows, cells_of, held, block_of, BoundsAt, Around, Kin, Stays, Narrow}
use Rattle.nest_emit.proofs.Runs.{regroup_next, pured, changed, parts, row_gives}
use Rattle.nest_emit.proofs.Acts.{line_does}
use Rattle.nest_emit.proofs.Values.{some_is, array_below, one_array, in_32_bits}
use Rattle.nest_emit.proofs.Indices.{small_wrap, Above, le_tells}
use Rattle.nest_emit.proofs.Performs.{Performs, Placed, line_stays}
use Rattle.nest_emit.proofs.Arrays.{kin_array, same_name}
use Rattle.nest_emit.proofs.Making.{Moved, bounds_do, length_do}
use Rattle.nest_emit.proofs.Kin.{kin_line, same_bounds}
use Rattle.std.specs.Int.{w32, w64, int_wrap}
use Rattle.std.proofs.lemmas.Int.{ints, SFits-int_wrap}
use Rattle.a95_base.specs.Integer.{wrapped}
use Rattle.nest_tree.specs.declared.access.Amount.{Amount}
use Rattle.nest_tree.specs.declared.access.Amount.TheVariants as amounts
use Rattle.nest_emit.proofs.Comparisons.{at_most_is}
use Rattle.nest_emit.proofs.Places.{amount_wraps}
use Rattle.std.proofs.lemmas.Bool.{leb-true, and_parts, or_cases}
use Rattle.a95_base.proofs.Tests.{clash}

-- ---- what a new array starts with

abbrev is_new : Made → Bool
is_new made.New = true
is_new other = false

abbrev is_number_blank : Blank → Bool
is_number_blank (blank.Text a) = false
is_number_blank other = true

record Starts (s : Sort) (x : Scalar) : Type 0 where
  of : IsOf s x
  number : number_for x ≡ pos 0
  plain : is_text_scalar x ≡ false
  untexted : is_text (Some s) ≡ false
  grows : Grows s x

blank_starts : (b : Blank) → is_number_blank b ≡ true → (s : Sort) → serves (sort_of_blank b) s ≡ true →
    (st : Setting) → Starts s (blank_for st b)
blank_starts blank.Int h sort.Exact g st = record {
  of = (refl, small_wrap 0 (omega arith));
  number = refl;
  plain = refl;
  untexted = refl;
  grows = record { of = (refl, small_wrap 0 (omega arith)); number = refl; text = refl };
}
blank_starts blank.Int h sort.Int g st = record {
  of = (refl, wrapped_small 0 (omega arith));
  number = refl;
  plain = refl;
  untexted = refl;
  grows = record { of = (refl, wrapped_small 0 (omega arith)); number = refl; text = refl };
}
blank_starts blank.Int h sort.Log g st = cc
blank_starts blank.Int h sort.Text g st = cc
blank_starts blank.Log h sort.Exact g st = cc
blank_starts blank.Log h sort.Int g st = cc
blank_starts blank.Log h sort.Log g st = record {
  of = refl;
  number = refl;
  plain = refl;
  untexted = refl;
  grows = record { of = refl; number = refl; text = refl };
}
blank_starts blank.Log h sort.Text g st = cc
blank_starts (blank.Text a) h s g st = cc

first_is : (k : Made) (b : Blank) (st : Setting) → is_number_blank b ≡ true → first_element k (blank_for st b) ≡ blank_for st b
first_is made.New b st h = refl
first_is made.Temporary blank.Int st h = refl
first_is made.Temporary blank.Log st h = refl
first_is made.Temporary (blank.Text a) st h = cc
first_is made.Copy blank.Int st h = refl
first_is made.Copy blank.Log st h = refl
first_is made.Copy (blank.Text a) st h = cc
first_is made.Mark blank.Int st h = refl
first_is made.Mark blank.Log st h = refl
first_is made.Mark (blank.Text a) st h = cc

pub map_replicate : {A : Type 0} (f : Scalar → A) (n : ℕ) (x : Scalar) → map f (replicate n x) ≡ replicate n (f x)
map_replicate f zero x = refl
map_replicate f (suc n) x = ap (λ zs. f x ∷ zs) (map_replicate f n x)

pub each_replicate : (P : Scalar → Type 0) (n : ℕ) (x : Scalar) → P x → Every P (replicate n x)
each_replicate P zero x h = tt
each_replicate P (suc n) x h = (h, each_replicate P n x h)

cells_started : (s : Sort) (n : ℕ) (x : Scalar) → Starts s x → cells_of s (replicate n x) ≡ Ints (replicate n (pos 0))
cells_started s n x starts = by s starts.untexted
  where
    same : map number_for (replicate n x) ≡ replicate n (pos 0)
    same = map_replicate number_for n x ∙ ap (λ z. replicate n z) starts.number

    by : (s : Sort) → is_text (Some s) ≡ false → cells_of s (replicate n x) ≡ Ints (replicate n (pos 0))
    by sort.Exact h = ap Ints same
    by sort.Int h = ap Ints same
    by sort.Log h = ap Ints same
    by sort.Text h = cc

made_is : (b : Bool) (other new : Memory) → where_holds b (Some other) ≡ Some new → (b ≡ true) × (other ≡ new)
made_is true other new h = (refl, some_is h)
made_is false other new h = cc

-- ---- extents that an integer of the machine holds

fits_exact : (z : ℤ) → int_wrap w64 z ≡ z → FitsSigned w64 z
fits_exact z e = subst (λ y. FitsSigned w64 y) e (SFits-int_wrap w64 z)

fits_int : (z : ℤ) → wrapped z ≡ z → FitsSigned w32 z
fits_int z e = subst (λ y. FitsSigned w32 y) e (fits_wrapped z)

extent_narrow : (l u : ℤ) (b : Bool) → int_lt u l ≡ b → ((above : Above l u) → above.by + 1 < 2 ^ 63) →
    (if b then 0 else unsigned_abs (u -ℤ l +ℤ pos 1)) < 2 ^ 63
extent_narrow l u true e few = omega arith
extent_narrow l u false e few =
    let above = le_tells l u (at_most_is l u ∙ ap not e) in
    let whole : u -ℤ l +ℤ pos 1 ≡ pos (above.by + 1) = omega (arith, ints, above.is) in
    subst (λ k. k < 2 ^ 63) (sym (ap unsigned_abs whole)) (few above)

few_up : (l u : ℤ) → Above (pos 1) l → FitsSigned w64 u → (above : Above l u) → above.by + 1 < 2 ^ 63
few_up l u from fits above = omega (arith, ints, from.is, above.is, fits)

few_ints : (l u : ℤ) → FitsSigned w32 l → FitsSigned w32 u → (above : Above l u) → above.by + 1 < 2 ^ 63
few_ints l u low high above = omega (arith, ints, above.is, low, high)

integer_amount : {q : Procedure} {around : Around} {n : NestState} {w : Variables} (a : Amount) → is_integer q a ≡ true →
    Kin q around n w →
    FitsSigned w32 (amount n.cells.temps.setting a)
integer_amount (amounts.Number z) h kin = fits_int z (in_32_bits z h)
integer_amount {q} {around} {n} {w} (amounts.Kept k) h kin = by (slice_get q.scalars k) refl h
  where
    by : (o : Option Sort) → slice_get q.scalars k ≡ o → is_sort o sort.Int ≡ true →
        FitsSigned w32 (integer_of (n.cells.temps.setting.kept k))
    by None e g = cc
    by (Some sort.Exact) e g = cc
    by (Some sort.Int) e g = fits_int (integer_of (n.cells.temps.setting.kept k)) (kin.scalars k sort.Int e).of.1
    by (Some sort.Log) e g = cc
    by (Some sort.Text) e g = cc

positive_amount : (st : Setting) (a : Amount) → is_positive a ≡ true → Above (pos 1) (amount st a)
positive_amount st (amounts.Number z) h = le_tells (pos 1) z h
positive_amount st (amounts.Kept k) h = cc

span_narrow : {q : Procedure} {around : Around} {n : NestState} {w : Variables} (s : Span) → emits_span q s ≡ true →
    fits_amount q s.lower ≡ true →
    fits_amount q s.upper ≡ true → Kin q around n w →
    Narrow (dimension (amount n.cells.temps.setting s.lower) (amount n.cells.temps.setting s.upper))
span_narrow {q} {around} {n} {w} s h low high kin = (
  amount_wraps s.lower low kin,
  extent_narrow l u (int_lt u l) refl
      (by (or_cases (is_positive s.lower) (is_integer q s.lower && is_integer q s.upper) h)),
)
  where
    l : ℤ
    l = amount n.cells.temps.setting s.lower

    u : ℤ
    u = amount n.cells.temps.setting s.upper

    by : (is_positive s.lower ≡ true) ⊎ ((is_integer q s.lower && is_integer q s.upper) ≡ true) →
        (above : Above l u) → above.by + 1 < 2 ^ 63
    by (inl up) = few_up l u (positive_amount n.cells.temps.setting s.lower up) (fits_exact u (amount_wraps s.upper high kin))
    by (inr both) =
        let two = and_parts (is_integer q s.lower) (is_integer q s.upper) both in
        few_ints l u (integer_amount s.lower two.0 kin) (integer_amount s.upper two.1 kin)

pub spans_narrow : {q : Procedure} {around : Around} {n : NestState} {w : Variables} (spans : List Span) →
    list_all (emits_span q) spans ≡ true →
    list_all (λ s. fits_amount q s.lower && fits_amount q s.upper) spans ≡ true → Kin q around n w →
    Every Narrow (bounds_for n.cells.temps.setting spans)
spans_narrow [] h g kin = tt
spans_narrow {q} {around} {n} {w} (s ∷ spans) h g kin =
    let one = and_parts (emits_span q s) (list_all (emits_span q) spans) h in
    let fit = and_parts (fits_amount q s.lower && fits_amount q s.upper)
    (list_all (λ s'. fits_amount q s'.lower && fits_amount q s'.upper) spans) g in
    let two = and_parts (fits_amount q s.lower) (fits_amount q s.upper) fit.0 in
    (span_narrow s one.0 two.0 two.1 kin, spans_narrow spans one.1 fit.1 kin)

-- ---- the new block

abbrev ints_after : Bool → ℕ → Variables → List (Option ℕ)
ints_after true array v = v.int_blocks
ints_after false array v = with_at None v.int_blocks array (Some v.made)

abbrev texts_after : Bool → ℕ → Variables → List (Option ℕ)
texts_after true array v = with_at None v.text_blocks array (Some v.made)
texts_after false array v = v.text_blocks

-- a new block, of texts or of integers
abbrev made_in : Bool → ℕ → Variables → Cells → Variables
made_in text array v cells = record v {
  int_blocks = ints_after text array v;
  text_blocks = texts_after text array v;
  blocks = record { number = v.made; cells = cells } ∷ v.blocks;
  made = v.made + 1;
}

reference_made : (text : Bool) (r : Sort) → is_text (Some r) ≡ text → (array : ℕ) (v : Variables) (cells : Cells) →
    block_of r (made_in text array v cells) array ≡ Some v.made
reference_made true sort.Exact h array v cells = cc
reference_made true sort.Int h array v cells = cc
reference_made true sort.Log h array v cells = cc
reference_made true sort.Text h array v cells = with_at_same None v.text_blocks array (Some v.made)
reference_made false sort.Exact h array v cells = with_at_same None v.int_blocks array (Some v.made)
reference_made false sort.Int h array v cells = with_at_same None v.int_blocks array (Some v.made)
reference_made false sort.Log h array v cells = with_at_same None v.int_blocks array (Some v.made)
reference_made false sort.Text h array v cells = cc

reference_kept : (text : Bool) (r : Sort) (array : ℕ) (v : Variables) (cells : Cells) (x : ℕ) → array ≢ x →
    block_of r (made_in text array v cells) x ≡ block_of r v x
reference_kept true sort.Exact array v cells x ne = refl
reference_kept true sort.Int array v cells x ne = refl
reference_kept true sort.Log array v cells x ne = refl
reference_kept true sort.Text array v cells x ne = with_at_other None v.text_blocks array x (Some v.made) ne
reference_kept false sort.Exact array v cells x ne = with_at_other None v.int_blocks array x (Some v.made) ne
reference_kept false sort.Int array v cells x ne = with_at_other None v.int_blocks array x (Some v.made) ne
reference_kept false sort.Log array v cells x ne = with_at_other None v.int_blocks array x (Some v.made) ne
reference_kept false sort.Text array v cells x ne = refl

module _ {q : Procedure} {around : Around} {st : NestState} {v : Variables} (n : Name) (s : Sort) (is : sort_of_name q n ≡ Some s)
    (kin : Kin q around st v) (js : List ℤ) (cells : Cells) where
  abbrev array : ℕ
  array = array_number q n

  abbrev w : Variables
  w = made_in (is_text (Some s)) array (record v { ints = js }) cells

  old_block : (o : Option ℕ) → ((j : ℕ) → o ≡ Some j → j < v.made) → held w.blocks o ≡ held v.blocks o
  old_block None below = refl
  old_block (Some j) below =
      let less : j < v.made = below j refl in
      let ne : v.made ≢ j = omega (arith, less) in made_elsewhere v.blocks v.made j cells ne

  other_number : (k : Name) (r : Sort) → sort_of_name q k ≡ Some r → k ≢ n → array ≢ array_number q k
  other_number k r h ne e = ne (sym (one_array q n k s r is h e))

  sorts_same : (k : Name) (r : Sort) → sort_of_name q k ≡ Some r → k ≡ n → is_text (Some r) ≡ is_text (Some s)
  sorts_same k r h e =
      let there : sort_of_name q n ≡ Some r = ap (sort_of_name q) (sym e) ∙ h in
      let same : s ≡ r = cc in
      ap (λ u. is_text (Some u)) (sym same)

  reference_other : (r : Sort) (x : ℕ) → array ≢ x → block_of r w x ≡ block_of r v x
  reference_other r x ne = reference_kept (is_text (Some s)) r array (record v { ints = js }) cells x ne

  -- the number of the block of a name is the new one, or it is as it was
  new_number : (k : Name) (r : Sort) → sort_of_name q k ≡ Some r → (number : ℕ) → block_of r w (array_number q k) ≡ Some number →
      ((k ≡ n) × (number ≡ v.made)) ⊎ ((k ≢ n) × (block_of r v (array_number q k) ≡ Some number))
  new_number k r h number e = by (same_name q k n r s h is)
    where
      by : (k ≡ n) ⊎ (k ≢ n) → ((k ≡ n) × (number ≡ v.made)) ⊎ ((k ≢ n) × (block_of r v (array_number q k) ≡ Some number))
      by (inl same) =
          let here : block_of r w (array_number q k) ≡ Some v.made = ap (λ i. block_of r w (array_number q i)) same
          ∙ reference_made (is_text (Some s)) r (sorts_same k r h same) array (record v { ints = js }) cells in
          inl (same, some_is (sym e ∙ here))
      by (inr ne) = inr (ne, sym (reference_other r (array_number q k) (other_number k r h ne)) ∙ e)

  one_name : (i k : Name) (r u : Sort) (number : ℕ) → sort_of_name q i ≡ Some r → sort_of_name q k ≡ Some u →
      ((i ≡ n) × (number ≡ v.made)) ⊎ ((i ≢ n) × (block_of r v (array_number q i) ≡ Some number)) →
      ((k ≡ n) × (number ≡ v.made)) ⊎ ((k ≢ n) × (block_of u v (array_number q k) ≡ Some number)) → i ≡ k
  one_name i k r u number h g (inl a) (inl b) = a.0 ∙ sym b.0
  one_name i k r u number h g (inl a) (inr b) = let less = kin.arrays.below k u number g b.1 in absurd (omega (arith, less, a.1))
  one_name i k r u number h g (inr a) (inl b) = let less = kin.arrays.below i r number h a.1 in absurd (omega (arith, less, b.1))
  one_name i k r u number h g (inr a) (inr b) = kin.arrays.apart i k r u number h g a.1 b.1

  below_made : (k : Name) (r : Sort) (number : ℕ) → sort_of_name q k ≡ Some r →
      ((k ≡ n) × (number ≡ v.made)) ⊎ ((k ≢ n) × (block_of r v (array_number q k) ≡ Some number)) → number < v.made + 1
  below_made k r number h (inl a) = omega (arith, a.1)
  below_made k r number h (inr b) = let less = kin.arrays.below k r number h b.1 in omega (arith, less)

  kin_made : ((x : ℕ) → x < leaving_number q → (x < 16 * array) ⊎ (16 * array + 16 ≤ x) → number_at js x ≡ number_at v.ints x) →
      (x first : Scalar) → IsOf s first → (is_text (Some s) ≡ false → is_text_scalar x ≡ false) → Grows s x →
      (bounds : List Bounds) → ((i : ℕ) → n ≡ name.Own i → s ≡ sort.Text →
      Fitted js i x (record { bounds = bounds; elements = replicate (size_of (extents_of bounds)) first })) →
      length bounds ≤ 7 → Every Narrow bounds → size_of (extents_of bounds) ≤ most_elements → BoundsAt js array 0 bounds →
      cells ≡ cells_of s (replicate (size_of (extents_of bounds)) first) →
      Kin q around (with_memory st (with_block (memory_of st.cells) n (record {
        blank = x;
        held = Some (record { bounds = bounds; elements = replicate (size_of (extents_of bounds)) first });
      }))) w
  kin_made same x first of plain grows bounds fitted rank narrow small at are = kin_array is (record {
    others = λ k r h ne. ap (held w.blocks) (reference_other r (array_number q k) (other_number k r h ne))
        ∙ old_block (block_of r v (array_number q k)) (λ j e. kin.arrays.below k r j h e);
    ints = same;
    texts = λ y below. refl;
    here = ap (held w.blocks) (reference_made (is_text (Some s)) s refl array (record v { ints = js }) cells)
        ∙ made_here v.blocks v.made cells ∙ ap Some are;
    stands = record {
      sized = length-replicate (size_of (extents_of bounds)) first;
      small = small;
      sorted = each_replicate (IsOf s) (size_of (extents_of bounds)) first of;
      rank = rank;
      narrow = narrow;
      bounds = at;
    };
    plain = plain;
    grows = grows;
    fitted = fitted;
    apart = λ i k r u number h g e f. one_name i k r u number h g (new_number i r h number e) (new_number k u g number f);
    below = λ k r number h e. below_made k r number h (new_number k r h number e);
    rest = record { pending = refl; input = refl; callers = refl };
  }) kin

-- ---- the rows

make_row : {functions : List Function} {limit turns : ℕ} {written : List ℕ} {u : Variables} {braces : List Brace}
    {r : Ran Halt NestState (Unit {0})} (k : Made) (array t : ℕ) (lines : List CodeLine) (cells : Cells) →
    zeros (number_at u.ints t) ≡ Ok cells →
    Does (spot functions limit turns written (with_new_ints array u cells) lines braces) r →
    Does (spot functions limit turns written u (flats (make_ints k array t ∷ []) ++ lines) braces) r
make_row made.New array t lines cells e d = row_gives (step_new array (atom.Int t)) [] lines e d
make_row made.Temporary array t lines cells e d = row_gives (step_temp array (atom.Int t)) [] lines e d
make_row made.Copy array t lines cells e d = row_gives (step_copy array (atom.Int t)) [] lines e d
make_row made.Mark array t lines cells e d = row_gives (step_mark array (atom.Int t)) [] lines e d

-- texts without characters, of all but a declared variable
empty_row : {functions : List Function} {limit turns : ℕ} {written : List ℕ} {u : Variables} {braces : List Brace}
    {r : Ran Halt NestState (Unit {0})} (k : Made) → is_new k ≡ false → (array t : ℕ) (lines : List CodeLine) (cells : Cells) →
    texts_of_length (number_at u.ints t) (pos 0) ≡ Ok cells →
    Does (spot functions limit turns written (with_new_texts array u cells) lines braces) r →
    Does (spot functions limit turns written u (flats (make_texts k array t ∷ []) ++ lines) braces) r
empty_row made.New h array t lines cells e d = cc
empty_row made.Temporary h array t lines cells e d = row_gives (step_temp_text array (atom.Int t)) [] lines e d
empty_row made.Copy h array t lines cells e d = row_gives (step_copy_text array (atom.Int t)) [] lines e d
empty_row made.Mark h array t lines cells e d = row_gives (step_copy_text array (atom.Int t)) [] lines e d

made_sort : (o : Option Sort) (b : Sort) → served_by o (Some b) ≡ true → (s : Sort) × (o ≡ Some s) × (serves b s ≡ true)
made_sort None b h = cc
made_sort (Some s) b h = (s, refl, h)

serves_text : (s : Sort) → serves sort.Text s ≡ true → s ≡ sort.Text
serves_text sort.Exact h = cc
serves_text sort.Int h = cc
serves_text sort.Log h = cc
serves_text sort.Text h = refl

-- only a new array is one of a declared variable
own_is_new : (k : Made) (q : Procedure) (n : Name) → may_make k q n ≡ true → is_new k ≡ false → (i : ℕ) → n ≡ name.Own i → ⊥
own_is_new made.New q n h g i e = cc
own_is_new k q n h g i e = not_own k g (ap (may_make k q) (sym e) ∙ h)
  where
    never : (b : Bool) → (b && false) ≡ true → ⊥
    never true f = cc
    never false f = cc

    not_own : (k : Made) → is_new k ≡ false → may_make k q (name.Own i) ≡ true → ⊥
    not_own made.New g' f = cc
    not_own made.Temporary g' f = never (is_some (declared_at q i)) f
    not_own made.Copy g' f = never (is_some (declared_at q i)) f
    not_own made.Mark g' f = never (is_some (declared_at q i)) f

first_empty : (k : Made) (bytes : List ℕ) → is_new k ≡ false → first_element k (scalar.Text bytes) ≡ scalar.Text []
first_empty made.New bytes h = cc
first_empty made.Temporary bytes h = refl
first_empty made.Copy bytes h = refl
first_empty made.Mark bytes h = refl

module _ (functions : List Function) (limit : ℕ) (braces : List Brace) (r : Ran Halt NestState (Unit {0})) {q : Procedure}
    {around : Around} {st : NestState} {v : Variables} (n : Name) (s : Sort) (is : sort_of_name q n ≡ Some s)
    (kin : Kin q around st v) (nests t : ℕ) (free : first_free q ≤ t) (lines : List CodeLine) (bounds : List Bounds)
    (rank : length bounds ≤ 7) (narrow : Every Narrow bounds) (small : size_of (extents_of bounds) ≤ most_elements) where
  abbrev array_of_name : ℕ
  array_of_name = array_number q n

  abbrev size : ℕ
  size = size_of (extents_of bounds)

  abbrev Goes_on : Scalar → Scalar → Type 0
  Goes_on x first = (u : Variables) → Kin q around (with_memory st (with_block (memory_of st.cells) n (record {
    blank = x;
    held = Some (record { bounds = bounds; elements = replicate size first });
  }))) u → Stays q nests t v u → DoesAt functions limit st u lines braces r

  count_is : (z : ℤ) → z ≡ int_wrap w64 (pos size) → z ≡ pos size
  count_is z e = e ∙ small_wrap size (omega (arith, small))

  wider : (x : ℕ) → (x < 16 * array_of_name) ⊎ (16 * array_of_name + 16 ≤ x) →
      (x < 16 * array_of_name) ⊎ (16 * array_of_name + 15 ≤ x)
  wider x (inl less) = inl less
  wider x (inr more) = inr (omega (arith, more))

  numbers_made : (k : Made) (b : Blank) → is_number_blank b ≡ true → serves (sort_of_blank b) s ≡ true →
      (js : List ℤ) → Moved array_of_name t v.ints js → BoundsAt js array_of_name 0 bounds →
      number_at js t ≡ int_wrap w64 (pos size) →
      Goes_on (blank_for st.cells.temps.setting b) (first_element k (blank_for st.cells.temps.setting b)) →
      DoesAt functions limit st (record v { ints = js }) (flats (make_ints k array_of_name t ∷ []) ++ lines) braces r
  numbers_made k b number serves_it js moved at count next =
      let x = blank_for st.cells.temps.setting b in
      let starts = blank_starts b number s serves_it st.cells.temps.setting in
      let first = first_is k b st.cells.temps.setting number in
      let cells = Ints (replicate size (pos 0)) in
      let below = array_below q n s is in
      let u = made_in false array_of_name (record v { ints = js }) cells in
      make_row k array_of_name t lines cells (zeros_within (number_at js t) size (count_is (number_at js t) count) small)
      (next u (subst (λ b'. Kin q around (with_memory st (with_block (memory_of st.cells) n (record {
        blank = x;
        held = Some (record { bounds = bounds; elements = replicate size (first_element k x) });
      }))) (made_in b' array_of_name (record v { ints = js }) cells)) starts.untexted
      (kin_made n s is kin js cells
      (λ y less side. moved.same y (omega (arith, less, free)) (wider y side)) x (first_element k x)
      (subst (λ y. IsOf s y) (sym first) starts.of) (λ text. starts.plain) starts.grows bounds
      (λ i own text. absurd (clash (is_text (Some s)) (ap (λ y. is_text (Some y)) text) starts.untexted)) rank narrow small at
      (sym (cells_started s size x starts) ∙ ap (λ y. cells_of s (replicate size y)) (sym first))))
      (record {
        ints = λ y less from. moved.same y less (inr (omega (arith, below, from)));
        indices = λ y less. refl;
      }))

  texts_made : (k : Made) (a : Amount) → fits_amount q a ≡ true → serves sort.Text s ≡ true → may_make k q n ≡ true →
      has_length k (blank_for st.cells.temps.setting (blank.Text a)) ≡ true →
      (js : List ℤ) → Moved array_of_name t v.ints js → BoundsAt js array_of_name 0 bounds →
      number_at js t ≡ int_wrap w64 (pos size) →
      Goes_on (blank_for st.cells.temps.setting (blank.Text a)) (first_element k (blank_for st.cells.temps.setting (blank.Text a))) →
      DoesAt functions limit st (record v { ints = js })
      (flats (length_lines q array_of_name (suc t) a ++ (make_texts k array_of_name t ∷ [])) ++ lines) braces r
  texts_made k a fits serves_it may long js moved at count next =
      let below = array_below q n s is in
      length_do array_of_name below t free kin a fits js moved (make_texts k array_of_name t ∷ []) lines braces
      (λ ks value kept. by k may long next ks value kept)
    where
      text : s ≡ sort.Text
      text = serves_text s serves_it

      of_text : (bytes : List ℕ) → IsOf s (scalar.Text bytes)
      of_text bytes = subst (λ y. IsOf y (scalar.Text bytes)) (sym text) refl

      the_kin : (k : Made) (first : Scalar) → IsOf s first → (ks : List ℤ) →
          ((x : ℕ) → x ≢ length_number array_of_name → x ≢ suc t → number_at ks x ≡ number_at js x) →
          ((i : ℕ) → n ≡ name.Own i → s ≡ sort.Text → Fitted ks i (scalar.Text (replicate (natural (amount st.cells.temps.setting a)) 32))
          (record { bounds = bounds; elements = replicate size first })) → (cells : Cells) →
          cells ≡ cells_of s (replicate size first) →
          Kin q around (with_memory st (with_block (memory_of st.cells) n (record {
            blank = scalar.Text (replicate (natural (amount st.cells.temps.setting a)) 32);
            held = Some (record { bounds = bounds; elements = replicate size first });
          }))) (made_in true array_of_name (record v { ints = ks }) cells)
      the_kin k first of ks kept fitted cells are =
          let within = array_below q n s is in
          subst (λ b'. Kin q around (with_memory st (with_block (memory_of st.cells) n (record {
            blank = scalar.Text (replicate (natural (amount st.cells.temps.setting a)) 32);
            held = Some (record { bounds = bounds; elements = replicate size first });
          }))) (made_in b' array_of_name (record v { ints = ks }) cells)) (ap (λ y. is_text (Some y)) text)
          (kin_made n s is kin ks cells
          (λ y less side. kept y (not_length y side) (omega (arith, less, free)) ∙ moved.same y (omega (arith, less, free))
          (wider y side))
          (scalar.Text (replicate (natural (amount st.cells.temps.setting a)) 32)) first of
          (λ untexted. absurd (clash (is_text (Some s)) (ap (λ y. is_text (Some y)) text) untexted))
          (record { of = of_text []; number = refl; text = refl }) bounds fitted rank narrow small
          (same_bounds js ks array_of_name 0 bounds (λ x from less. kept x (omega (arith, less)) (omega (arith, less, within, free)))
          (omega (arith, rank)) at) are)
        where
          not_length : (y : ℕ) → (y < 16 * array_of_name) ⊎ (16 * array_of_name + 16 ≤ y) → y ≢ length_number array_of_name
          not_length y (inl less) = omega (arith, less)
          not_length y (inr more) = omega (arith, more)

      stays : (ks : List ℤ) → ((x : ℕ) → x ≢ length_number array_of_name → x ≢ suc t → number_at ks x ≡ number_at js x) →
          (cells : Cells) → Stays q nests t v (made_in true array_of_name (record v { ints = ks }) cells)
      stays ks kept cells =
          let within = array_below q n s is in record {
            ints = λ y less from. kept y (omega (arith, within, from)) (omega (arith, less))
                ∙ moved.same y less (inr (omega (arith, within, from)));
            indices = λ y less. refl;
          }

      count_kept : (ks : List ℤ) → ((x : ℕ) → x ≢ length_number array_of_name → x ≢ suc t → number_at ks x ≡ number_at js x) →
          number_at ks t ≡ pos size
      count_kept ks kept =
          let within = array_below q n s is in
          kept t (omega (arith, within, free)) (omega arith) ∙ count_is (number_at js t) count

      cells_are : (bytes : List ℕ) → Texts (replicate size bytes) ≡ cells_of s (replicate size (scalar.Text bytes))
      cells_are bytes = ap Texts (sym (map_replicate text_of size (scalar.Text bytes)))
          ∙ ap (λ y. cells_of y (replicate size (scalar.Text bytes))) (sym text)

      empty : (k : Made) → is_new k ≡ false → may_make k q n ≡ true →
          Goes_on (scalar.Text (replicate (natural (amount st.cells.temps.setting a)) 32)) (first_element k (scalar.Text (replicate (natural (amount st.cells.temps.setting a)) 32))) → (ks : List ℤ) →
          ((x : ℕ) → x ≢ length_number array_of_name → x ≢ suc t → number_at ks x ≡ number_at js x) →
          DoesAt functions limit st (record v { ints = ks }) (flats (make_texts k array_of_name t ∷ []) ++ lines) braces r
      empty k other may' next' ks kept =
          let cells = Texts (replicate size []) in
          empty_row k other array_of_name t lines cells
          (texts_within (number_at ks t) (pos 0) size 0 (count_kept ks kept) refl small (omega arith))
          (subst (Goes_on (scalar.Text (replicate (natural (amount st.cells.temps.setting a)) 32))) (first_empty k (replicate (natural (amount st.cells.temps.setting a)) 32) other) next'
          (made_in true array_of_name (record v { ints = ks }) cells)
          (the_kin k (scalar.Text []) (of_text []) ks kept
          (λ i own text'. absurd (own_is_new k q n may' other i own)) cells (cells_are [])) (stays ks kept cells))

      by : (k : Made) → may_make k q n ≡ true → has_length k (scalar.Text (replicate (natural (amount st.cells.temps.setting a)) 32)) ≡ true →
          Goes_on (scalar.Text (replicate (natural (amount st.cells.temps.setting a)) 32)) (first_element k (scalar.Text (replicate (natural (amount st.cells.temps.setting a)) 32))) → (ks : List ℤ) →
          number_at ks (length_number array_of_name) ≡ pos (natural (amount st.cells.temps.setting a)) →
          ((x : ℕ) → x ≢ length_number array_of_name → x ≢ suc t → number_at ks x ≡ number_at js x) →
          DoesAt functions limit st (record v { ints = ks }) (flats (make_texts k array_of_name t ∷ []) ++ lines) braces r
      by made.New may' long' next' ks value kept =
          let bytes = replicate (natural (amount st.cells.temps.setting a)) 32 in
          let cells = Texts (replicate size bytes) in
          let count_long : length bytes ≡ (natural (amount st.cells.temps.setting a)) = length-replicate (natural (amount st.cells.temps.setting a)) 32 in
          let within : length bytes ≤ 255 = leb-true (length bytes) 255 long' in
          row_gives (step_new_text array_of_name (atom.Int t) (atom.Int (length_number array_of_name))) [] lines
          (texts_within (number_at ks t) (number_at ks (length_number array_of_name)) size (natural (amount st.cells.temps.setting a)) (count_kept ks kept) value small
          (omega (arith, within, count_long)))
          (next' (made_in true array_of_name (record v { ints = ks }) cells)
          (the_kin made.New (scalar.Text bytes) (of_text bytes) ks kept (λ i own text'. record {
            text = refl;
            length = ap (λ k'. number_at ks (length_number (array_number q k'))) (sym own) ∙ value ∙ ap pos (sym count_long);
            small = within;
            elements = each_replicate (λ y. length_of y ≡ length bytes) size (scalar.Text bytes) refl;
          }) cells (cells_are bytes)) (stays ks kept cells))
      by made.Temporary may' long' next' ks value kept = empty made.Temporary refl may' next' ks kept
      by made.Copy may' long' next' ks value kept = empty made.Copy refl may' next' ks kept
      by made.Mark may' long' next' ks value kept = empty made.Mark refl may' next' ks kept

  block_made : (k : Made) (b : Blank) → fits_blank q b ≡ true → serves (sort_of_blank b) s ≡ true → may_make k q n ≡ true →
      has_length k (blank_for st.cells.temps.setting b) ≡ true →
      (js : List ℤ) → Moved array_of_name t v.ints js → BoundsAt js array_of_name 0 bounds →
      number_at js t ≡ int_wrap w64 (pos size) →
      Goes_on (blank_for st.cells.temps.setting b) (first_element k (blank_for st.cells.temps.setting b)) →
      DoesAt functions limit st (record v { ints = js }) (flats (make_lines q k b array_of_name t) ++ lines) braces r
  block_made k blank.Int fits serves_it may long js moved at count next = numbers_made k blank.Int refl serves_it js moved at count
      next
  block_made k blank.Log fits serves_it may long js moved at count next = numbers_made k blank.Log refl serves_it js moved at count
      next
  block_made k (blank.Text a) fits serves_it may long js moved at count next = texts_made k a fits serves_it may long js moved at
      count next

-- ---- the statement

module _ (functions : List Function) (limit : ℕ) (c : Scope) (nests : ℕ) (calls : Caller) (turn : List ℕ) (depth : Option ℕ)
    (placed : Placed c nests) where
  pub make_law : (line : ℕ) (b : Block) → list_all (emits_span c.own) b.bounds ≡ true →
      fits_block c.own b ≡ true → Performs functions limit c nests calls turn depth (Make line b)
  make_law line b emits fits = record {
    does = λ t free {around} {n} {w} enough kin turned {lines} {braces} go out next.
        let q = c.own in
        let three = and_parts
        (may_make b.made q b.name && served_by (sort_of_name q b.name) (Some (sort_of_blank b.blank)) && fits_blank q b.blank)
        (fits_spans q b.name b.bounds) fits in
        let two = and_parts (may_make b.made q b.name && served_by (sort_of_name q b.name) (Some (sort_of_blank b.blank)))
        (fits_blank q b.blank) three.0 in
        let one = and_parts (may_make b.made q b.name) (served_by (sort_of_name q b.name) (Some (sort_of_blank b.blank))) two.0 in
        let spans = and_parts (has_rank q b.name (length b.bounds))
        (list_all (λ s. fits_amount q s.lower && fits_amount q s.upper) b.bounds) three.1 in
        let s = made_sort (sort_of_name q b.name) (sort_of_blank b.blank) one.1 in
        let few : length b.bounds ≤ 7 = placed.ranks b.name (length b.bounds) spans.0 in
        let array = array_number q b.name in
        let mem = memory_of n.cells in
        let st = n.cells.temps.setting in
        let x = blank_for st b.blank in
        let bounds = bounds_for st b.bounds in
        let size = size_of (extents_of bounds) in
        let v = record w { line = line } in
        let kin' = kin_line line kin in
        let result = with_block mem b.name (new_variable b.made x bounds) in
        let last = λ (done : Unit {0}). pure Next >>= go in
        let rows = bounds_lines q array t 0 b.bounds in
        let rows' = make_lines q b.made b.blank array t in
        let rank : length bounds ≤ 7 =
        omega (arith, few, length-map b.bounds (λ (y : Span). dimension (amount st y.lower) (amount st y.upper))) in
        regroup_next (changes (made_block b)) (pure Next) go n
        (changed (made_block b) last n (λ new e.
        let did = made_is (may_be_made b.made x bounds) result new e in
        let fit = and_parts (nat_le size most_elements) (has_length b.made x) did.0 in
        let small : size ≤ most_elements = leb-true size most_elements fit.0 in
        subst (λ (nm : Memory). DoesAt functions limit n w
        (flats (at_line line ∷ (rows ++ rows')) ++ lines) braces (last tt (with_memory n nm))) did.1
        (pured Next go (with_memory n result)
        (line_does line (rows ++ rows') lines
        (parts rows rows' lines
        (bounds_do array (array_below q b.name s.0 s.1) t free kin' b.bounds 0 (omega (arith, few)) spans.1 v.ints
        (record { same = λ y h g. refl })
        (flats rows' ++ lines) braces (λ js moved kept at count.
        block_made functions limit braces (go Next (with_memory n result)) b.name s.0 s.1 kin' nests t free lines bounds rank (spans_narrow b.bounds emits spans.1 kin') small b.made b.blank
        two.1 s.2 one.0 fit.1 js moved at count (λ u k stay. next (with_memory n result) u k (line_stays line stay)))))))));
  }
