-- What variables may change while they stay those of a state.
use Rattle.std.proofs.Common.{◌≡◌, ◌≢◌, ◌⊎◌, inl, inr, ℕ, suc, ◌+◌, ◌*◌, ◌<◌, ◌≤◌, true, false, List, [], ◌∷◌, Option, Some, None, refl, sym, ap, ◌∙◌, subst, arith, ℤ, pos, length}
use Rattle.std.specs.Prelude.{slice_get, nat_eq}
use Rattle.std.proofs.lemmas.Bool.Decides.{nat_tests}
use Rattle.array_meaning.specs.State.{Dimension as Bounds, Array, Variable}
use Rattle.a95_base.specs.declared.scalar.Scalar.{Scalar}
use Rattle.nest_tree.specs.declared.access.Name.{Name}
use Rattle.nest_tree.specs.declared.access.Name.TheVariants as name
use Rattle.nest_tree.specs.declared.unit.Sort.{Sort}
use Rattle.nest_tree.specs.declared.unit.Sort.TheVariants as sort
use Rattle.nest_tree.specs.Plain.{Procedure}
use Rattle.nest_tree.specs.State.{Memory, memory_of, NestState, with_memory, with_written, block_in, set_at, with_kept}
use Rattle.loop_tree.specs.State.{Block}
use Rattle.loop_tree.specs.Values.{number_at, text_at, block_at}
use Rattle.loop_laws.specs.At.{Variables, with_int, with_text, with_index}
use Rattle.loop_laws.proofs.Numbered.{with_at_other}
use Rattle.nest_emit.specs.Numbers.{array_number, lower_number, extent_number, length_number, leaving_number, first_free, scalar_number, loop_number}
use Rattle.nest_emit.specs.Kin.{is_text_scalar, held, references, block_of, BoundsAt, StandsIf, FittedIf, GrowsIf, Arrays, Around, Kin, AtTurn, Keeps, Stays, Shows, cells_held, SameArrays, SameFor, SameButScalar}
use Rattle.nest_emit.proofs.Values.{shows_as, scalar_below, array_below}

-- ---- bounds

pub same_bounds : (ints new : List ℤ) (array dim : ℕ) (bounds : List Bounds) →
    ((x : ℕ) → 16 * array ≤ x → x < 16 * array + 15 → number_at new x ≡ number_at ints x) → dim + length bounds ≤ 7 →
    BoundsAt ints array dim bounds → BoundsAt new array dim bounds
same_bounds ints new array dim [] same few b = tt
same_bounds ints new array dim (d ∷ bounds) same few b = (
  same (lower_number array dim) (omega arith) (omega (arith, few)) ∙ b.0,
  same (extent_number array dim) (omega arith) (omega (arith, few)) ∙ b.1,
  same_bounds ints new array (suc dim) bounds same (omega (arith, few)) b.2,
)

pub same_stands : (s : Sort) (ints new : List ℤ) (array : ℕ) (o : Option Array) →
    ((x : ℕ) → 16 * array ≤ x → x < 16 * array + 16 → number_at new x ≡ number_at ints x) → StandsIf s ints array o →
    StandsIf s new array o
same_stands s ints new array None same st = tt
same_stands s ints new array (Some a) same st = record {
  sized = st.sized;
  small = st.small;
  sorted = st.sorted;
  rank = st.rank;
  narrow = st.narrow;
  bounds = same_bounds ints new array 0 a.bounds (λ x from below. same x from (omega (arith, below))) (omega (arith, st.rank)) st.bounds;
}

pub same_fitted : (ints new : List ℤ) (array : ℕ) (blank : Scalar) (o : Option Array) →
    number_at new (length_number array) ≡ number_at ints (length_number array) → FittedIf ints array blank o →
    FittedIf new array blank o
same_fitted ints new array blank None same f = tt
same_fitted ints new array blank (Some a) same f = record {
  text = f.text;
  length = same ∙ f.length;
  small = f.small;
  elements = f.elements;
}

-- ---- a state's variables

pub same_arrays : {q : Procedure} {m : Memory} {v w : Variables} → SameArrays q v w → Arrays q m v → Arrays q m w
same_arrays {q} {m} {v} {w} same a = record {
  many = a.many;
  plain = a.plain;
  seen = λ n s h. ap (λ (bs : List Block). held bs (block_of s w (array_number q n))) same.blocks
      ∙ ap (held v.blocks) (one n s) ∙ a.seen n s h;
  whole = λ n s h. same_stands s v.ints w.ints (array_number q n) (block_in m n).held
      (λ x from below. same.ints x (let within = array_below q n s h in omega (arith, within, below))) (a.whole n s h);
  fitted = λ i h. same_fitted v.ints w.ints i (block_in m (name.Own i)).blank (block_in m (name.Own i)).held
      (same.ints (length_number i) (let within = array_below q (name.Own i) sort.Text h in omega (arith, within))) (a.fitted i h);
  grows = a.grows;
  apart = λ n k s r number h g e f. a.apart n k s r number h g (sym (one n s) ∙ e) (sym (one k r) ∙ f);
  below = λ n s number h e. subst (λ made. number < made) (sym same.made) (a.below n s number h (sym (one n s) ∙ e));
}
  where
    one : (n : Name) (s : Sort) → block_of s w (array_number q n) ≡ block_of s v (array_number q n)
    one n s = ap (λ (rs : List (Option ℕ)). block_at (references s rs w.text_blocks) (array_number q n)) same.int_blocks
        ∙ ap (λ (rs : List (Option ℕ)). block_at (references s v.int_blocks rs) (array_number q n)) same.text_blocks

for_arrays : {q : Procedure} {v w : Variables} → SameFor q v w → SameArrays q v w
for_arrays {q} same = record {
  ints = λ x below. same.ints x (omega (arith, below));
  int_blocks = same.int_blocks;
  text_blocks = same.text_blocks;
  blocks = same.blocks;
  made = same.made;
}

pub same_kin : {q : Procedure} {around : Around} {n : NestState} {v w : Variables} → SameFor q v w → Kin q around n v →
    Kin q around n w
same_kin {q} {around} {n} {v} {w} same k = record {
  scalars = λ i s h. let within = scalar_below q i s h in
      shows_as (same.ints (scalar_number q i) within) (same.texts (scalar_number q i) within) (k.scalars i s h);
  arrays = same_arrays (for_arrays same) k.arrays;
  pending = same.others.pending ∙ k.pending;
  input = same.others.input ∙ k.input;
  callers = same.others.callers ∙ k.callers;
  few = k.few;
  budget = k.budget;
}

-- ---- a variable that is free

pub kin_int : {q : Procedure} {around : Around} {n : NestState} {v : Variables} (t : ℕ) (z : ℤ) → leaving_number q ≤ t →
    Kin q around n v →
    Kin q around n (with_int v t z)
kin_int {v = v} t z free k = same_kin (record {
  ints = λ x below. let ne : t ≢ x = omega (arith, below, free) in with_at_other (pos 0) v.ints t x z ne;
  texts = λ x below. refl;
  int_blocks = refl;
  text_blocks = refl;
  blocks = refl;
  made = refl;
  others = record { pending = refl; input = refl; callers = refl };
}) k

pub kin_text : {q : Procedure} {around : Around} {n : NestState} {v : Variables} (t : ℕ) (bytes : List ℕ) → first_free q ≤ t →
    Kin q around n v →
    Kin q around n (with_text v t bytes)
kin_text {v = v} t bytes free k = same_kin (record {
  ints = λ x below. refl;
  texts = λ x below. let ne : t ≢ x = omega (arith, below, free) in with_at_other [] v.texts t x bytes ne;
  int_blocks = refl;
  text_blocks = refl;
  blocks = refl;
  made = refl;
  others = record { pending = refl; input = refl; callers = refl };
}) k

pub kin_line : {q : Procedure} {around : Around} {n : NestState} {v : Variables} (line : ℕ) → Kin q around n v →
    Kin q around n (record v { line = line })
kin_line line k = same_kin (record {
  ints = λ x below. refl;
  texts = λ x below. refl;
  int_blocks = refl;
  text_blocks = refl;
  blocks = refl;
  made = refl;
  others = record { pending = refl; input = refl; callers = refl };
}) k

pub kin_index : {q : Procedure} {around : Around} {n : NestState} {v : Variables} (i : ℕ) (z : ℤ) → Kin q around n v →
    Kin q around n (with_index v i z)
kin_index i z k = same_kin (record {
  ints = λ x below. refl;
  texts = λ x below. refl;
  int_blocks = refl;
  text_blocks = refl;
  blocks = refl;
  made = refl;
  others = record { pending = refl; input = refl; callers = refl };
}) k

-- ---- a scalar of the lowering

kept_block : (m : Memory) (k : ℕ) (x : Scalar) (n : Name) → block_in (with_kept m k x) n ≡ block_in m n
kept_block m k x (name.Own i) = refl
kept_block m k x (name.Temp i) = refl

kept_arrays : {q : Procedure} {m : Memory} {v : Variables} (k : ℕ) (x : Scalar) → Arrays q m v → Arrays q (with_kept m k x) v
kept_arrays {q} {m} {v} k x a = record {
  many = a.many;
  plain = λ n s h g. subst (λ (b : Variable). is_text_scalar b.blank ≡ false) (sym (kept_block m k x n)) (a.plain n s h g);
  seen = λ n s h. a.seen n s h ∙ ap (λ (b : Variable). cells_held s b.held) (sym (kept_block m k x n));
  whole = λ n s h. subst (λ (b : Variable). StandsIf s v.ints (array_number q n) b.held) (sym (kept_block m k x n))
      (a.whole n s h);
  fitted = a.fitted;
  grows = λ n s h. subst (λ (b : Variable). GrowsIf s b.blank b.held) (sym (kept_block m k x n)) (a.grows n s h);
  apart = a.apart;
  below = a.below;
}

but_arrays : {q : Procedure} {k : ℕ} {v w : Variables} → SameButScalar q k v w → SameArrays q v w
but_arrays {q} {k} same = record {
  ints = λ x below. same.ints x (omega (arith, below));
  int_blocks = same.int_blocks;
  text_blocks = same.text_blocks;
  blocks = same.blocks;
  made = same.made;
}

pub set_at_here : {A : Type 0} (f : ℕ → A) (k : ℕ) (x : A) (i : ℕ) → i ≡ k → set_at f k x i ≡ x
set_at_here f k x i e = let same : nat_eq i k ≡ true = grind (arith, nat_tests, e) in rw same refl

pub set_at_other : {A : Type 0} (f : ℕ → A) (k : ℕ) (x : A) (i : ℕ) → i ≢ k → set_at f k x i ≡ f i
set_at_other f k x i e = let other : nat_eq i k ≡ false = grind (arith, nat_tests, e) in rw other refl

pub kin_kept : {q : Procedure} {around : Around} {n : NestState} {v w : Variables} (k : ℕ) (r : Sort) (x : Scalar) →
    slice_get q.scalars k ≡ Some r → SameButScalar q k v w →
    Shows r (number_at w.ints (scalar_number q k)) (text_at w.texts (scalar_number q k)) x → Kin q around n v →
    Kin q around (with_memory n (with_kept (memory_of n.cells) k x)) w
kin_kept {q} {around} {n} {v} {w} k r x is same shown kin = record {
  scalars = λ i s h. by i s h (grind arith);
  arrays = same_arrays (but_arrays same) (kept_arrays k x kin.arrays);
  pending = same.others.pending ∙ kin.pending;
  input = same.others.input ∙ kin.input;
  callers = same.others.callers ∙ kin.callers;
  few = kin.few;
  budget = kin.budget;
}
  where
    by : (i : ℕ) (s : Sort) → slice_get q.scalars i ≡ Some s → (i ≡ k) ⊎ (i ≢ k) →
        Shows s (number_at w.ints (scalar_number q i)) (text_at w.texts (scalar_number q i))
        (set_at n.cells.temps.setting.kept k x i)
    by i s h (inl e) =
        let there : slice_get q.scalars i ≡ Some r = ap (λ j. slice_get q.scalars j) e ∙ is in
        let one : s ≡ r = cc in
        subst (λ y. Shows s (number_at w.ints (scalar_number q i)) (text_at w.texts (scalar_number q i)) y)
        (sym (set_at_here n.cells.temps.setting.kept k x i e))
        (subst (λ j. Shows s (number_at w.ints (scalar_number q j)) (text_at w.texts (scalar_number q j)) x) (sym e)
        (subst (λ u. Shows u (number_at w.ints (scalar_number q k)) (text_at w.texts (scalar_number q k)) x) (sym one) shown))
    by i s h (inr ne) =
        let apart : scalar_number q i ≢ scalar_number q k = omega (arith, ne) in
        subst (λ y. Shows s (number_at w.ints (scalar_number q i)) (text_at w.texts (scalar_number q i)) y)
        (sym (set_at_other n.cells.temps.setting.kept k x i ne))
        (shows_as (same.ints (scalar_number q i) apart) (same.texts (scalar_number q i) apart) (kin.scalars i s h))

pub but_int : (q : Procedure) (k : ℕ) (v : Variables) (z : ℤ) → SameButScalar q k v (with_int v (scalar_number q k) z)
but_int q k v z = record {
  ints = λ x ne. with_at_other (pos 0) v.ints (scalar_number q k) x z (λ e. ne (sym e));
  texts = λ x ne. refl;
  int_blocks = refl;
  text_blocks = refl;
  blocks = refl;
  made = refl;
  others = record { pending = refl; input = refl; callers = refl };
}

pub but_text : (q : Procedure) (k : ℕ) (v : Variables) (bytes : List ℕ) →
    SameButScalar q k v (with_text v (scalar_number q k) bytes)
but_text q k v bytes = record {
  ints = λ x ne. refl;
  texts = λ x ne. with_at_other [] v.texts (scalar_number q k) x bytes (λ e. ne (sym e));
  int_blocks = refl;
  text_blocks = refl;
  blocks = refl;
  made = refl;
  others = record { pending = refl; input = refl; callers = refl };
}

-- ---- records of the output, and the budget

pub kin_pending : {q : Procedure} {around : Around} {n : NestState} {v : Variables} (new : List Scalar) → Kin q around n v →
    Kin q around (record n { pending = new }) (record v { pending = new })
kin_pending new k = record {
  scalars = k.scalars;
  arrays = same_arrays (record { ints = λ x h. refl; int_blocks = refl; text_blocks = refl; blocks = refl; made = refl }) k.arrays;
  pending = refl;
  input = k.input;
  callers = k.callers;
  few = k.few;
  budget = k.budget;
}

pub kin_written : {q : Procedure} {around : Around} {n : NestState} {v : Variables} (bytes : List ℕ) → Kin q around n v →
    Kin q around (record n { cells = with_written n.cells bytes }) v
kin_written bytes k = record {
  scalars = k.scalars;
  arrays = k.arrays;
  pending = k.pending;
  input = k.input;
  callers = k.callers;
  few = k.few;
  budget = k.budget;
}

-- an entry, or a turn, within the same or another budget
pub kin_counted : {q : Procedure} {around other : Around} {n : NestState} {v : Variables} (left entries : ℕ) → left ≤ other.most →
    other.limit ≤ left + entries → Kin q around n v →
    Kin q other (record n { cells = record n.cells { plain = record n.cells.plain { left = left } }; entries = entries }) v
kin_counted left entries few budget k = record {
  scalars = k.scalars;
  arrays = k.arrays;
  pending = k.pending;
  input = k.input;
  callers = k.callers;
  few = few;
  budget = budget;
}

pub kin_around : {q : Procedure} {around other : Around} {n : NestState} {v : Variables} → n.cells.plain.left ≤ other.most →
    other.limit ≤ n.cells.plain.left + n.entries → Kin q around n v → Kin q other n v
kin_around few budget k = record {
  scalars = k.scalars;
  arrays = k.arrays;
  pending = k.pending;
  input = k.input;
  callers = k.callers;
  few = few;
  budget = budget;
}

-- ---- what trees and statements keep

pub keeps_all : (t : ℕ) (v : Variables) → Keeps t v v
keeps_all t v = record { ints = λ x h. refl; texts = λ x h. refl; indices = refl; line = refl }

pub keeps_then : {t : ℕ} {v w u : Variables} → Keeps t v w → Keeps t w u → Keeps t v u
keeps_then a b = record {
  ints = λ x h. b.ints x h ∙ a.ints x h;
  texts = λ x h. b.texts x h ∙ a.texts x h;
  indices = b.indices ∙ a.indices;
  line = b.line ∙ a.line;
}

pub keeps_less : {t r : ℕ} {v w : Variables} → t ≤ r → Keeps r v w → Keeps t v w
keeps_less {t} {r} less k = record {
  ints = λ x h. k.ints x (omega (arith, less, h));
  texts = λ x h. k.texts x (omega (arith, less, h));
  indices = k.indices;
  line = k.line;
}

pub keeps_int : (t : ℕ) (v : Variables) (z : ℤ) → Keeps t v (with_int v t z)
keeps_int t v z = record {
  ints = λ x h. let ne : t ≢ x = omega (arith, h) in with_at_other (pos 0) v.ints t x z ne;
  texts = λ x h. refl;
  indices = refl;
  line = refl;
}

pub keeps_text : (t : ℕ) (v : Variables) (bytes : List ℕ) → Keeps t v (with_text v t bytes)
keeps_text t v bytes = record {
  ints = λ x h. refl;
  texts = λ x h. let ne : t ≢ x = omega (arith, h) in with_at_other [] v.texts t x bytes ne;
  indices = refl;
  line = refl;
}

pub turn_kept : {nests loops : ℕ} {turn : List ℕ} {v w : Variables} → w.indices ≡ v.indices → AtTurn nests loops turn v →
    AtTurn nests loops turn w
turn_kept {nests} {loops} {turn} {v} {w} same a = record {
  small = a.small;
  each = λ loop first last. ap (λ (is : List ℤ). number_at is (loop_number nests loop)) same ∙ a.each loop first last;
}

pub stays_all : (q : Procedure) (nests t : ℕ) (v : Variables) → Stays q nests t v v
stays_all q nests t v = record { ints = λ x h g. refl; indices = λ x h. refl }

pub stays_then : {q : Procedure} {nests t : ℕ} {v w u : Variables} → Stays q nests t v w → Stays q nests t w u →
    Stays q nests t v u
stays_then a b = record { ints = λ x h g. b.ints x h g ∙ a.ints x h g; indices = λ x h. b.indices x h ∙ a.indices x h }

pub stays_kept : {q : Procedure} {nests t : ℕ} {v w : Variables} → Keeps t v w → Stays q nests t v w
stays_kept k = record { ints = λ x h g. k.ints x h; indices = λ x h. ap (λ (is : List ℤ). number_at is x) k.indices }

pub stays_less : {q : Procedure} {nests t r : ℕ} {v w : Variables} → t ≤ r → Stays q nests r v w → Stays q nests t v w
stays_less less s = record { ints = λ x h g. s.ints x (omega (arith, less, h)) g; indices = s.indices }
