-- Two runs of a step, from states that differ in the elements of variables alone: if they agree on what is read, both come to the
-- same, and take as many turns: one line a case.
use Rattle.std.proofs.Common.{◌≡◌, refl, sym, ap, ◌∙◌, subst, ℕ, ℤ, pos, zero, suc, ◌+ℤ◌, ◌*ℤ◌, ◌≤◌, ◌<◌, Bool, true, false, List}
use Rattle.std.proofs.Common.{[], ◌∷◌, ◌++◌, map, arith}
use Rattle.std.specs.Prelude.{Option, Some, None, is_some, slice_index_or, Result, Ok, Err}
use Rattle.std.proofs.Math.Nat.{le_refl, le_trans}
use Rattle.std.proofs.Math.IntN.{+ℤ_assoc, +ℤ_comm, suc_ℤ-*ℤ, zero-*ℤ, +ℤ_idr}
use Rattle.a95_base.specs.declared.fault.FaultKind.{FaultKind}
use Rattle.a95_base.specs.declared.scalar.Scalar.{Scalar}
use Rattle.a95_base.specs.Lists.{Every, count_to}
use Rattle.a95_base.proofs.Lists.{each_has, Member-map, Member-count_to}
use Rattle.a95_base.specs.Steps.{Ran, pure, stop, behind, ◌>>=◌, ◌>>◌}
use Rattle.f95_unit.specs.declared.operation.Inquiry.{Inquiry}
use Rattle.f95_unit.specs.declared.operation.Inquiry.TheVariants as inquiry
use Rattle.f95_unit.specs.declared.operation.Reduction.{Reduction}
use Rattle.f95_unit.specs.Plain.{Expr, typed, Literal, Constant, Index, Named, Brackets, Unary, Binary, Constructor, Elementwise}
use Rattle.f95_unit.specs.Plain.{Trim, Asked, Reduced, Rearranged, Called, Designator, at, Access, Whole, Subscripted, Subscripts}
use Rattle.f95_unit.specs.Plain.{no_subscript, subscript, Subscript, One, Vector, SubscriptTriplet, Bound, Absent, Given, Part}
use Rattle.f95_unit.specs.Plain.{AllOf, BytesOf, Items, no_item, value, loop, Arguments, no_argument, argument, Subject, Name, Of}
use Rattle.f95_unit.specs.Plain.{call, Program}
use Rattle.a95_base.specs.declared.scalar.Scalar.TheVariants as scalar
use Rattle.array_meaning.specs.Values.{Value, length_of, scalar_value}
use Rattle.array_meaning.specs.Scalars.{unary_like, binary_like, elemental_like}
use Rattle.array_meaning.specs.State.{Dimension, counted_from_one, Array, Variable, State, Halt, Step, Substring, bytes_of, unless}
use Rattle.array_meaning.specs.State.{choose, given, allocated_array, turn_from, turn, variable}
use Rattle.array_meaning.specs.Sections.{Picked, triplet_count, triplet_values, Section, section_value, placed, read_section}
use Rattle.array_meaning.specs.Reductions.{inquired}
use Rattle.array_meaning.specs.Trees.{Tree, Held, UnaryOf, BinaryOf, Each, CallEach, Trees, no_tree, tree, bracketed, Caller}
use Rattle.array_meaning.specs.Trees.{Passed, shape, shapes, joined_shapes, like, likes, element, elements, all_from, pairs_from}
use Rattle.array_meaning.specs.Trees.{whole, valued, passed, paired}
use Rattle.array_meaning.specs.Expressions.{number_of_value, rounds, gathered, asked, prepare, trees, values, actuals}
use Rattle.array_meaning.specs.Expressions.{reduction_values, answer, designate, pick, pick_each, pick_one, bound_or, part_bounds}
use Rattle.array_meaning.specs.Expressions.{gather, evaluate}
use Rattle.array_meaning.specs.Purity.{Refers, RefersArguments, RefersSubject, RefersDesignator, RefersAccess, RefersSubscripts}
use Rattle.array_meaning.specs.Purity.{RefersSubscript, RefersBound, RefersPart, RefersItems}
use Rattle.array_meaning.specs.Reads.{Either, Reads, ReadsArguments, ReadsSubject, ReadsForShape, ReadsArgumentsForShape}
use Rattle.array_meaning.specs.Reads.{ReadsToName, ReadsAccess, ReadsSubscripts, ReadsSubscript, ReadsBound, ReadsPart, ReadsItems}
use Rattle.array_meaning.specs.Reads.{SeesActualsAlone, ArraysAgree, VariablesAgree, AllAgree, PartsComeOfReads, ValuesComeOfReads}
use Rattle.array_meaning.proofs.Kept.{CallsIn, CallsInAll}
use Rattle.array_meaning.proofs.Wholeness.{Gives}
use Rattle.array_meaning.proofs.Ignored.{calls_of}

-- ---- the values of an implied DO's variable, one round after the other

abbrev AtRounds : (ℤ → Type 0) → ℕ → ℤ → ℤ → Type 0
AtRounds P zero i step = Unit {0}
AtRounds P (suc n) i step = P i × AtRounds P n (i +ℤ step) step

next_round : (i step : ℤ) (k : ℕ) → i +ℤ pos (suc k) *ℤ step ≡ (i +ℤ step) +ℤ pos k *ℤ step
next_round i step k = ap (λ z. i +ℤ z) (suc_ℤ-*ℤ (pos k) step ∙ +ℤ_comm (pos k *ℤ step) step) ∙ sym
    (+ℤ_assoc i step (pos k *ℤ step))

at_rounds : (P : ℤ → Type 0) (n : ℕ) (i step : ℤ) → ((k : ℕ) → k < n → P (i +ℤ pos k *ℤ step)) → AtRounds P n i step
at_rounds P zero i step h = tt
at_rounds P (suc n) i step h = (
  subst P (ap (λ z. i +ℤ z) (zero-*ℤ step) ∙ +ℤ_idr i) (h 0 (omega arith)),
  at_rounds P n (i +ℤ step) step (λ k below. subst P (next_round i step k) (h (suc k) (omega arith))),
)

each_round : (P : ℤ → Type 0) (first last step : ℤ) → Every P (triplet_values first last step)
    → AtRounds P (triplet_count first last step) first step
each_round P first last step h = at_rounds P (triplet_count first last step) first step
    (λ k below. each_has P (triplet_values first last step) (first +ℤ pos k *ℤ step) h
    (Member-map (λ j. first +ℤ pos j *ℤ step) (count_to (triplet_count first last step)) k
    (Member-count_to (triplet_count first last step) k below)))

-- ---- two runs

module _ (s : State) (others : List Variable) where
  abbrev pub here : ℕ → State
  here n = record s { left = n }

  abbrev pub there : ℕ → State
  there n = record s { variables = others; left = n }

abbrev pub CameTo : {A : Type 0} → (A → A → Type 0) → Result A Halt → Result A Halt → Type 0
CameTo Q (Ok a) (Ok b) = Q a b
CameTo Q (Err halt) (Err other) = halt ≡ other
CameTo Q came other = ⊥

abbrev pub Equal : {A : Type 0} → A → A → Type 0
Equal a b = a ≡ b

-- both came to values that are related, or to one halt, with as many turns left
pub record Parallel (s : State) (others : List Variable) {A : Type 0} (Q : A → A → Type 0) (n : ℕ) (one other : Ran Halt State A) :
    Type 0 where
  pub came : CameTo Q one.came other.came
  pub turns : ℕ
  pub fewer : turns ≤ n
  pub after_one : one.after ≡ here s others turns
  pub after_other : other.after ≡ there s others turns

-- with any of the turns that are left
pub record Related (s : State) (others : List Variable) {A : Type 0} (Q : A → A → Type 0) (m o : Step A) : Type 0 where
  pub related : (n : ℕ) → n ≤ s.left → Parallel s others Q n (m (here s others n)) (o (there s others n))

came_same : {A : Type 0} (came : Result A Halt) → CameTo Equal came came
came_same (Ok a) = refl
came_same (Err halt) = refl

module _ (s : State) (others : List Variable) where
  abbrev pub Alike : {A : Type 0} → (A → A → Type 0) → Step A → Step A → Type 0
  Alike Q m o = Related s others Q m o

  abbrev pub Same : {A : Type 0} → Step A → Type 0
  Same m = Related s others Equal m m

  -- ---- one step behind another

  longer : {A : Type 0} {R : A → A → Type 0} {k n : ℕ} {one other : Ran Halt State A} → k ≤ n → Parallel s others R k one other
      → Parallel s others R n one other
  longer le p = record {
    came = p.came;
    turns = p.turns;
    fewer = le_trans p.fewer le;
    after_one = p.after_one;
    after_other =
        p.after_other;
  }

  alike_behind : {A B : Type 0} (Q : A → A → Type 0) (R : B → B → Type 0) (f g : A → Step B) (came other : Result A Halt)
      (t u : State) (n k : ℕ) → CameTo Q came other → k ≤ n → n ≤ s.left → t ≡ here s others k → u ≡ there s others k
      → ((a b : A) → Q a b → came ≡ Ok a → Alike R (f a) (g b)) → Parallel s others R n (behind f came t) (behind g other u)
  unfolding behind
  alike_behind Q R f g (Ok a) (Ok b) t u n k q le most e d h =
      subst (λ x. Parallel s others R n (f a x) (g b u)) (sym e)
      (subst (λ x. Parallel s others R n (f a (here s others k)) (g b x)) (sym d)
      (longer le ((h a b q refl).related k (le_trans le most))))
  alike_behind Q R f g (Err halt) (Err other) t u n k q le most e d h =
      record { came = q; turns = k; fewer = le; after_one = e; after_other = d }
  alike_behind Q R f g (Ok a) (Err other) t u n k q le most e d h = absurd q
  alike_behind Q R f g (Err halt) (Ok b) t u n k q le most e d h = absurd q

  alike_at : {A B : Type 0} {Q : A → A → Type 0} {R : B → B → Type 0} {m o : Step A} {f g : A → Step B} → Alike Q m o →
      ((n : ℕ) → n ≤ s.left → (a b : A) → Q a b → (m (here s others n)).came ≡ Ok a → Alike R (f a) (g b)) → Alike R (m >>= f) (o
      >>= g)
  unfolding ◌>>=◌
  alike_at {Q = Q} {R = R} {m = m} {o = o} {f = f} {g = g} h i = record {
    related = λ n most. let p : Parallel s others Q n (m (here s others n)) (o (there s others n)) = h.related n most in
        alike_behind Q R f g (m (here s others n)).came (o (there s others n)).came (m (here s others n)).after
        (o (there s others n)).after n p.turns p.came p.fewer most p.after_one p.after_other (λ a b q e. i n most a b q e);
  }

  pub alike_then : {A B : Type 0} {Q : A → A → Type 0} {R : B → B → Type 0} {m o : Step A} {f g : A → Step B} → Alike Q m o →
      ((a b : A) → Q a b → Alike R (f a) (g b)) → Alike R (m >>= f) (o >>= g)
  alike_then h i = alike_at h (λ n most a b q e. i a b q)

  pub same_at : {A B : Type 0} {R : B → B → Type 0} {m o : Step A} {f g : A → Step B} → Alike Equal m o →
      ((n : ℕ) → n ≤ s.left → (a : A) → (m (here s others n)).came ≡ Ok a → Alike R (f a) (g a)) → Alike R (m >>= f) (o >>= g)
  same_at {R = R} {f = f} {g = g} h i = alike_at h (λ n most a b q e. subst (λ x. Alike R (f a) (g x)) q (i n most a e))

  pub same_then : {A B : Type 0} {R : B → B → Type 0} {m o : Step A} {f g : A → Step B} → Alike Equal m o →
      ((a : A) → Alike R (f a) (g a)) → Alike R (m >>= f) (o >>= g)
  same_then h i = same_at h (λ n most a e. i a)

  same_knowing : {A B : Type 0} (P : A → Type 0) {R : B → B → Type 0} {m o : Step A} {f g : A → Step B} → Alike Equal m o
      → Gives P m → ((a : A) → P a → Alike R (f a) (g a)) → Alike R (m >>= f) (o >>= g)
  same_knowing P h p i = same_at h (λ n most a e. i a (p.gives (here s others n) a e))

  pub same_next : {A B : Type 0} {R : B → B → Type 0} {m o : Step A} {n p : Step B} → Alike Equal m o → Alike R n p
      → Alike R (m >> n) (o >> p)
  unfolding ◌>>◌ ◌>>=◌
  same_next {R = R} {n = n} {p = p} h i = record { related = (same_then {R = R} {f = λ a. n} {g = λ a. p} h (λ a. i)).related }

  alike_choose : {A : Type 0} {R : A → A → Type 0} (b : Bool) {m n o p : Step A} → Alike R m o → Alike R n p
      → Alike R (choose b m n) (choose b o p)
  unfolding choose
  alike_choose true h i = record { related = h.related }
  alike_choose false h i = record { related = i.related }

  alike_either : {A : Type 0} {R : A → A → Type 0} (b : Bool) {P Q : Type 0} {m n o p : Step A} → Either b P Q → (P → Alike R m o) →
      (Q → Alike R n p) → Alike R (choose b m n) (choose b o p)
  unfolding choose
  alike_either true h i j = record { related = (i h).related }
  alike_either false h i j = record { related = (j h).related }

  same_as : {A : Type 0} {m o : Step A} → m ≡ o → Same m → Alike Equal m o
  same_as {m = m} e h = subst (λ x. Alike Equal m x) e h

  -- ---- single steps

  alike_pure : {A : Type 0} (R : A → A → Type 0) (a b : A) → R a b → Alike R (pure a) (pure b)
  unfolding pure
  alike_pure R a b h = record {
    related = λ n most. record {
      came = h;
      turns = n;
      fewer = le_refl n;
      after_one = refl;
      after_other
          = refl;
    };
  }

  same_pure : {A : Type 0} (a : A) → Same (pure a)
  same_pure a = alike_pure Equal a a refl

  same_unless : (b : Bool) (kind : FaultKind) (line : ℕ) → Same (unless b kind line)
  unfolding unless pure stop
  same_unless true kind line = record {
    related = λ n most. record {
      came = refl;
      turns = n;
      fewer = le_refl n;
      after_one = refl;
      after_other = refl;
    };
  }
  same_unless false kind line = record {
    related = λ n most. record {
      came = refl;
      turns = n;
      fewer = le_refl n;
      after_one = refl;
      after_other = refl;
    };
  }

  same_given : {A : Type 0} (line : ℕ) (r : Result A FaultKind) → Same (given line r)
  unfolding given pure stop
  same_given line (Ok a) = record {
    related = λ n most. record {
      came = refl;
      turns = n;
      fewer = le_refl n;
      after_one = refl;
      after_other = refl;
    };
  }
  same_given line (Err kind) = record {
    related = λ n most. record {
      came = refl;
      turns = n;
      fewer = le_refl n;
      after_one = refl;
      after_other = refl;
    };
  }

  abbrev Agree : (ℕ → Bool) → Array → Array → Type 0
  Agree among a b = ArraysAgree among (Some a) (Some b)

  alike_allocated : (among : ℕ → Bool) (line : ℕ) (held other : Option Array) → ArraysAgree among held other
      → Alike (Agree among) (allocated_array line held) (allocated_array line other)
  unfolding allocated_array pure stop
  alike_allocated among line (Some a) (Some b) h = record {
    related = λ n most. record {
      came = h;
      turns = n;
      fewer = le_refl n;
      after_one = refl;
      after_other = refl;
    };
  }
  alike_allocated among line None None h = record {
    related = λ n most. record {
      came = refl;
      turns = n;
      fewer = le_refl n;
      after_one = refl;
      after_other = refl;
    };
  }
  alike_allocated among line None (Some b) h = absurd h
  alike_allocated among line (Some a) None h = absurd h

  turn_same : (n : ℕ) → Parallel s others Equal n (turn_from n (here s others n)) (turn_from n (there s others n))
  unfolding turn_from pure stop
  turn_same zero = record { came = refl; turns = zero; fewer = le_refl zero; after_one = refl; after_other = refl }
  turn_same (suc n) = record { came = refl; turns = n; fewer = omega arith; after_one = refl; after_other = refl }

  same_turn : Same turn
  unfolding turn
  same_turn = record { related = λ n most. turn_same n }

  same_call : (calls : Caller) (p : ℕ) → SeesActualsAlone calls p → (line : ℕ) (vs : List (ℕ × Passed)) → Same (calls p line vs)
  same_call calls p h line vs = record {
    related = λ n most. subst (λ r. Parallel s others Equal n (calls p line vs (here s others n)) r)
        (sym (h.sees line vs others (here s others n)))
        (record {
          came = came_same (calls p line vs (here s others n)).came;
          turns = (calls p line vs (here s others n)).after.left;
          fewer = (h.takes line vs (here s others n)).1;
          after_one = (h.takes line vs (here s others n)).0;
          after_other = ap (λ (x : State). record x { variables = others }) (h.takes line vs (here s others n)).0;
        });
  }

  -- ---- element trees

  module _ (calls : Caller) (line : ℕ) where
    abbrev pub Sees : ℕ → Type 0
    Sees = SeesActualsAlone calls

    mutual
      pub same_element : (t : Tree) (k : ℕ) → CallsIn Sees t → Same (element calls line t k)
      same_element (Held v section) k g = same_pure _
      same_element (UnaryOf op t) k g = same_then (same_element t k g) (λ x. same_pure _)
      same_element (BinaryOf op t u) k g = same_then (same_element t k g.0) (λ x. same_then (same_element u k g.1) (λ y. same_given
          _ _))
      same_element (Each which ts) k g = same_then (same_elements ts k g) (λ xs. same_given _ _)
      same_element (CallEach p x ts) k g = same_then (same_elements ts k g.1)
          (λ xs. same_then (same_call calls p g.0 _ _) (λ v. same_pure _))

      pub same_elements : (ts : Trees) (k : ℕ) → CallsInAll Sees ts → Same (elements calls line ts k)
      same_elements no_tree k g = same_pure _
      same_elements (tree place t ts) k g = same_then (same_element t k g.0)
          (λ x. same_then (same_elements ts k g.1) (λ xs. same_pure _))

    pub same_all : (k n : ℕ) (t : Tree) → CallsIn Sees t → Same (all_from calls line k n t)
    unfolding all_from
    same_all k zero t g = same_pure _
    same_all k (suc n) t g = same_then (same_element t k g) (λ x. same_then (same_all (suc k) n t g) (λ xs. same_pure _))

    same_pairs : (k n : ℕ) (t u : Tree) → CallsIn Sees t → CallsIn Sees u → Same (pairs_from calls line k n t u)
    unfolding pairs_from
    same_pairs k zero t u g h = same_pure _
    same_pairs k (suc n) t u g h = same_then (same_element t k g)
        (λ x. same_then (same_element u k h) (λ y. same_then (same_pairs (suc k) n t u g h) (λ more. same_pure _)))

    pub same_whole : (t : Tree) → CallsIn Sees t → Same (whole calls line t)
    unfolding whole
    same_whole t g = same_then (same_given _ _) (λ extents. same_then (same_all _ _ t g) (λ xs. same_pure _))

    same_valued : {m : Step Tree} → Same m → Gives (CallsIn Sees) m → Same (valued calls line m)
    same_valued h g = same_knowing (CallsIn Sees) h g (λ t p. same_whole t p)

    same_passed : {m : Step Tree} → Same m → Gives (CallsIn Sees) m → Same (passed calls line m)
    same_passed h g = same_knowing (CallsIn Sees) h g (λ t p. same_then (same_whole t p) (λ v. same_pure _))

    same_paired : (place other : ℕ) {m n : Step Tree} → Same m → Gives (CallsIn Sees) m → Same n → Gives (CallsIn Sees) n
        → Same (paired calls line place other m n)
    same_paired place other h g i j = same_knowing (CallsIn Sees) h g
        (λ t p. same_knowing (CallsIn Sees) i j
        (λ u q. same_then (same_given _ _) (λ extents. same_then (same_pairs _ _ t u p q) (λ both. same_pure _))))

  -- ---- steps on integers, sections, rounds

  same_number : {m : Step Value} → Same m → Same (number_of_value m)
  same_number h = same_then h (λ v. same_pure _)

  same_placed : (line n : ℕ) (v : Variable) (a : Array) (picked : List Picked) (part : Option (ℤ × ℤ)) → Same (placed line n v a
      picked part)
  same_placed line n v a picked part = same_next (same_unless _ _ _)
      (same_next (same_unless _ _ _) (same_next (same_unless _ _ _) (same_pure _)))

  same_rounds : (P : ℤ → Type 0) (n : ℕ) (i step : ℤ) {body : ℤ → List Scalar → Step (List Scalar)} → AtRounds P n i step →
      ((j : ℤ) → P j → (xs : List Scalar) → Same (body j xs)) → (xs : List Scalar) → Same (rounds n i step body xs)
  unfolding rounds
  same_rounds P zero i step r h xs = same_pure _
  same_rounds P (suc n) i step r h xs = same_next same_turn
      (same_then (h i r.0 xs) (λ ys. same_rounds P n (i +ℤ step) step r.1 h ys))

  same_gathered : (line : ℕ) (xs : List Scalar) (v : Value) → Same (gathered line xs v)
  same_gathered line xs v = same_next (same_unless _ _ _) (same_pure _)

  allocation_agrees : (among : ℕ → Bool) (held other : Option Array) → ArraysAgree among held other → is_some held ≡ is_some other
  allocation_agrees among (Some a) (Some b) h = refl
  allocation_agrees among None None h = refl
  allocation_agrees among None (Some b) h = absurd h
  allocation_agrees among (Some a) None h = absurd h

  alike_asked : (among : ℕ → Bool) (line : ℕ) (which : Inquiry) (dim : Option ℕ) (v w : Variable) → VariablesAgree among v w
      → Alike Equal (asked line which dim v) (asked line which dim w)
  alike_asked among line inquiry.Allocated dim v w h = alike_pure Equal _ _
      (ap (λ b. scalar_value (scalar.Log b)) (allocation_agrees among v.held w.held h.held))
  alike_asked among line which dim v w h = alike_then (alike_allocated among line v.held w.held h.held)
      (λ a b r. alike_pure Equal _ _ (λ i. inquired which dim (r.0 i) (h.blank i)))

  -- ---- elements at places on which two arrays agree

  elements_agree : (among : ℕ → Bool) (bytes : Substring) (xs ys : List Scalar) (x y : Scalar) → x ≡ y
      → ((k : ℕ) (d : Scalar) → among k ≡ true → slice_index_or xs k d ≡ slice_index_or ys k d) → (ks : List ℕ)
      → Every (λ k. among k ≡ true) ks
      → map (λ k. bytes_of bytes (slice_index_or xs k x)) ks ≡ map (λ k. bytes_of bytes (slice_index_or ys k y)) ks
  elements_agree among bytes xs ys x y e g [] h = refl
  elements_agree among bytes xs ys x y e g (k ∷ ks) h =
      let first : slice_index_or xs k x ≡ slice_index_or ys k y = g k x h.0 ∙ ap (slice_index_or ys k) e in
      λ i. bytes_of bytes (first i) ∷ elements_agree among bytes xs ys x y e g ks h.1 i

  sections_agree : (among : ℕ → Bool) (v w : Variable) (a b : Array) (named : Section) → v.blank ≡ w.blank → Agree among a b
      → Every (λ k. among k ≡ true) named.places → section_value v a named ≡ section_value w b named
  sections_agree among v w a b named e r h = λ i. record {
    extents = named.extents;
    like = bytes_of named.bytes (e i);
    elements = elements_agree among named.bytes a.elements b.elements v.blank w.blank e r.1 named.places h i;
  }

  -- ---- values and trees of which the shape, the kind and the length are the same

  abbrev ValuesFit : Value → Value → Type 0
  ValuesFit v w = (v.extents ≡ w.extents) × (v.like ≡ w.like)

  abbrev pub Fit : Tree → Tree → Type 0
  Fit t u = (shape t ≡ shape u) × (like t ≡ like u)

  abbrev AllFit : Trees → Trees → Type 0
  AllFit ts us = (shapes ts ≡ shapes us) × (likes ts ≡ likes us)

  bracketed_shape : (t : Tree) → shape (bracketed t) ≡ shape t
  bracketed_shape (Held v section) = refl
  bracketed_shape (UnaryOf op t) = refl
  bracketed_shape (BinaryOf op t u) = refl
  bracketed_shape (Each which ts) = refl
  bracketed_shape (CallEach p like ts) = refl

  bracketed_like : (t : Tree) → like (bracketed t) ≡ like t
  bracketed_like (Held v section) = refl
  bracketed_like (UnaryOf op t) = refl
  bracketed_like (BinaryOf op t u) = refl
  bracketed_like (Each which ts) = refl
  bracketed_like (CallEach p like ts) = refl

  fits : {t u : Tree} → t ≡ u → Fit t u
  fits e = (ap shape e, ap like e)

  -- ---- parts

  module _ (among : ℕ → ℕ → Bool) (agree : AllAgree among s.variables others) (unit : Program) (calls : Caller) (line : ℕ) where
    abbrev pub Seen : ℕ → Type 0
    Seen = SeesActualsAlone calls

    calls_in : (ix : List ℤ) (e : Expr) → Refers Seen e → Gives (CallsIn Seen) (prepare unit calls line ix e)
    calls_in ix e g = calls_of Seen unit calls line ix e g

    alike_variable : (n : ℕ) → Alike (VariablesAgree (among n)) (variable n) (variable n)
    unfolding variable pure
    alike_variable n = record {
      related = λ k most. record { came = agree n; turns = k; fewer = le_refl k; after_one = refl; after_other = refl };
    }

    same_read_section : (named : Section) → Every (λ k. among named.variable k ≡ true) named.places → Same (read_section line named)
    same_read_section named h = alike_then (alike_variable named.variable)
        (λ v w q. alike_then (alike_allocated (among named.variable) line v.held w.held q.held)
        (λ a b r. alike_pure Equal _ _ (sections_agree (among named.variable) v w a b named q.blank r h)))

    fitting_read_section : (named : Section) → Alike ValuesFit (read_section line named) (read_section line named)
    fitting_read_section named = alike_then (alike_variable named.variable)
        (λ v w q. alike_then (alike_allocated (among named.variable) line v.held w.held q.held)
        (λ a b r. alike_pure ValuesFit _ _ (refl, ap (bytes_of named.bytes) q.blank)))

    -- what a designator names comes of the bounds and the length
    abbrev named_by : List ℤ → ℕ → Access → Part → List Dimension → Scalar → Step Section
    named_by ix n access part bounds blank = pick unit calls line ix bounds access
        >>= (λ picked. part_bounds unit calls line ix (length_of blank) part
        >>= (λ sub. placed line n (record { blank = blank; held = None }) (record { bounds = bounds; elements = [] }) picked sub))

    mutual
      pub same_prepare : (ix : List ℤ) (e : Expr) → Reads unit calls line s among ix e → Refers Seen e → Same (prepare unit calls
          line ix e)
      same_prepare ix (typed f (Literal x)) h g = same_pure _
      same_prepare ix (typed f (Constant n)) h g = same_pure _
      same_prepare ix (typed f (Index k)) h g = same_pure _
      same_prepare ix (typed f (Named d)) h g = same_at (same_designate ix d h.0 g)
          (λ n most named e. same_then (same_read_section named (h.1 n most named e)) (λ v. same_pure _))
      same_prepare ix (typed f (Brackets e)) h g = same_then (same_prepare ix e h g) (λ t. same_pure _)
      same_prepare ix (typed f (Unary op e)) h g = same_then (same_prepare ix e h g) (λ t. same_pure _)
      same_prepare ix (typed f (Binary op e b)) h g = same_then (same_prepare ix e h.0 g.0)
          (λ t. same_then (same_prepare ix b h.1 g.1) (λ u. same_pure _))
      same_prepare ix (typed f (Constructor items)) h g = same_then (same_gather ix items [] h g) (λ xs. same_pure _)
      same_prepare ix (typed f (Elementwise which es)) h g = alike_choose _
          (same_then (same_values ix es h g) (λ vs. same_then (same_given _ _) (λ x. same_pure _)))
          (same_then (same_trees ix es h g) (λ ts. same_pure _))
      same_prepare ix (typed f (Trim e)) h g = same_then (same_valued calls line (same_prepare ix e h g) (calls_in ix e g))
          (λ v. same_pure _)
      same_prepare ix (typed f (Asked which dim subject)) h g = same_then (same_answer ix which dim subject h g) (λ v. same_pure _)
      same_prepare ix (typed f (Reduced which dim es)) h g = same_then (same_reduction_values ix which es h g)
          (λ vs. same_then (same_given _ _) (λ v. same_pure _))
      same_prepare ix (typed f (Rearranged which dim es)) h g = same_then (same_values ix es h g)
          (λ vs. same_then (same_given _ _) (λ v. same_pure _))
      same_prepare ix (typed f (Called (call p es))) h g = alike_choose _
          (same_then (same_trees ix es h g.1) (λ ts. same_pure _))
          (same_then (same_actuals ix es h g.1) (λ vs. same_then (same_call calls p g.0 _ _) (λ v. same_pure _)))

      pub same_trees : (ix : List ℤ) (es : Arguments) → ReadsArguments unit calls line s among ix es → RefersArguments Seen es
          → Same (trees unit calls line ix es)
      same_trees ix no_argument h g = same_pure _
      same_trees ix (argument place e es) h g = same_then (same_prepare ix e h.0 g.0)
          (λ t. same_then (same_trees ix es h.1 g.1) (λ ts. same_pure _))

      pub same_values : (ix : List ℤ) (es : Arguments) → ReadsArguments unit calls line s among ix es → RefersArguments Seen es
          → Same (values unit calls line ix es)
      same_values ix no_argument h g = same_pure _
      same_values ix (argument place e es) h g = same_then (same_valued calls line (same_prepare ix e h.0 g.0) (calls_in ix e g.0))
          (λ v. same_then (same_values ix es h.1 g.1) (λ vs. same_pure _))

      same_actuals : (ix : List ℤ) (es : Arguments) → ReadsArguments unit calls line s among ix es → RefersArguments Seen es
          → Same (actuals unit calls line ix es)
      same_actuals ix no_argument h g = same_pure _
      same_actuals ix (argument place e es) h g = same_then (same_passed calls line (same_prepare ix e h.0 g.0) (calls_in ix e g.0))
          (λ v. same_then (same_actuals ix es h.1 g.1) (λ vs. same_pure _))

      same_reduction_values : (ix : List ℤ) (which : Reduction) (es : Arguments) → ReadsArguments unit calls line s among ix es
          → RefersArguments Seen es → Same (reduction_values unit calls line ix which es)
      same_reduction_values ix which no_argument h g = same_pure _
      same_reduction_values ix which (argument place e no_argument) h g = same_then
          (same_valued calls line (same_prepare ix e h.0 g.0) (calls_in ix e g.0)) (λ v. same_pure _)
      same_reduction_values ix which (argument place e (argument other f more)) h g = alike_choose _
          (same_paired calls line place other (same_prepare ix e h.0 g.0) (calls_in ix e g.0) (same_prepare ix f h.1.0 g.1.0)
          (calls_in ix f g.1.0))
          (same_then (same_valued calls line (same_prepare ix e h.0 g.0) (calls_in ix e g.0))
          (λ v. same_then (same_valued calls line (same_prepare ix f h.1.0 g.1.0) (calls_in ix f g.1.0)) (λ w. same_pure _)))

      same_answer : (ix : List ℤ) (which : Inquiry) (dim : Option ℕ) (subject : Subject) → ReadsSubject unit calls line s among ix
          subject
          → RefersSubject Seen subject → Same (answer unit calls line ix which dim subject)
      same_answer ix which dim (Name n) h g = alike_then (alike_variable n) (λ v w q. alike_asked (among n) line which dim v w q)
      same_answer ix which dim (Of e) h g = alike_then (fitting_prepare ix e h g)
          (λ t u q. same_then (same_as (ap (given line) q.0) (same_given _ _))
          (λ extents. alike_pure Equal _ _ (ap (inquired which dim (counted_from_one extents)) q.1)))

      pub same_designate : (ix : List ℤ) (d : Designator) → ReadsToName unit calls line s among ix d → RefersDesignator Seen d
          → Same (designate unit calls line ix d)
      same_designate ix (at n access part) h g = alike_then (alike_variable n)
          (λ v w q. alike_then (alike_allocated (among n) line v.held w.held q.held)
          (λ a b r. let e : named_by ix n access part a.bounds v.blank ≡ named_by ix n access part b.bounds w.blank = (λ i.
          named_by ix n access part (r.0 i) (q.blank i)) in same_as e
          (same_then (same_pick ix _ access h.0 g.0) (λ picked. same_then (same_part_bounds ix _ part h.1 g.1)
          (λ sub. same_placed line n (record { blank = v.blank; held = None }) (record { bounds = a.bounds; elements = [] }) picked
          sub)))))

      same_pick : (ix : List ℤ) (bounds : List Dimension) (access : Access) → ReadsAccess unit calls line s among ix access
          → RefersAccess Seen access → Same (pick unit calls line ix bounds access)
      same_pick ix bounds Whole h g = same_pure _
      same_pick ix bounds (Subscripted ss) h g = same_pick_each ix bounds ss h g

      same_pick_each : (ix : List ℤ) (bounds : List Dimension) (ss : Subscripts) → ReadsSubscripts unit calls line s among ix ss
          → RefersSubscripts Seen ss → Same (pick_each unit calls line ix bounds ss)
      same_pick_each ix bounds no_subscript h g = same_pure _
      same_pick_each ix [] (subscript s ss) h g = same_pure _
      same_pick_each ix (d ∷ bounds) (subscript s ss) h g = same_then (same_pick_one ix d s h.0 g.0)
          (λ picked. same_then (same_pick_each ix bounds ss h.1 g.1) (λ more. same_pure _))

      same_pick_one : (ix : List ℤ) (d : Dimension) (one : Subscript) → ReadsSubscript unit calls line s among ix one
          → RefersSubscript Seen one → Same (pick_one unit calls line ix d one)
      same_pick_one ix d (One e) h g = same_then
          (same_number (same_valued calls line (same_prepare ix e h g) (calls_in ix e g))) (λ i. same_pure _)
      same_pick_one ix d (Vector e) h g = same_then (same_valued calls line (same_prepare ix e h g) (calls_in ix e g)) (λ v.
          same_pure _)
      same_pick_one ix d (SubscriptTriplet first last stride) h g = same_then (same_bound_or ix _ first h.0 g.0)
          (λ f. same_then (same_bound_or ix _ last h.1 g.1) (λ l. same_then (same_bound_or ix _ stride h.2 g.2) (λ k. same_pure _)))

      same_bound_or : (ix : List ℤ) (absent : ℤ) (b : Bound) → ReadsBound unit calls line s among ix b → RefersBound Seen b
          → Same (bound_or unit calls line ix absent b)
      same_bound_or ix absent Absent h g = same_pure _
      same_bound_or ix absent (Given e) h g = same_number (same_valued calls line (same_prepare ix e h g) (calls_in ix e g))

      same_part_bounds : (ix : List ℤ) (len : ℕ) (part : Part) → ReadsPart unit calls line s among ix part → RefersPart Seen part
          → Same (part_bounds unit calls line ix len part)
      same_part_bounds ix len AllOf h g = same_pure _
      same_part_bounds ix len (BytesOf first last) h g = same_then (same_bound_or ix _ first h.0 g.0)
          (λ f. same_then (same_bound_or ix _ last h.1 g.1) (λ l. same_pure _))

      pub same_gather : (ix : List ℤ) (items : Items) (xs : List Scalar) → ReadsItems unit calls line s among ix items →
          RefersItems Seen items
          → Same (gather unit calls line ix items xs)
      same_gather ix no_item xs h g = same_pure _
      same_gather ix (value e more) xs h g = same_then (same_valued calls line (same_prepare ix e h.0 g.0) (calls_in ix e g.0))
          (λ v. same_then (same_gathered line xs v) (λ ys. same_gather ix more ys h.1 g.1))
      same_gather ix (loop body first last step more) xs h g = same_at
          (same_number (same_valued calls line (same_prepare ix first h.0 g.1) (calls_in ix first g.1)))
          (λ n a f u. same_at (same_number (same_valued calls line (same_prepare ix last h.1 g.2) (calls_in ix last g.2)))
          (λ m b l v. same_at (same_bound_or ix _ step h.2 g.3)
          (λ o c k w. same_next (same_unless _ _ _)
          (same_then (same_rounds (λ i. ReadsItems unit calls line s among (ix ++ i ∷ []) body) _ f k
          (each_round (λ i. ReadsItems unit calls line s among (ix ++ i ∷ []) body) f l k (h.3 n a f u m b l v o c k w))
          (λ i r zs. same_gather (ix ++ i ∷ []) body zs r g.0) xs)
          (λ ys. same_gather ix more ys h.4 g.4)))))

      -- of an expression that an inquiry asks about, the shape, the kind and the length
      pub fitting_prepare : (ix : List ℤ) (e : Expr) → ReadsForShape unit calls line s among ix e → Refers Seen e
          → Alike Fit (prepare unit calls line ix e) (prepare unit calls line ix e)
      fitting_prepare ix (typed f (Literal x)) h g = alike_pure Fit _ _ (refl, refl)
      fitting_prepare ix (typed f (Constant n)) h g = alike_pure Fit _ _ (refl, refl)
      fitting_prepare ix (typed f (Index k)) h g = alike_pure Fit _ _ (refl, refl)
      fitting_prepare ix (typed f (Named d)) h g = same_then (same_designate ix d h g)
          (λ named. alike_then (fitting_read_section named) (λ v w q. alike_pure Fit _ _ (ap (λ x. Ok x) q.0, q.1)))
      fitting_prepare ix (typed f (Brackets e)) h g = alike_then (fitting_prepare ix e h g)
          (λ t u q. alike_pure Fit _ _ (
            bracketed_shape t ∙ q.0 ∙ sym (bracketed_shape u),
            bracketed_like t ∙ q.1 ∙ sym
                (bracketed_like u),
          ))
      fitting_prepare ix (typed f (Unary op e)) h g = alike_then (fitting_prepare ix e h g)
          (λ t u q. alike_pure Fit _ _ (q.0, ap (unary_like op) q.1))
      fitting_prepare ix (typed f (Binary op e b)) h g = alike_then (fitting_prepare ix e h.0 g.0)
          (λ t u q. alike_then (fitting_prepare ix b h.1 g.1)
          (λ x y r. alike_pure Fit _ _ ((λ i. joined_shapes (q.0 i) (r.0 i)), (λ i. binary_like op (q.1 i) (r.1 i)))))
      fitting_prepare ix (typed f (Constructor items)) h g = same_then (same_gather ix items [] h g)
          (λ xs. alike_pure Fit _ _ (refl, refl))
      fitting_prepare ix (typed f (Elementwise which es)) h g = alike_either _ h
          (λ j. same_then (same_values ix es j g) (λ vs. same_then (same_given _ _) (λ x. alike_pure Fit _ _ (refl, refl))))
          (λ j. alike_then (fitting_trees ix es j g) (λ ts us q. alike_pure Fit _ _ (q.0, ap (elemental_like which) q.1)))
      fitting_prepare ix (typed f (Trim e)) h g = same_then (same_valued calls line (same_prepare ix e h g) (calls_in ix e g))
          (λ v. alike_pure Fit _ _ (refl, refl))
      fitting_prepare ix (typed f (Asked which dim subject)) h g = same_then (same_answer ix which dim subject h g)
          (λ v. alike_pure Fit _ _ (refl, refl))
      fitting_prepare ix (typed f (Reduced which dim es)) h g = same_then (same_reduction_values ix which es h g)
          (λ vs. same_then (same_given _ _) (λ v. alike_pure Fit _ _ (refl, refl)))
      fitting_prepare ix (typed f (Rearranged which dim es)) h g = same_then (same_values ix es h g)
          (λ vs. same_then (same_given _ _) (λ v. alike_pure Fit _ _ (refl, refl)))
      fitting_prepare ix (typed f (Called (call p es))) h g = alike_either _ h
          (λ j. alike_then (fitting_trees ix es j g.1) (λ ts us q. alike_pure Fit _ _ (q.0, refl)))
          (λ j. same_then (same_actuals ix es j g.1)
          (λ vs. same_then (same_call calls p g.0 _ _) (λ v. alike_pure Fit _ _ (refl, refl))))

      fitting_trees : (ix : List ℤ) (es : Arguments) → ReadsArgumentsForShape unit calls line s among ix es
          → RefersArguments Seen es → Alike AllFit (trees unit calls line ix es) (trees unit calls line ix es)
      fitting_trees ix no_argument h g = alike_pure AllFit _ _ (refl, refl)
      fitting_trees ix (argument place e es) h g = alike_then (fitting_prepare ix e h.0 g.0)
          (λ t u q. alike_then (fitting_trees ix es h.1 g.1)
          (λ ts us r. alike_pure AllFit _ _ ((λ i. joined_shapes (q.0 i) (r.0 i)), (λ i. (place, q.1 i) ∷ r.1 i))))

came_of : {A : Type 0} (came other : Result A Halt) → CameTo Equal came other → came ≡ other
came_of (Ok a) (Ok b) h = ap (λ x. Ok x) h
came_of (Err halt) (Err other) h = ap (λ x. Err x) h
came_of (Ok a) (Err other) h = absurd h
came_of (Err halt) (Ok b) h = absurd h

-- two runs that came to equal values, as one equation
same_with : {A : Type 0} (s : State) (others : List Variable) (n : ℕ) (one other : Ran Halt State A) → Parallel s others Equal n
    one other
    → other ≡ record { came = one.came; after = record one.after { variables = others } }
same_with s others n one other p =
    let after : other.after ≡ record one.after { variables = others } = p.after_other ∙ ap
    (λ (x : State). record x { variables = others }) (sym p.after_one) in
    let came : one.came ≡ other.came = came_of one.came other.came p.came in
    λ i. record { came = sym came i; after = after i }

pub evaluates_alike : (unit : Program) (calls : Caller) (line : ℕ) (s : State) (others : List Variable) (among : ℕ → ℕ → Bool)
    (ix : List ℤ) (e : Expr) → Refers (SeesActualsAlone calls) e → Reads unit calls line s among ix e
    → AllAgree among s.variables others → Parallel s others Equal s.left (evaluate unit calls line ix e s)
    (evaluate unit calls line ix e (record s { variables = others }))
evaluates_alike unit calls line s others among ix e g h agree =
    (same_valued s others calls line (same_prepare s others among agree unit calls line ix e h g)
    (calls_in s others among agree unit calls line ix e g)).related s.left (le_refl s.left)

pub values_come_of_reads : ValuesComeOfReads
values_come_of_reads unit calls line s others among ix e g h agree = same_with s others s.left _ _
    (evaluates_alike unit calls line s others among ix e g h agree)

pub parts_come_of_reads : PartsComeOfReads
parts_come_of_reads unit calls line s others among ix e g h agree = same_with s others s.left _ _
    ((same_prepare s others among agree unit calls line ix e h g).related s.left (le_refl s.left))
