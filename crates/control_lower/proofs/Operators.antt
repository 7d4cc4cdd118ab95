-- An expression's parts, and the tree that is left: the statements come to what preparing it comes to, and the tree stands for the
-- element tree.
use Rattle.std.proofs.Common.{◌≡◌, refl, subst, ℕ, List, [], ◌∷◌}
use Rattle.std.specs.Prelude.{Result, Ok, Err}
use Rattle.a95_base.specs.declared.fault.FaultKind.{FaultKind}
use Rattle.a95_base.specs.declared.scalar.Scalar.{Scalar}
use Rattle.a95_base.specs.Steps.{pure, stop, behind as goes_on, ◌>>=◌, ◌>>◌}
use Rattle.f95_unit.specs.declared.operation.UnaryOp.{UnaryOp}
use Rattle.f95_unit.specs.declared.operation.BinaryOp.{BinaryOp}
use Rattle.array_meaning.specs.Values.{Value, only}
use Rattle.array_meaning.specs.Scalars.{unary_of, binary_of}
use Rattle.array_meaning.specs.State as source
use Rattle.array_meaning.specs.State.{State, Array, Variable, no_variable}
use Rattle.array_meaning.specs.Trees as trees
use Rattle.array_meaning.specs.Control.{Next}
use Rattle.nest_tree.specs.declared.unit.Sort.{Sort}
use Rattle.nest_tree.specs.Plain.{Tree, Unary, Binary, Set}
use Rattle.nest_tree.specs.State.{NestState, Step, By, given, changes}
use Rattle.nest_tree.specs.Statements.{Caller, acts}
use Rattle.control_lower.proofs.Stands.{HasSort, kept_at, value, Stands, ok_same, err_ok}

-- ---- one operand, and two

abbrev pub one_result : (Scalar → Scalar) → Result Scalar FaultKind → Result Scalar FaultKind
one_result f (Ok x) = Ok (f x)
one_result f (Err kind) = Err kind

abbrev pub two_results : (Scalar → Scalar → Result Scalar FaultKind) → Result Scalar FaultKind → Result Scalar FaultKind
    → Result Scalar FaultKind
two_results f (Ok x) (Ok y) = f x y
two_results f (Ok x) (Err kind) = Err kind
two_results f (Err kind) other = Err kind

module _ (line : ℕ) where
  pub nest_one : (f : Scalar → Scalar) (r : Result Scalar FaultKind) (m : Step Scalar) (n : NestState) → m n ≡ given line r n
      → (m >>= (λ x. pure (f x))) n ≡ given line (one_result f r) n
  unfolding ◌>>=◌ goes_on given pure
  nest_one f (Ok x) m n h = rw h refl
  nest_one f (Err kind) m n h = rw h refl

  source_one : (f : Scalar → Scalar) (r : Result Scalar FaultKind) (m : source.Step Scalar) (p : State)
      → m p ≡ source.given line r p
      → (m >>= (λ x. pure (f x))) p ≡ source.given line (one_result f r) p
  unfolding ◌>>=◌ goes_on source.given pure stop
  source_one f (Ok x) m p h = rw h refl
  source_one f (Err kind) m p h = rw h refl

  pub nest_two : (f : Scalar → Scalar → Result Scalar FaultKind) (r q : Result Scalar FaultKind) (m l : Step Scalar) (n : NestState)
      → m n ≡ given line r n → l n ≡ given line q n
      → (m >>= (λ x. (l >>= (λ y. given line (f x y))))) n ≡ given line (two_results f r q) n
  unfolding ◌>>=◌ goes_on given pure
  nest_two f (Ok x) (Ok y) m l n h g = rw h (rw g refl)
  nest_two f (Ok x) (Err kind) m l n h g = rw h (rw g refl)
  nest_two f (Err kind) q m l n h g = rw h refl

  source_two : (f : Scalar → Scalar → Result Scalar FaultKind) (r q : Result Scalar FaultKind) (m l : source.Step Scalar)
      (p : State)
      → m p ≡ source.given line r p → l p ≡ source.given line q p
      → (m >>= (λ x. (l >>= (λ y. source.given line (f x y))))) p ≡ source.given line (two_results f r q) p
  unfolding ◌>>=◌ goes_on source.given pure stop
  source_two f (Ok x) (Ok y) m l p h g = rw h (rw g refl)
  source_two f (Ok x) (Err kind) m l p h g = rw h (rw g refl)
  source_two f (Err kind) q m l p h g = rw h refl

one_typed : (f : Scalar → Scalar) (s t : Sort) → ((x : Scalar) → HasSort s x → HasSort t (f x)) → (r : Result Scalar FaultKind)
    → ((x : Scalar) → r ≡ Ok x → HasSort s x) → (y : Scalar) → one_result f r ≡ Ok y → HasSort t y
one_typed f s t gives (Ok x) typed y h = subst (HasSort t) (ok_same (f x) y h) (gives x (typed x refl))
one_typed f s t gives (Err kind) typed y h = absurd (err_ok kind y (Err kind) refl h)

two_typed : (f : Scalar → Scalar → Result Scalar FaultKind) (s t u : Sort)
    → ((x y z : Scalar) → HasSort s x → HasSort t y → f x y ≡ Ok z → HasSort u z) → (r q : Result Scalar FaultKind)
    → ((x : Scalar) → r ≡ Ok x → HasSort s x) → ((y : Scalar) → q ≡ Ok y → HasSort t y) → (z : Scalar) → two_results f r q ≡ Ok z
    → HasSort u z
two_typed f s t u gives (Ok x) (Ok y) typed typed' z h = gives x y z (typed x refl) (typed' y refl) h
two_typed f s t u gives (Ok x) (Err kind) typed typed' z h = absurd (err_ok kind z (Err kind) refl h)
two_typed f s t u gives (Err kind) q typed typed' z h = absurd (err_ok kind z (Err kind) refl h)

-- ---- trees

module _ (constants : List Scalar) (calls : Caller) (scalls : trees.Caller) (line : ℕ) where
  abbrev pub StandsHere : (k : ℕ) (s : Sort) (n : NestState) (t : Tree) (u : trees.Tree) → Type 0
  StandsHere k s n t u = Stands constants calls scalls line k s n t u

  joined_shape : (u v : trees.Tree) → trees.shape u ≡ Ok [] → trees.shape v ≡ Ok []
      → trees.joined_shapes (trees.shape u) (trees.shape v) ≡ Ok []
  joined_shape u v h g = rw (h, g) refl

  pub stands_unary : (op : UnaryOp) (k : ℕ) (s t : Sort) (n : NestState) (x : Tree) (u : trees.Tree)
      → ((x : Scalar) → HasSort s x → HasSort t (unary_of op x)) → StandsHere k s n x u
      → StandsHere k t n (Unary op x) (trees.UnaryOf op u)
  stands_unary op k s t n x u gives st = record {
    result = one_result (unary_of op) st.result;
    nest = λ turn m l. nest_one line (unary_of op) st.result (value constants calls scalls line turn x) m (st.nest turn m l);
    source = λ i p. source_one line (unary_of op) st.result (trees.element scalls line u i) p (st.source i p);
    typed = one_typed (unary_of op) s t gives st.result st.typed;
    shape = st.shape;
  }

  pub stands_binary : (op : BinaryOp) (k : ℕ) (s t w : Sort) (n : NestState) (x y : Tree) (u v : trees.Tree)
      → ((x y z : Scalar) → HasSort s x → HasSort t y → binary_of op x y ≡ Ok z → HasSort w z)
      → StandsHere k s n x u → StandsHere k t n y v → StandsHere k w n (Binary op x y) (trees.BinaryOf op u v)
  stands_binary op k s t w n x y u v gives st st' = record {
    result = two_results (binary_of op) st.result st'.result;
    nest = λ turn m l. nest_two line (binary_of op) st.result st'.result (value constants calls scalls line turn x)
        (value constants calls scalls line turn y) m (st.nest turn m l) (st'.nest turn m l);
    source = λ i p. source_two line (binary_of op) st.result st'.result (trees.element scalls line u i)
        (trees.element scalls line v i) p (st.source i p) (st'.source i p);
    typed = two_typed (binary_of op) s t w gives st.result st'.result st.typed st'.typed;
    shape = joined_shape u v st.shape st'.shape;
  }

  -- ---- a value, wholly

  pub record IsAlone (v : Value) (x : Scalar) : Type 0 where
    pub extents : v.extents ≡ []
    pub elements : v.elements ≡ x ∷ []

  pub only_is : (v : Value) (x : Scalar) → IsAlone v x → only v ≡ x
  only_is v x h = rw (h.extents, h.elements) refl

  pub whole_ok : (u : trees.Tree) (x : Scalar) (p : State) → trees.shape u ≡ Ok []
      → trees.element scalls line u 0 p ≡ source.given line (Ok x) p
      → trees.whole scalls line u p ≡ pure (record { extents = []; like = trees.like u; elements = x ∷ [] }) p
  unfolding trees.whole trees.all_from ◌>>=◌ goes_on source.given pure
  whole_ok u x p h g = rw h (rw g refl)

  pub whole_err : (u : trees.Tree) (kind : FaultKind) (p : State) → trees.shape u ≡ Ok []
      → trees.element scalls line u 0 p ≡ source.given line (Err kind) p
      → trees.whole scalls line u p ≡ stop (source.Faults kind line) p
  unfolding trees.whole trees.all_from ◌>>=◌ goes_on source.given pure stop
  whole_err u kind p h g = rw h (rw g refl)

  pub set_ok : (k : ℕ) (t : Tree) (x : Scalar) (n : NestState) → value constants calls scalls line [] t n ≡ given line (Ok x) n
      → acts constants calls [] (Set line k t) n ≡ pure Next (kept_at n k x)
  unfolding ◌>>=◌ ◌>>◌ goes_on given changes pure
  set_ok k t x n h = rw h refl

  pub set_err : (k : ℕ) (t : Tree) (kind : FaultKind) (n : NestState)
      → value constants calls scalls line [] t n ≡ given line (Err kind) n
      → acts constants calls [] (Set line k t) n ≡ stop (By (source.Faults kind line)) n
  unfolding ◌>>=◌ ◌>>◌ goes_on given changes pure stop
  set_err k t kind n h = rw h refl
