-- The places that an expression reads. Its value depends on nothing else that the elements of variables are: on their bounds,
-- their lengths, and whether they are allocated, and on the elements at the places that it reads.
use Rattle.std.specs.Prelude.{◌≡◌, ℕ, ℤ, pos, ◌≤◌, Bool, true, false, not, ◌&&◌, nat_eq, Option, Some, None, List, [], ◌++◌, ◌∷◌}
use Rattle.std.specs.Prelude.{slice_index_or, Ok}
use Rattle.std.specs.List.{list_any}
use Rattle.a95_base.specs.declared.scalar.Scalar.{Scalar}
use Rattle.a95_base.specs.Lists.{Every}
use Rattle.f95_unit.specs.Plain.{Expr, typed, Literal, Constant, Index, Named, Brackets, Unary, Binary, Constructor, Elementwise}
use Rattle.f95_unit.specs.Plain.{Trim, Asked, Reduced, Rearranged, Called, Designator, at, Access, Whole, Subscripted, Subscripts}
use Rattle.f95_unit.specs.Plain.{no_subscript, subscript, Subscript, One, Vector, SubscriptTriplet, Bound, Absent, Given, Part}
use Rattle.f95_unit.specs.Plain.{AllOf, BytesOf, Items, no_item, value, loop, Arguments, no_argument, argument, Subject, Name, Of}
use Rattle.f95_unit.specs.Plain.{call, Program}
use Rattle.array_meaning.specs.State.{Array, Variable, no_variable, State, Step, Substring, store_all}
use Rattle.array_meaning.specs.Sections.{triplet_values}
use Rattle.array_meaning.specs.Trees.{Passed, Caller}
use Rattle.array_meaning.specs.Expressions.{procedure_at, has_no_extents, prepare, designate, bound_or, evaluate, integer}
use Rattle.array_meaning.specs.Calls.{called}
use Rattle.array_meaning.specs.Purity.{Refers, KeepsPure, IsPureFunction, TurnsAlone}

-- one or the other
abbrev pub Either : Bool → Type 0 → Type 0 → Type 0
Either true A B = A
Either false A B = B

-- what holds of each value that a step comes to, with any of the turns that are left
abbrev pub Whenever : {A : Type 0} → State → Step A → (A → Type 0) → Type 0
Whenever {A = A} s m P = (turns : ℕ) → turns ≤ s.left → (a : A) → (m (record s { left = turns })).came ≡ Ok a → P a

-- ---- the places that an expression reads, in a state with some of its turns left, are among some places of variables

module _ (unit : Program) (calls : Caller) (line : ℕ) (s : State) (among : ℕ → ℕ → Bool) where
  abbrev mutual
    pub Reads : List ℤ → Expr → Type 0
    Reads ix (typed f (Literal x)) = Unit {0}
    Reads ix (typed f (Constant n)) = Unit {0}
    Reads ix (typed f (Index i)) = Unit {0}
    -- a designator, what its subscripts read, and each place that it names
    Reads ix (typed f (Named d)) = ReadsToName ix d × Whenever s (designate unit calls line ix d)
        (λ named. Every (λ k. among named.variable k ≡ true) named.places)
    Reads ix (typed f (Brackets e)) = Reads ix e
    Reads ix (typed f (Unary op e)) = Reads ix e
    Reads ix (typed f (Binary op e g)) = Reads ix e × Reads ix g
    Reads ix (typed f (Constructor items)) = ReadsItems ix items
    Reads ix (typed f (Elementwise which es)) = ReadsArguments ix es
    Reads ix (typed f (Trim e)) = Reads ix e
    Reads ix (typed f (Asked which dim subject)) = ReadsSubject ix subject
    Reads ix (typed f (Reduced which dim es)) = ReadsArguments ix es
    Reads ix (typed f (Rearranged which dim es)) = ReadsArguments ix es
    Reads ix (typed f (Called (call p es))) = ReadsArguments ix es

    pub ReadsArguments : List ℤ → Arguments → Type 0
    ReadsArguments ix no_argument = Unit {0}
    ReadsArguments ix (argument place e es) = Reads ix e × ReadsArguments ix es

    -- an inquiry reads no element of what it asks about, but what its parts read
    pub ReadsSubject : List ℤ → Subject → Type 0
    ReadsSubject ix (Name n) = Unit {0}
    ReadsSubject ix (Of e) = ReadsForShape ix e

    pub ReadsForShape : List ℤ → Expr → Type 0
    ReadsForShape ix (typed f (Literal x)) = Unit {0}
    ReadsForShape ix (typed f (Constant n)) = Unit {0}
    ReadsForShape ix (typed f (Index i)) = Unit {0}
    ReadsForShape ix (typed f (Named d)) = ReadsToName ix d
    ReadsForShape ix (typed f (Brackets e)) = ReadsForShape ix e
    ReadsForShape ix (typed f (Unary op e)) = ReadsForShape ix e
    ReadsForShape ix (typed f (Binary op e g)) = ReadsForShape ix e × ReadsForShape ix g
    ReadsForShape ix (typed f (Constructor items)) = ReadsItems ix items
    ReadsForShape ix (typed f (Elementwise which es)) = Either (has_no_extents f.extents) (ReadsArguments ix es)
        (ReadsArgumentsForShape ix es)
    ReadsForShape ix (typed f (Trim e)) = Reads ix e
    ReadsForShape ix (typed f (Asked which dim subject)) = ReadsSubject ix subject
    ReadsForShape ix (typed f (Reduced which dim es)) = ReadsArguments ix es
    ReadsForShape ix (typed f (Rearranged which dim es)) = ReadsArguments ix es
    ReadsForShape ix (typed f (Called (call p es))) =
        Either ((procedure_at unit p).elemental && not (has_no_extents f.extents)) (ReadsArgumentsForShape ix es)
        (ReadsArguments ix es)

    pub ReadsArgumentsForShape : List ℤ → Arguments → Type 0
    ReadsArgumentsForShape ix no_argument = Unit {0}
    ReadsArgumentsForShape ix (argument place e es) = ReadsForShape ix e × ReadsArgumentsForShape ix es

    -- the subscripts of a designator, and the bounds of its substring
    pub ReadsToName : List ℤ → Designator → Type 0
    ReadsToName ix (at n access part) = ReadsAccess ix access × ReadsPart ix part

    pub ReadsAccess : List ℤ → Access → Type 0
    ReadsAccess ix Whole = Unit {0}
    ReadsAccess ix (Subscripted ss) = ReadsSubscripts ix ss

    pub ReadsSubscripts : List ℤ → Subscripts → Type 0
    ReadsSubscripts ix no_subscript = Unit {0}
    ReadsSubscripts ix (subscript s ss) = ReadsSubscript ix s × ReadsSubscripts ix ss

    pub ReadsSubscript : List ℤ → Subscript → Type 0
    ReadsSubscript ix (One e) = Reads ix e
    ReadsSubscript ix (Vector e) = Reads ix e
    ReadsSubscript ix (SubscriptTriplet first last stride) = ReadsBound ix first × ReadsBound ix last × ReadsBound ix stride

    pub ReadsBound : List ℤ → Bound → Type 0
    ReadsBound ix Absent = Unit {0}
    ReadsBound ix (Given e) = Reads ix e

    pub ReadsPart : List ℤ → Part → Type 0
    ReadsPart ix AllOf = Unit {0}
    ReadsPart ix (BytesOf first last) = ReadsBound ix first × ReadsBound ix last

    -- the values of an implied DO, for each value of its variable
    pub ReadsItems : List ℤ → Items → Type 0
    ReadsItems ix no_item = Unit {0}
    ReadsItems ix (value e more) = Reads ix e × ReadsItems ix more
    ReadsItems ix (loop body first last step more) = Reads ix first × Reads ix last × ReadsBound ix step
        × Whenever s (integer unit calls line ix first)
        (λ f. Whenever s (integer unit calls line ix last)
        (λ l. Whenever s (bound_or unit calls line ix (pos 1) step)
        (λ k. Every (λ i. ReadsItems (ix ++ i ∷ []) body) (triplet_values f l k))))
        × ReadsItems ix more

-- ---- a call that sees its actuals' values alone

-- it comes to the same whatever the variables of its caller hold, and takes turns alone
pub record SeesActualsAlone (calls : Caller) (p : ℕ) : Type 0 where
  pub sees : (line : ℕ) (actuals : List (ℕ × Passed)) (others : List Variable) (s : State)
      → calls p line actuals (record s { variables = others })
      ≡ record { came = (calls p line actuals s).came; after = record (calls p line actuals s).after { variables = others } }
  pub takes : (line : ℕ) (actuals : List (ℕ × Passed)) (s : State) → TurnsAlone s (calls p line actuals s).after

-- so does each call of a pure function
abbrev pub PureFunctionsSeeActuals : Type 0
PureFunctionsSeeActuals = (unit : Program) → KeepsPure unit → (depth p : ℕ) → IsPureFunction unit p
    → SeesActualsAlone (called unit depth) p

-- ---- variables that agree on some places

-- two arrays, or none in both: one in bounds, and in the elements at these places
abbrev pub ArraysAgree : (ℕ → Bool) → Option Array → Option Array → Type 0
ArraysAgree among None None = Unit {0}
ArraysAgree among (Some a) (Some b) = (a.bounds ≡ b.bounds) × ((k : ℕ) (d : Scalar) → among k ≡ true →
    slice_index_or a.elements k d ≡ slice_index_or b.elements k d)
ArraysAgree among held other = ⊥

pub record VariablesAgree (among : ℕ → Bool) (v w : Variable) : Type 0 where
  pub blank : v.blank ≡ w.blank
  pub held : ArraysAgree among v.held w.held

abbrev pub AllAgree : (ℕ → ℕ → Bool) → List Variable → List Variable → Type 0
AllAgree among vs ws = (n : ℕ) → VariablesAgree (among n) (slice_index_or vs n no_variable) (slice_index_or ws n no_variable)

-- ---- the laws

-- a step that comes to the same from a state with other variables, and leaves these as they are
abbrev pub SameWith : List Variable → {A : Type 0} → Step A → State → Type 0
SameWith others m s = m (record s { variables = others }) ≡ record {
  came = (m s).came;
  after = record (m s).after {
    variables =
        others;
  };
}

-- the parts of an expression, and its value, come of the elements that it reads
abbrev pub PartsComeOfReads : Type 0
PartsComeOfReads = (unit : Program) (calls : Caller) (line : ℕ) (s : State) (others : List Variable) (among : ℕ → ℕ → Bool)
    (ix : List ℤ) (e : Expr) → Refers (SeesActualsAlone calls) e → Reads unit calls line s among ix e
    → AllAgree among s.variables others → SameWith others (prepare unit calls line ix e) s

abbrev pub ValuesComeOfReads : Type 0
ValuesComeOfReads = (unit : Program) (calls : Caller) (line : ℕ) (s : State) (others : List Variable) (among : ℕ → ℕ → Bool)
    (ix : List ℤ) (e : Expr) → Refers (SeesActualsAlone calls) e → Reads unit calls line s among ix e
    → AllAgree among s.variables others → SameWith others (evaluate unit calls line ix e) s

-- the places into which a store doesn't store
abbrev pub is_spared : ℕ → List (ℕ × Scalar) → ℕ → ℕ → Bool
is_spared n stores k place = not (nat_eq k n && list_any (λ (store : ℕ × Scalar). nat_eq store.0 place) stores)

-- an expression that reads no place of a store comes to the same before and behind it, and the store does the same behind it
abbrev pub ValuesIgnoreStores : Type 0
ValuesIgnoreStores = (unit : Program) (calls : Caller) (line : ℕ) (s : State) (n : ℕ) (bytes : Substring)
    (stores : List (ℕ × Scalar)) (ix : List ℤ) (e : Expr) → Refers (SeesActualsAlone calls) e
    → Reads unit calls line s (is_spared n stores) ix e
    → evaluate unit calls line ix e (store_all n bytes stores s).after ≡ record {
      came = (evaluate unit calls line ix e s).came;
      after = (store_all n bytes stores (evaluate unit calls line ix e s).after).after;
    }
