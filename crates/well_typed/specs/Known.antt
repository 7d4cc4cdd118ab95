-- What the source alone tells of the parts of a typed unit: values of constant expressions, extents of sections and constructors,
-- lengths of substrings.
use Rattle.std.specs.Prelude.{ℕ, ℤ, pos, ◌+◌, Bool, if◌then◌else◌, List, [], ◌∷◌, ◌++◌, length, map, fold, Option, Some, None}
use Rattle.std.specs.Prelude.{slice_get}
use Rattle.std.specs.Ordering.{int_eq}
use Rattle.a95_base.specs.declared.scalar.Scalar.{Scalar}
use Rattle.a95_base.specs.declared.scalar.Scalar.TheVariants as scalar
use Rattle.a95_base.specs.declared.scalar.Kind.{Kind}
use Rattle.a95_base.specs.declared.scalar.Kind.TheVariants as kind
use Rattle.array_meaning.specs.Sections.{triplet_count}
use Rattle.constant_operators.specs.declared.value.Worth.{Worth}
use Rattle.constant_operators.specs.declared.value.Worth.TheVariants.{Is, Unknown}
use Rattle.constant_operators.specs.Operators.{worth_of_one, worth_of_two, signed_value, operated, valued_as}
use Rattle.names_types.specs.Constants.{Seen, elemental_worth}
use Rattle.names_types.specs.Rules.{integer_in, extent_between, times}
use Rattle.f95_unit.specs.declared.facts.Facts.{Facts}
use Rattle.well_typed.specs.declared.known.Dim.{Dim}
use Rattle.well_typed.specs.declared.known.Variable.{Variable}
use Rattle.f95_unit.specs.Plain.{Expr, typed, Node, Literal, Constant, Index, Named, Brackets, Unary, Binary, Constructor}
use Rattle.f95_unit.specs.Plain.{Elementwise, Trim, Asked, Reduced, Rearranged, Called, Access, Whole, Subscripted, Subscripts}
use Rattle.f95_unit.specs.Plain.{no_subscript, subscript, Subscript, One, Vector, SubscriptTriplet, Bound, Absent, Given, Part}
use Rattle.f95_unit.specs.Plain.{AllOf, BytesOf, Items, no_item, value, loop, Arguments, no_argument, argument}
use Rattle.well_typed.specs.Shapes.{Extents, facts, each}
use Rattle.well_typed.specs.Operations.{sign_of, operator_of, intrinsic_of}

abbrev pub facts_of : Expr → Facts
facts_of (typed f node) = f

abbrev pub extents_of : Expr → Extents
extents_of e = (facts_of e).extents

abbrev pub scalar_facts : Scalar → Facts
scalar_facts (scalar.Int z) = facts kind.Int None []
scalar_facts (scalar.Log b) = facts kind.Log None []
scalar_facts (scalar.Text bytes) = facts kind.Text (Some (length bytes)) []

-- ---- variables and procedures

abbrev pub dim : Option ℤ → Option ℤ → Dim
dim lower upper = record { lower = lower; upper = upper }

abbrev pub declared_extents : List Dim → Extents
declared_extents dims = map (λ (d : Dim). extent_between d.lower d.upper) dims

abbrev pub variable_facts : Variable → Facts
variable_facts v = facts v.kind v.length (declared_extents v.dims)

-- the number of values of a triplet whose bounds and stride are known; a stride of 0 makes none known
abbrev pub count_between : Option ℤ → Option ℤ → Option ℤ → Option ℕ
count_between (Some f) (Some l) (Some s) = if int_eq s (pos 0) then None else Some (triplet_count f l s)
count_between f l s = None

abbrev pub plus : Option ℕ → Option ℕ → Option ℕ
plus None n = None
plus (Some m) None = None
plus (Some m) (Some n) = Some (m + n)

-- the number of elements, where all extents are known
abbrev pub size_known : Extents → Option ℕ
size_known extents = fold times (Some 1) extents

abbrev pub worth_at : Option Scalar → Worth
worth_at None = Unknown
worth_at (Some x) = Is x

module _ (constants : List Scalar) where
  -- ---- constant expressions: literals, named constants, operators, elemental intrinsics

  abbrev mutual
    pub worth_of : Expr → Worth
    worth_of (typed f node) = node_worth node

    pub node_worth : Node → Worth
    node_worth (Literal x) = Is x
    node_worth (Constant n) = worth_at (slice_get constants n)
    node_worth (Index k) = Unknown
    node_worth (Named d) = Unknown
    node_worth (Brackets e) = worth_of e
    node_worth (Unary op e) = worth_of_one (signed_value (sign_of op)) (worth_of e)
    node_worth (Binary op e g) = worth_of_two (operated (operator_of op)) (worth_of e) (worth_of g)
    node_worth (Constructor items) = Unknown
    node_worth (Elementwise which es) = elemental_worth (intrinsic_of which) (seen_in es)
    node_worth (Trim e) = Unknown
    node_worth (Asked which d subject) = Unknown
    node_worth (Reduced which d es) = Unknown
    node_worth (Rearranged which d es) = Unknown
    node_worth (Called c) = Unknown

    pub seen_in : Arguments → List Seen
    seen_in no_argument = []
    seen_in (argument place e more) = (place, valued_as (each (facts_of e)) (worth_of e)) ∷ seen_in more

  abbrev pub integer_known : Expr → Option ℤ
  integer_known e = integer_in (worth_of e)

  -- a bound, and what stands for it where it is left out
  abbrev pub bound_known : Option ℤ → Bound → Option ℤ
  bound_known left_out Absent = left_out
  bound_known left_out (Given e) = integer_known e

  -- ---- designators: a bound that a triplet leaves out is the declared one

  abbrev pub triplet_extent : Dim → (first last stride : Bound) → Option ℕ
  triplet_extent d f l s = count_between (bound_known d.lower f) (bound_known d.upper l) (bound_known (Some (pos 1)) s)

  abbrev pub picked_extents : Dim → Subscript → Extents
  picked_extents d (One e) = []
  picked_extents d (Vector e) = extents_of e
  picked_extents d (SubscriptTriplet f l s) = triplet_extent d f l s ∷ []

  abbrev pub section_extents : List Dim → Subscripts → Extents
  section_extents [] ss = []
  section_extents (d ∷ dims) no_subscript = []
  section_extents (d ∷ dims) (subscript s more) = picked_extents d s ++ section_extents dims more

  abbrev pub access_extents : List Dim → Access → Extents
  access_extents dims Whole = declared_extents dims
  access_extents dims (Subscripted ss) = section_extents dims ss

  abbrev pub integer_of_length : Option ℕ → Option ℤ
  integer_of_length None = None
  integer_of_length (Some n) = Some (pos n)

  abbrev pub cut_length : Option ℕ → (first last : Bound) → Option ℕ
  cut_length n f l = extent_between (bound_known (Some (pos 1)) f) (bound_known (integer_of_length n) l)

  abbrev pub part_length : Option ℕ → Part → Option ℕ
  part_length n AllOf = n
  part_length n (BytesOf f l) = cut_length n f l

  abbrev pub designator_facts : Variable → Access → Part → Facts
  designator_facts v access part = facts v.kind (part_length v.length part) (access_extents v.dims access)

  -- ---- constructors

  -- the number of rounds of an implied DO, and of all values, where they are known
  abbrev pub rounds : (first last : Expr) (step : Bound) → Option ℕ
  rounds f l s = count_between (integer_known f) (integer_known l) (bound_known (Some (pos 1)) s)

  abbrev pub count_of : Items → Option ℕ
  count_of no_item = Some 0
  count_of (value e more) = plus (size_known (extents_of e)) (count_of more)
  count_of (loop body f l s more) = plus (times (rounds f l s) (count_of body)) (count_of more)

  -- what is known of each scalar value, where there is no implied DO
  abbrev pub entry_of : Expr → Extents → List (Option ℤ)
  entry_of e [] = integer_known e ∷ []
  entry_of e (n ∷ extents) = []

  abbrev pub entries_of : Items → List (Option ℤ)
  entries_of no_item = []
  entries_of (value e more) = entry_of e (extents_of e) ++ entries_of more
  entries_of (loop body f l s more) = []

  abbrev pub node_entries : Node → List (Option ℤ)
  node_entries (Constructor items) = entries_of items
  node_entries other = []

  abbrev pub known_entries : Expr → List (Option ℤ)
  known_entries (typed f node) = node_entries node

-- what is known of each value of a constructor
abbrev pub values_facts : Items → List Facts
values_facts no_item = []
values_facts (value e more) = facts_of e ∷ values_facts more
values_facts (loop body f l s more) = values_facts body ++ values_facts more

abbrev pub first_facts : List Facts → Option Facts
first_facts [] = None
first_facts (f ∷ more) = Some f

abbrev pub first_or : Option Facts → Option Facts → Option Facts
first_or None o = o
first_or (Some f) o = Some f

-- of no values the kind is INTEGER
abbrev pub vector_of : Option Facts → Option ℕ → Facts
vector_of None n = facts kind.Int None (n ∷ [])
vector_of (Some f) n = facts f.kind f.length (n ∷ [])

abbrev pub vector_like : List Facts → Option ℕ → Facts
vector_like fs n = vector_of (first_facts fs) n

abbrev pub constructor_facts : List Scalar → Items → Facts
constructor_facts constants items = vector_like (values_facts items) (count_of constants items)
