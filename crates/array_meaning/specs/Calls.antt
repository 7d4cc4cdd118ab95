-- Procedure calls: the test for actuals that overlap, the depth, a turn, the callee's declarations, its statements, and the
-- values of OUT and INOUT dummies back into the places that their actuals named.
use Rattle.std.specs.Prelude.{ℕ, ℤ, pos, zero, suc, ◌+ℤ◌, ◌-ℤ◌, Bool, true, false, not, ◌&&◌, ◌||◌, nat_eq, nat_le, if◌then◌else◌}
use Rattle.std.specs.Prelude.{Option, Some, None, List, [], ◌∷◌, map, zip, slice_index_or}
use Rattle.std.specs.List.{list_all, list_any}
use Rattle.a95_base.specs.declared.fault.FaultKind.TheVariants as fault
use Rattle.a95_base.specs.declared.scalar.Scalar.{Scalar}
use Rattle.a95_base.specs.Steps.{pure, ◌>>=◌, ◌>>◌}
use Rattle.a95_base.specs.Limits.{most_elements}
use Rattle.f95_unit.specs.declared.unit.DeclaredType.{DeclaredType}
use Rattle.f95_unit.specs.declared.unit.DeclaredType.TheVariants as declared
use Rattle.f95_unit.specs.declared.unit.Length.TheVariants as long
use Rattle.f95_unit.specs.declared.unit.Role.{Role}
use Rattle.f95_unit.specs.declared.unit.Role.TheVariants as role
use Rattle.f95_unit.specs.declared.unit.Intent.TheVariants as intent
use Rattle.f95_unit.specs.Plain.{Expr, at, Whole, AllOf, Bound, Bounds, Scalars, Explicit, Assumed, Entity, Procedure, Assign}
use Rattle.f95_unit.specs.Plain.{Program}
use Rattle.array_meaning.specs.Values.{Value, nothing, length_of, blank_like, scalar_value, size_of, is_shape}
use Rattle.array_meaning.specs.State.{Dimension, dimension, extents_of, counted_from_one, Array, Variable, no_variable, Step}
use Rattle.array_meaning.specs.State.{unless, fault_at, turn, variable, set_variable, fresh, store_all, inside}
use Rattle.array_meaning.specs.Sections.{Section}
use Rattle.array_meaning.specs.Trees.{Caller, Passed, passed_value}
use Rattle.array_meaning.specs.Expressions.{facts_of, blank_of_type, procedure_at, bound_or}
use Rattle.array_meaning.specs.Assignments.{assigned}
use Rattle.array_meaning.specs.Control.{dimensions, all_act}

abbrev pub Actuals : Type 0
Actuals = List (ℕ × Passed)

abbrev pub passed_at : Actuals → ℕ → Passed
passed_at [] place = passed_value (scalar_value nothing)
passed_at (a ∷ more) place = if nat_eq a.0 place then a.1 else passed_at more place

-- ---- overlap

abbrev pub is_modified : Role → ℕ → Bool
is_modified role.Own place = false
is_modified (role.Dummy k intent.In) place = false
is_modified (role.Dummy k other) place = nat_eq k place

abbrev pub modifies : List Entity → ℕ → Bool
modifies entities place = list_any (λ e. is_modified e.role place) entities

abbrev pub shares_place : List ℕ → List ℕ → Bool
shares_place ks js = list_any (λ k. list_any (nat_eq k) js) ks

-- two designators of one variable that a dummy may stand for, and an element that both name
abbrev pub overlap : Option Section → Option Section → Bool
overlap (Some s) (Some t) = s.addressed && t.addressed && nat_eq s.variable t.variable && shares_place s.places t.places
overlap s t = false

abbrev pub is_apart : List Entity → (ℕ × Passed) → (ℕ × Passed) → Bool
is_apart entities a b = not ((modifies entities a.0 || modifies entities b.0) && overlap a.1.section b.1.section)

abbrev pub all_apart : List Entity → Actuals → Bool
all_apart entities [] = true
all_apart entities (a ∷ more) = list_all (is_apart entities a) more && all_apart entities more

-- ---- declarations

-- a dummy starts with its actual's value, also one of INTENT(OUT); a scalar with what its type starts with; other arrays come
-- with their declarations
abbrev pub start_of : Actuals → Role → DeclaredType → Bounds → Variable
start_of actuals (role.Dummy place i) of bounds =
    record {
      blank = blank_like (passed_at actuals place).value.like;
      held = Some (record {
        bounds = counted_from_one (passed_at actuals place).value.extents;
        elements =
            (passed_at actuals place).value.elements;
      });
    }
start_of actuals role.Own of Scalars = fresh (blank_of_type of) []
start_of actuals role.Own of bounds = record { blank = blank_of_type of; held = None }

abbrev pub variables_at_start : Actuals → List Entity → List Variable
variables_at_start actuals entities = map (λ e. start_of actuals e.role e.of e.bounds) entities

-- the length of a dummy is the actual's, where it isn't `*`
abbrev pub length_fits : DeclaredType → Scalar → Bool
length_fits (declared.Character (long.Fixed n)) like = nat_eq n (length_of like)
length_fits of like = true

-- other bounds, and the elements as they are
abbrev pub with_bounds : List Dimension → Option Array → Option Array
with_bounds bounds None = None
with_bounds bounds (Some a) = Some (record a { bounds = bounds })

abbrev pub rebound : List Dimension → Variable → Variable
rebound bounds v = record v { held = with_bounds bounds v.held }

-- the actual's extents, from these lower bounds on
abbrev pub from_lowers : List ℤ → List ℕ → List Dimension
from_lowers (l ∷ lowers) (n ∷ extents) = dimension l (l +ℤ pos n -ℤ pos 1) ∷ from_lowers lowers extents
from_lowers lowers extents = []

module _ (unit : Program) (calls : Caller) where
  unfoldable pub lower_bounds : ℕ → List Bound → Step (List ℤ)
  lower_bounds line [] = pure []
  lower_bounds line (b ∷ more) = do
    l ← bound_or unit calls line [] (pos 1) b
    rest ← lower_bounds line more
    pure (l ∷ rest)

  -- the bounds of a dummy: explicit ones have the extents of the actual
  abbrev pub bounds_act : ℕ → ℕ → ℕ → Value → Bounds → Step (Unit {0})
  bounds_act call_line line n actual (Explicit spans) = do
    bounds ← dimensions unit calls line spans
    unless (is_shape (extents_of bounds) actual.extents) fault.DummyShape call_line
    v ← variable n
    set_variable n (rebound bounds v)
  bounds_act call_line line n actual (Assumed lowers) = do
    ls ← lower_bounds line lowers
    v ← variable n
    set_variable n (rebound (from_lowers ls actual.extents) v)
  bounds_act call_line line n actual other = pure tt

  -- an array of its own, unless it is allocatable
  abbrev pub own_acts : ℕ → ℕ → DeclaredType → Bounds → Step (Unit {0})
  own_acts line n of (Explicit spans) = do
    bounds ← dimensions unit calls line spans
    unless (nat_le (size_of (extents_of bounds)) most_elements) fault.TooLarge line
    set_variable n (fresh (blank_of_type of) bounds)
  own_acts line n of other = pure tt

  -- a faulting length or extent of a dummy has the call's line, all else the declaration's
  abbrev pub declaration_acts : ℕ → Actuals → ℕ → Role → DeclaredType → Bounds → ℕ → Step (Unit {0})
  declaration_acts call_line actuals n (role.Dummy place i) of bounds line = do
    unless (length_fits of (passed_at actuals place).value.like) fault.DummyShape call_line
    bounds_act call_line line n (passed_at actuals place).value bounds
  declaration_acts call_line actuals n role.Own of bounds line = own_acts line n of bounds

  unfoldable pub declarations_act : ℕ → Actuals → ℕ → List Entity → Step (Unit {0})
  declarations_act call_line actuals n [] = pure tt
  declarations_act call_line actuals n (e ∷ more) = do
    declaration_acts call_line actuals n e.role e.of e.bounds e.line
    declarations_act call_line actuals (suc n) more

  -- an initial value is an assignment to the whole variable
  abbrev pub initial_of : ℕ → ℕ → Expr → Assign
  initial_of line n e = record { line = line; target = record { facts = facts_of e; designator = at n Whole AllOf }; value = e }

  abbrev pub initial_acts : ℕ → ℕ → Option Expr → Step (Unit {0})
  initial_acts line n None = pure tt
  initial_acts line n (Some e) = assigned unit calls None (initial_of line n e)

  unfoldable pub initials_act : ℕ → List Entity → Step (Unit {0})
  initials_act n [] = pure tt
  initials_act n (e ∷ more) = do
    initial_acts e.line n e.initial
    initials_act (suc n) more

  -- the declarations in order, the initial values in order, the statements
  abbrev pub body_acts : ℕ → Actuals → Procedure → Step (Unit {0})
  body_acts call_line actuals q = do
    declarations_act call_line actuals 0 q.entities
    initials_act 0 q.entities
    all_act unit calls q.body
    pure tt

-- ---- what comes back

abbrev pub elements_held : Option Array → List Scalar
elements_held None = []
elements_held (Some a) = a.elements

abbrev pub is_out : Role → Bool
is_out role.Own = false
is_out (role.Dummy k intent.In) = false
is_out (role.Dummy k other) = true

abbrev pub place_of : Role → ℕ
place_of role.Own = 0
place_of (role.Dummy k i) = k

abbrev pub copy_back : Bool → List Scalar → Option Section → Step (Unit {0})
copy_back true xs (Some s) = store_all s.variable s.bytes (zip s.places xs)
copy_back modified xs section = pure tt

-- of each modified dummy, the elements into its actual's places
unfoldable pub copies_back : List Variable → List Entity → Actuals → Step (Unit {0})
copies_back (v ∷ own) (e ∷ entities) actuals = do
  copy_back (is_out e.role) (elements_held v.held) (passed_at actuals (place_of e.role)).section
  copies_back own entities actuals
copies_back own entities actuals = pure tt

-- a function's value is what its result holds
abbrev pub value_held_by : Scalar → Option Array → Value
value_held_by blank None = scalar_value blank
value_held_by blank (Some a) = record { extents = extents_of a.bounds; like = blank; elements = a.elements }

abbrev pub value_held : Variable → Value
value_held v = value_held_by v.blank v.held

abbrev pub result_of : List Variable → Option ℕ → Value
result_of own None = scalar_value nothing
result_of own (Some n) = value_held (slice_index_or own n no_variable)

-- ---- calls

-- a turn begins, then the callee acts on variables of its own
abbrev pub entered : Program → Caller → Procedure → ℕ → Actuals → Step Value
entered unit calls q line actuals = do
  turn
  own ← inside (variables_at_start actuals q.entities) (body_acts unit calls line actuals q)
  copies_back own q.entities actuals
  pure (result_of own q.result)

-- a call where so many more may become active
abbrev pub called : Program → ℕ → Caller
called unit zero p line actuals = do
  unless (all_apart (procedure_at unit p).entities actuals) fault.Overlap line
  fault_at fault.CallDepth line
called unit (suc depth) p line actuals = do
  unless (all_apart (procedure_at unit p).entities actuals) fault.Overlap line
  entered unit (called unit depth) (procedure_at unit p) line actuals
