-- Declarations and procedures that are made are well typed, and so is the unit.
use Rattle.std.proofs.Common.{◌≡◌, ℕ, ◌+◌, Bool, true, false, cond, if◌then◌else◌, List, [], ◌∷◌, map, filter, length, replicate}
use Rattle.std.proofs.Common.{Option, Some, None, slice_get, refl, sym, ap, ap₂, subst, ◌∙◌}
use Rattle.std.specs.Option.{option_map}
use Rattle.std.specs.List.{list_any}
use Rattle.std.specs.Prelude.{pos}
use Rattle.a95_base.specs.declared.scalar.Scalar.{Scalar}
use Rattle.a95_base.specs.declared.scalar.Scalar.TheVariants as scalar
use Rattle.a95_base.specs.Lists.{Every}
use Rattle.constant_operators.specs.Operators.{then_option}
use Rattle.names_types.specs.Plain as source
use Rattle.names_types.specs.Scopes.{Sited}
use Rattle.names_types.specs.Rules.{is_open}
use Rattle.f95_unit.specs.Plain.{Expr, Absent, Span, Bounds, Explicit, Assumed, Procedure}
use Rattle.proc_calls.specs.declared.interface.Dummy.{Dummy}
use Rattle.proc_calls.specs.Interfaces.{is_dummy, dummy_count, placed, all_placed}
use Rattle.well_typed.specs.Known.{facts_of, variable_facts}
use Rattle.well_typed.specs.Questions.{Assigns}
use Rattle.well_typed.specs.Entities.{is_deferred, unknown_dim, assumed_dim, span_dim, known_dims, variable_of, variables_of}
use Rattle.well_typed.specs.Entities.{result_facts, callee_of, callees_of, without_bounds}
use Rattle.well_typed.specs.WellTypedStatements.{Maybe, TypedSpan, TypedStmts}
use Rattle.well_typed.specs.WellTypedUnits.{TypedBounds, TypedInitial, TypedEntity, TypedProcedure}
use Rattle.shape_check.specs.Found.{then_found}
use Rattle.shape_check.specs.Names.{Meant, Names}
use Rattle.shape_check.specs.Nodes.{literal}
use Rattle.shape_check.specs.Expressions.{expr_of}
use Rattle.shape_check.specs.Executable.{span, append}
use Rattle.shape_check.specs.Blocks.{values_in, stmts_of}
use Rattle.shape_check.specs.Declared.{variable_sites, dims_in, is_allocatable, variable, result_number}
use Rattle.shape_check.specs.Units.{Room, rooms, is_module, is_procedure, named_constants, meanings_from, names_before, upper_span}
use Rattle.shape_check.specs.Units.{lower_of, array_bounds, bounds_with, bounds_of, unknown_span, bounds_or_unknown, entity}
use Rattle.shape_check.specs.Units.{Bounded, all_bounded, entities_in, Headed, headed, heading, headings, names_of, initialising}
use Rattle.shape_check.specs.Units.{initial_with, initial_in, initial_or_none, all_initialised, refused_calls, procedure_of}
use Rattle.shape_check.specs.Units.{procedures_told, homes_told, is_main, main_in, procedures_in}
use Rattle.shape_check.specs.Laws.{UnitsAreTyped}
use Rattle.shape_check.proofs.Gives.{Holds, Gives, gives_found, gives_asking, gives_then, gives_mapped, gives_each, gives_maybe}
use Rattle.shape_check.proofs.Typed.{TypedB, gives_choice, gives_expr, gives_bound}
use Rattle.shape_check.proofs.TypedStatements.{StmtsFor, appended, stmts_are, gives_span_of}
use Rattle.well_typed.specs.declared.known.Callee.{Callee}
use Rattle.well_typed.specs.declared.known.Dim.{Dim}
use Rattle.well_typed.specs.declared.known.Variable.{Variable}

-- ---- ranks

abbrev blank : Dim → Dim
blank d = unknown_dim

abbrev blank_of : source.Dim → Dim
blank_of d = unknown_dim

all_blank : {A : Type 0} (f : A → Dim) (xs : List A) → map blank (map f xs) ≡ replicate (length xs) unknown_dim
all_blank f [] = refl
all_blank f (x ∷ xs) = ap (λ ds. unknown_dim ∷ ds) (all_blank f xs)

blank_dims : (dims : List source.Dim) → replicate (length dims) unknown_dim ≡ map blank_of dims
blank_dims [] = refl
blank_dims (d ∷ dims) = ap (λ ds. unknown_dim ∷ ds) (blank_dims dims)

blanks : {A : Type 0} (f : A → Dim) (xs : List A) (dims : List source.Dim) → length xs ≡ length dims
    → map blank (map f xs) ≡ map blank_of dims
blanks f xs dims e = all_blank f xs ∙ (ap (λ n. replicate n unknown_dim) e ∙ blank_dims dims)

blanks_twice : (f : Span → Dim) (g : source.Dim → Span) (dims : List source.Dim)
    → map blank (map f (map g dims)) ≡ map blank_of dims
blanks_twice f g [] = refl
blanks_twice f g (d ∷ dims) = ap (λ ds. unknown_dim ∷ ds) (blanks_twice f g dims)

deferred_blanks : (dims : List source.Dim) → map blank (replicate (length dims) unknown_dim) ≡ map blank_of dims
deferred_blanks [] = refl
deferred_blanks (d ∷ dims) = ap (λ ds. unknown_dim ∷ ds) (deferred_blanks dims)

-- ---- bounds

module _ (constants : List Scalar) (r : Room) (all : List Meant) where
  abbrev before : Names
  before = names_before constants r all

  abbrev SpanFor : Span → Type 0
  SpanFor = TypedSpan constants before.variables [] 0

  gives_upper : (d : source.Dim) → Gives SpanFor (upper_span before d)
  gives_upper (source.Upper e) = gives_span_of before source.Absent e
  gives_upper (source.Both lower upper) = gives_span_of before (source.Given lower) upper
  gives_upper (source.Lower lower) = gives_span_of before source.Absent lower
  gives_upper source.Deferred = gives_found (span (Absent, literal (scalar.Int (pos 0)))) (tt, (refl, refl))

  gives_lower : (d : source.Dim) → Gives (TypedB before) (lower_of before d)
  gives_lower (source.Upper e) = gives_found Absent tt
  gives_lower (source.Both lower upper) = gives_found Absent tt
  gives_lower (source.Lower lower) = gives_bound before (source.Given lower)
  gives_lower source.Deferred = gives_found Absent tt

  abbrev BoundsFor : Bounds → Type 0
  BoundsFor = TypedBounds constants before.variables

  -- the bounds are of that rank, and those of no allocatable array
  abbrev HasDims : List source.Dim → Bounds → Type 0
  HasDims dims b = (map blank (known_dims constants b) ≡ map blank_of dims) × (is_deferred b ≡ false)

  gives_array : (dims : List source.Dim) → Gives (λ b. BoundsFor b × HasDims dims b) (array_bounds before dims)
  gives_array dims = gives_choice before (list_any is_open dims) _ _
      (λ o. gives_mapped Assumed _ (gives_each (lower_of before) gives_lower dims)
      (λ xs h. (h.0, (blanks (assumed_dim constants) xs dims h.1, refl))))
      (λ o. gives_mapped Explicit _ (gives_each (upper_span before) gives_upper dims)
      (λ xs h. (h.0, (blanks (span_dim constants) xs dims h.1, refl))))

  unknown_are : (dims : List source.Dim) → Every SpanFor (map (λ (d : source.Dim). unknown_span) dims)
  unknown_are [] = tt
  unknown_are (d ∷ dims) = ((((refl, (refl, refl)), refl), ((refl, (refl, refl)), refl)), unknown_are dims)

  array_or_unknown : (dims : List source.Dim) (o : Option Bounds) → Holds (λ b. BoundsFor b × HasDims dims b) o
      → BoundsFor (bounds_or_unknown dims o) × HasDims dims (bounds_or_unknown dims o)
  array_or_unknown dims None h =
      (unknown_are dims, (blanks_twice (span_dim constants) (λ (d : source.Dim). unknown_span) dims, refl))
  array_or_unknown dims (Some b) h = h

  -- of all variables
  abbrev Agrees : Bool → List source.Dim → Bounds → Type 0
  Agrees allocatable dims b =
      BoundsFor b × ((map blank (known_dims constants b) ≡ map blank_of dims) × (is_deferred b ≡ allocatable))

  bounds_agree : (allocatable : Bool) (dims : List source.Dim)
      → Agrees allocatable dims (bounds_or_unknown dims (bounds_with before allocatable dims).made)
  bounds_agree true dims = (tt, (deferred_blanks dims, refl))
  bounds_agree false [] = (tt, (refl, refl))
  bounds_agree false (d ∷ dims) = array_or_unknown (d ∷ dims) (array_bounds before (d ∷ dims)).made (gives_array (d ∷ dims)).made

  -- ---- declarations with their bounds

  abbrev bounds_at : Sited → Bounds
  bounds_at s = bounds_or_unknown (dims_in s.entry.form) (bounds_of before s.entry.form).made

  same_variable : (s : Sited) → without_bounds (variable_of constants (entity r.scope s (bounds_at s))) ≡ variable r.scope s
  same_variable s = let h = bounds_agree (is_allocatable s.entry.form) (dims_in s.entry.form) in
      ap₂ (λ dims allocatable. record {
        kind = (variable r.scope s).kind;
        length = (variable r.scope s).length;
        dims = dims;
        allocatable = allocatable;
        input = (variable r.scope s).input;
      }) h.1.0 h.1.1

  bounded_are : (ss : List Sited) → Every (λ (d : Bounded). BoundsFor d.1.bounds) (all_bounded before r.scope ss).is
  bounded_are [] = tt
  bounded_are (s ∷ more) = ((bounds_agree (is_allocatable s.entry.form) (dims_in s.entry.form)).0, bounded_are more)

  same_before : (ss : List Sited) → map without_bounds (variables_of constants (entities_in (all_bounded before r.scope ss).is))
      ≡ map (variable r.scope) ss
  same_before [] = refl
  same_before (s ∷ more) = ap₂ (λ v vs. v ∷ vs) (same_variable s) (same_before more)

-- ---- initial values and statements

module _ (constants : List Scalar) (callees : List Callee) (h : Headed) where
  abbrev c : Names
  c = names_of constants callees h

  abbrev InitialFor : Variable → Expr → Type 0
  InitialFor = TypedInitial constants c.variables callees

  gives_initial : (v : Variable) (initial : Option source.Expr) → Gives (Maybe (InitialFor v)) (initial_with c v initial)
  gives_initial v initial = gives_maybe (λ e. then_found (expr_of c e) (initialising v))
      (λ e. gives_then (expr_of c e) _ (gives_expr c e)
      (λ x t. gives_asking (Assigns (variable_facts v) (facts_of x)) x (λ ok. (t, ok)))) initial

  initial_is : (v : Variable) (o : Option (Option Expr)) → Holds (Maybe (InitialFor v)) o → Maybe (InitialFor v) (initial_or_none o)
  initial_is v None t = tt
  initial_is v (Some initial) t = t

  entities_are : (ds : List Bounded)
      → Every (λ (d : Bounded). TypedBounds constants (map without_bounds c.variables) d.1.bounds) ds
      → Every (TypedEntity constants c.variables callees) (all_initialised c ds).is
  entities_are [] t = tt
  entities_are (d ∷ more) t = (
    (t.0, initial_is (variable_of constants d.1) _ (gives_initial (variable_of constants d.1) (initial_in d.0.entry.form)).made),
    entities_are more t.1,
  )

  refused_are : (lines : List ℕ) → StmtsFor c (refused_calls c lines)
  refused_are [] = tt
  refused_are (line ∷ more) = (tt, refused_are more)

  body_is : (next : ℕ) (lines : List ℕ)
      → StmtsFor c (append (stmts_of c [] next h.room.body.stmts).is (refused_calls c lines))
  body_is next lines = appended c _ _ (stmts_are c [] next h.room.body.stmts) (refused_are lines)

  -- ---- initial values change nothing that a reference sees

  same_variables : (ds : List Bounded) → variables_of constants (entities_in ds) ≡ variables_of constants (all_initialised c ds).is
  same_variables [] = refl
  same_variables (d ∷ more) = ap (λ vs. variable_of constants d.1 ∷ vs) (same_variables more)

  same_count : (ds : List Bounded) → dummy_count (all_initialised c ds).is ≡ dummy_count (entities_in ds)
  same_count [] = refl
  same_count (d ∷ more) = ap (λ n. (if is_dummy d.1.role then 1 else 0) + n) (same_count more)

  same_placed : (ds : List Bounded) (dummies : List (Option Dummy))
      → all_placed (all_initialised c ds).is dummies ≡ all_placed (entities_in ds) dummies
  same_placed [] dummies = refl
  same_placed (d ∷ more) dummies = same_placed more (placed d.1.role d.1.of d.1.bounds dummies)

  same_callee : (next : ℕ) → callee_of constants (procedure_of c next h).is ≡ callee_of constants (heading h)
  same_callee next = ap₂ (λ dummies vs. record {
    interface = record {
      function = (callee_of constants (heading h)).interface.function;
      pure = (callee_of constants (heading h)).interface.pure;
      elemental = (callee_of constants (heading h)).interface.elemental;
      dummies = dummies;
    };
    result = option_map result_facts (then_option (result_number h.room.scope h.room.scope.place) (slice_get vs));
  })
      (same_placed h.declared.is _ ∙ ap (λ n. all_placed (entities_in h.declared.is) (replicate n None)) (same_count h.declared.is))
      (sym (same_variables h.declared.is))

-- ---- procedures

module _ (constants : List Scalar) (callees : List Callee) where
  procedure_is : (r : Room) (all : List Meant) (next : ℕ)
      → TypedProcedure constants callees (procedure_of (names_of constants callees (headed constants (r, all))) next
      (headed constants (r, all))).is
  procedure_is r all next = let h = headed constants (r, all) in
      subst (λ vs. Every (TypedEntity constants vs callees) (all_initialised (names_of constants callees h) h.declared.is).is
      × TypedStmts constants vs callees 0 [] (procedure_of (names_of constants callees h) next h).is.body)
      (same_variables constants callees h h.declared.is) (
        entities_are constants callees h h.declared.is
            (subst (λ vs. Every (λ (d : Bounded). TypedBounds constants vs d.1.bounds) h.declared.is)
            (sym (same_before constants r all (variable_sites r.scope))) (bounded_are constants r all (variable_sites r.scope))),
        body_is constants callees h next _,
      )

  homes_are : (next : ℕ) (ps : List (Room × List Meant))
      → Every (λ (q : Room × Procedure). TypedProcedure constants callees q.1)
      (procedures_told constants callees next (map (headed constants) ps)).is
  homes_are next [] = tt
  homes_are next (p ∷ more) = (procedure_is p.0 p.1 next, homes_are (next + values_in p.0.body.stmts) more)

  one_seen : (t : Bool) (r : Room) (p : Procedure) (h : Headed) (qs : List (Room × Procedure)) (hs : List Headed)
      → callee_of constants p ≡ callee_of constants (heading h)
      → callees_of constants (map (λ (q : Room × Procedure). q.1) qs) ≡ callees_of constants (map heading hs)
      → callees_of constants (map (λ (q : Room × Procedure). q.1) (cond t ((r, p) ∷ qs) qs))
      ≡ callees_of constants (map heading (cond t (h ∷ hs) hs))
  one_seen true r p h qs hs e same = ap₂ (λ c cs. c ∷ cs) e same
  one_seen false r p h qs hs e same = same

  all_seen : (next : ℕ) (hs : List Headed)
      → callees_of constants (procedures_in (procedures_told constants callees next hs).is) ≡ callees_of constants (headings hs)
  all_seen next [] = refl
  all_seen next (h ∷ more) = one_seen (is_procedure h.room) h.room (procedure_of (names_of constants callees h) next h).is h
      _ _ (same_callee constants callees h next) (all_seen (next + values_in h.room.body.stmts) more)

  -- ---- the main program, and the procedures

  either_is : (t : Bool) (p q : Procedure) → TypedProcedure constants callees p → TypedProcedure constants callees q
      → TypedProcedure constants callees (cond t p q)
  either_is true p q f g = f
  either_is false p q f g = g

  main_is : (ps : List (Room × Procedure)) → Every (λ (q : Room × Procedure). TypedProcedure constants callees q.1) ps
      → TypedProcedure constants callees (main_in ps)
  main_is [] t = (tt, tt)
  main_is (p ∷ more) t = either_is (is_main p.0.scope.place) p.1 (main_in more) t.0 (main_is more t.1)

  kept : (t : Bool) (p : Room × Procedure) (ps : List (Room × Procedure)) → TypedProcedure constants callees p.1
      → Every (TypedProcedure constants callees) (map (λ (q : Room × Procedure). q.1) ps)
      → Every (TypedProcedure constants callees) (map (λ (q : Room × Procedure). q.1) (cond t (p ∷ ps) ps))
  kept true p ps f g = (f, g)
  kept false p ps f g = g

  procedures_are : (ps : List (Room × Procedure)) → Every (λ (q : Room × Procedure). TypedProcedure constants callees q.1) ps
      → Every (TypedProcedure constants callees) (procedures_in ps)
  procedures_are [] t = tt
  procedures_are (p ∷ more) t = kept (is_procedure p.0) p _ t.0 (procedures_are more t.1)

pub units_are_typed : UnitsAreTyped
units_are_typed s = let constants = named_constants (rooms s) in
    let ps = meanings_from (filter is_module (rooms s)) [] (rooms s) in
    let callees = callees_of constants (headings (map (headed constants) ps)) in
    let homes = homes_are constants callees (length constants) ps in
    let seen = all_seen constants callees (length constants) (map (headed constants) ps) in record {
      named = constants;
      cases = (homes_told (rooms s)).values;
      constants = refl;
      main = subst (λ cs. TypedProcedure constants cs (main_in (homes_told (rooms s)).is)) (sym seen)
          (main_is constants callees _ homes);
      procedures = subst (λ cs. Every (TypedProcedure constants cs) (procedures_in (homes_told (rooms s)).is)) (sym seen)
          (procedures_are constants callees _ homes);
    }
