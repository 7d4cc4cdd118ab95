-- The typed unit that a source is: what each name of each scope means, declarations, procedures, and the whole.
use Rattle.std.specs.Prelude.{ℕ, suc, ◌+◌, pos, Bool, true, false, if◌then◌else◌, List, [], ◌∷◌, ◌++◌, map, length, Option, Some}
use Rattle.std.specs.Prelude.{None, slice_get}
use Rattle.std.specs.List.{list_any, find, filter, filter_map, flat_map, zip}
use Rattle.a95_base.specs.declared.scalar.Scalar.{Scalar}
use Rattle.a95_base.specs.declared.scalar.Scalar.TheVariants as scalar
use Rattle.constant_operators.specs.declared.value.Worth.{Worth}
use Rattle.constant_operators.specs.declared.value.Worth.TheVariants.{Is}
use Rattle.f95_tree.specs.Forms.{Word}
use Rattle.intrinsic_table.specs.Finding.{is_word}
use Rattle.names_types.specs.Plain as source
use Rattle.names_types.specs.declared.meaning.Meaning.{Meaning}
use Rattle.names_types.specs.declared.meaning.Meaning.TheVariants.{Constant}
use Rattle.names_types.specs.Scopes.{is_constant, Form, Brings, Declares, Sited, Scope, Place, InMain, InModule, InProcedure, sites}
use Rattle.names_types.specs.Scopes.{scopes}
use Rattle.names_types.specs.Rules.{is_open, in_procedure, in_module}
use Rattle.f95_unit.specs.declared.operation.Inquiry.TheVariants as inquiry
use Rattle.f95_unit.specs.Plain.{Expr, typed, Asked, Of, Bound, Absent, Given, Span, Bounds, Scalars, Explicit, Assumed, Deferred}
use Rattle.f95_unit.specs.Plain.{Entity, Procedure, Program, call, no_argument, Calls, Stmts, no_stmt, stmt}
use Rattle.shape_check.specs.Statements as statement
use Rattle.well_typed.specs.Known.{facts_of, variable_facts}
use Rattle.well_typed.specs.Intrinsics.{an_integer}
use Rattle.well_typed.specs.Entities.{variable_of, variables_of, callees_of}
use Rattle.well_typed.specs.Questions.{Assigns, Posed}
use Rattle.shape_check.specs.Found.{Found, found, asking, then_found, mapped, each_found, maybe_found}
use Rattle.shape_check.specs.Names.{Meaning as Means, AVariable, AConstant, AProcedure, Meant, Names}
use Rattle.shape_check.specs.Nodes.{literal}
use Rattle.shape_check.specs.Expressions.{expr_of, bound_of}
use Rattle.shape_check.specs.Told.{Told, told, mapped_told, both_told, told_at}
use Rattle.shape_check.specs.Executable.{span, span_of, append, nowhere}
use Rattle.shape_check.specs.Blocks.{values_in, stmts_of}
use Rattle.shape_check.specs.Declared.{variable_sites, role_of, type_of, dims_in, is_allocatable, variables_before, result_number}
use Rattle.well_typed.specs.declared.known.Callee.{Callee}
use Rattle.well_typed.specs.declared.known.Variable.{Variable}

-- ---- scopes with their statements

-- a procedure with its prefixes, the main program, or a module, which has no statements
pub record Body : Type 0 where
  pub line : ℕ
  pub recursive : Bool
  pub pure : Bool
  pub elemental : Bool
  pub stmts : statement.Stmts

abbrev pub plain_body : ℕ → statement.Stmts → Body
plain_body line ss = record { line = line; recursive = false; pure = false; elemental = false; stmts = ss }

abbrev pub body_of : statement.Procedure → Body
body_of p = record { line = p.declared.line; recursive = p.recursive; pure = p.pure; elemental = p.elemental; stmts = p.body }

abbrev pub bodies : statement.Source → List Body
bodies s = flat_map (λ (m : statement.Module). plain_body 0 statement.no_stmt ∷ map body_of m.procedures) s.modules
    ++ (plain_body s.line s.body ∷ map body_of s.procedures)

-- a scope with the numbers of its first constant and of its first procedure
pub record Room : Type 0 where
  pub scope : Scope
  pub body : Body
  pub constant : ℕ
  pub procedure : ℕ

-- ---- constants

abbrev pub declares_constant : Form → Bool
declares_constant (Declares o) = is_constant o
declares_constant other = false

abbrev pub constant_sites : Scope → List Sited
constant_sites c = filter (λ (s : Sited). declares_constant s.entry.form) (sites c)

abbrev pub value_or_zero : Worth → Scalar
value_or_zero (Is x) = x
value_or_zero other = scalar.Int (pos 0)

abbrev pub meant_value : Meaning → Scalar
meant_value (Constant v) = value_or_zero v.worth
meant_value other = scalar.Int (pos 0)

abbrev pub constants_of : Scope → List Scalar
constants_of c = map (λ (s : Sited). meant_value s.meaning) (constant_sites c)

-- the values of all named constants
abbrev pub named_constants : List Room → List Scalar
named_constants rs = flat_map (λ (r : Room). constants_of r.scope) rs

abbrev pub rooms_from : ℕ → ℕ → List (Scope × Body) → List Room
rooms_from constant procedure [] = []
rooms_from constant procedure (p ∷ more) =
    record { scope = p.0; body = p.1; constant = constant; procedure = procedure }
    ∷ rooms_from (constant + length (constant_sites p.0)) (procedure + length p.0.procedures) more

abbrev pub rooms : statement.Source → List Room
rooms s = rooms_from 0 0 (zip (scopes (statement.declared_source s)) (bodies s))

-- ---- what names mean

abbrev pub meant : Word → Means → Meant
meant name m = record { name = name; meaning = m }

abbrev pub numbered : (ℕ → Means) → ℕ → List Sited → List Meant
numbered make n [] = []
numbered make n (s ∷ more) = meant s.entry.name (make n) ∷ numbered make (suc n) more

abbrev pub procedures_from : ℕ → List source.Procedure → List Meant
procedures_from n [] = []
procedures_from n (p ∷ more) = meant p.name (AProcedure n p.dummies) ∷ procedures_from (suc n) more

-- the constants and the procedures of a scope's own
abbrev pub own_of : Room → List Meant
own_of r = numbered AConstant r.constant (constant_sites r.scope) ++ procedures_from r.procedure r.scope.procedures

abbrev pub named_in : Word → Option Room → Option Meant
named_in name None = None
named_in name (Some r) = find (λ (m : Meant). is_word name m.name) (own_of r)

-- what USE brings is the same as in the module that has it as its own
abbrev pub brought : List Room → Word → Form → Option Meant
brought modules name (Brings place m) = named_in name (slice_get modules place)
brought modules name other = None

abbrev pub shared_of : List Room → Room → List Meant
shared_of modules r = own_of r ++ filter_map (λ (s : Sited). brought modules s.entry.name s.entry.form) (sites r.scope)

abbrev pub all_of : List Room → Room → List Meant
all_of modules r = numbered AVariable 0 (variable_sites r.scope) ++ shared_of modules r

-- a procedure sees of its host the constants and the procedures
abbrev pub meanings_from : List Room → (host : List Meant) → List Room → List (Room × List Meant)
meanings_from modules host [] = []
meanings_from modules host (r ∷ more) = if in_procedure r.scope.place
    then (r, all_of modules r ++ host) ∷ meanings_from modules host more
    else (r, all_of modules r) ∷ meanings_from modules (shared_of modules r) more

abbrev pub is_module : Room → Bool
is_module r = in_module r.scope.place

abbrev pub is_procedure : Room → Bool
is_procedure r = in_procedure r.scope.place

-- ---- declarations: first the bounds of all variables, then their initial values

-- the names of a scope while nothing is known of the bounds of its variables; its declarations refer to no procedure
abbrev pub names_before : List Scalar → Room → List Meant → Names
names_before constants r all = record {
  meant = all;
  variables = variables_before r.scope;
  constants = constants;
  callees = [];
  indices = [];
  dos = [];
}

abbrev pub upper_span : Names → source.Dim → Found Span
upper_span c (source.Upper e) = span_of c source.Absent e
upper_span c (source.Both lower upper) = span_of c (source.Given lower) upper
upper_span c (source.Lower lower) = span_of c source.Absent lower
upper_span c source.Deferred = mapped (λ b. span (Absent, b)) (expr_of c (source.Literal (scalar.Int (pos 0))))

abbrev pub lower_of : Names → source.Dim → Found Bound
lower_of c (source.Lower lower) = bound_of c (source.Given lower)
lower_of c other = found Absent

abbrev pub array_bounds : Names → List source.Dim → Found Bounds
array_bounds c dims = if list_any is_open dims then mapped Assumed (each_found (lower_of c) dims)
    else mapped Explicit (each_found (upper_span c) dims)

abbrev pub bounds_with : Names → Bool → List source.Dim → Found Bounds
bounds_with c true dims = found (Deferred (length dims))
bounds_with c false [] = found Scalars
bounds_with c false (d ∷ dims) = array_bounds c (d ∷ dims)

abbrev pub bounds_of : Names → Form → Found Bounds
bounds_of c f = bounds_with c (is_allocatable f) (dims_in f)

-- where bounds break a rule nothing is known of them but the rank
abbrev pub unknown_bound : Expr
unknown_bound = typed an_integer (Asked inquiry.Len None (Of (literal (scalar.Text []))))

abbrev pub unknown_span : Span
unknown_span = span (Given unknown_bound, unknown_bound)

abbrev pub bounds_or_unknown : List source.Dim → Option Bounds → Bounds
bounds_or_unknown dims None = Explicit (map (λ (d : source.Dim). unknown_span) dims)
bounds_or_unknown dims (Some bounds) = bounds

abbrev pub entity : Scope → Sited → Bounds → Entity
entity c s bounds =
    record { line = s.entry.line; of = type_of c s s.entry.form; bounds = bounds; role = role_of c s; initial = None }

-- a declaration with its bounds
abbrev pub Bounded : Type 0
Bounded = Sited × Entity

abbrev pub bounded : Names → Scope → Sited → Told Bounded
bounded c scope s = mapped_told (λ o. (s, entity scope s (bounds_or_unknown (dims_in s.entry.form) o)))
    (told_at s.entry.line (bounds_of c s.entry.form))

abbrev pub all_bounded : Names → Scope → List Sited → Told (List Bounded)
all_bounded c scope [] = told []
all_bounded c scope (s ∷ more) = mapped_told (λ p. p.0 ∷ p.1) (both_told (bounded c scope s) (all_bounded c scope more))

abbrev pub entities_in : List Bounded → List Entity
entities_in ds = map (λ (d : Bounded). d.1) ds

-- a room with its declarations, whose bounds are known
abbrev pub declared : List Scalar → Room → List Meant → Told (List Bounded)
declared constants r all = all_bounded (names_before constants r all) r.scope (variable_sites r.scope)

pub record Headed : Type 0 where
  pub room : Room
  pub meant : List Meant
  pub declared : Told (List Bounded)

abbrev pub headed : List Scalar → Room × List Meant → Headed
headed constants p = record { room = p.0; meant = p.1; declared = declared constants p.0 p.1 }

-- ---- procedures

abbrev pub procedure : Room → List Entity × Stmts → Procedure
procedure r p = record {
  line = r.body.line;
  recursive = r.body.recursive;
  pure = r.body.pure;
  elemental = r.body.elemental;
  entities = p.0;
  result = result_number r.scope r.scope.place;
  body = p.1;
}

-- a procedure without statements, which has all that a reference sees
abbrev pub heading : Headed → Procedure
heading h = procedure h.room (entities_in h.declared.is, no_stmt)

abbrev pub headings : List Headed → List Procedure
headings hs = map heading (filter (λ (h : Headed). is_procedure h.room) hs)

abbrev pub names_of : List Scalar → List Callee → Headed → Names
names_of constants callees h = record {
  meant = h.meant;
  variables = variables_of constants (entities_in h.declared.is);
  constants = constants;
  callees = callees;
  indices = [];
  dos = [];
}

-- an initial value is assigned
abbrev pub initialising : Variable → Expr → Found Expr
initialising v e = asking (Assigns (variable_facts v) (facts_of e)) e

abbrev pub initial_with : Names → Variable → Option source.Expr → Found (Option Expr)
initial_with c v initial = maybe_found (λ e. then_found (expr_of c e) (initialising v)) initial

abbrev pub initial_in : Form → Option source.Expr
initial_in (Declares o) = o.initial
initial_in other = None

abbrev pub initial_or_none : Option (Option Expr) → Option Expr
initial_or_none None = None
initial_or_none (Some initial) = initial

abbrev pub with_initial : Entity → Option (Option Expr) → Entity
with_initial e o = record e { initial = initial_or_none o }

abbrev pub initialised : Names → Bounded → Told Entity
initialised c d = mapped_told (with_initial d.1)
    (told_at d.1.line (initial_with c (variable_of c.constants d.1) (initial_in d.0.entry.form)))

abbrev pub all_initialised : Names → List Bounded → Told (List Entity)
all_initialised c [] = told []
all_initialised c (d ∷ more) = mapped_told (λ p. p.0 ∷ p.1) (both_told (initialised c d) (all_initialised c more))

-- a call of what is no procedure, on each line where something has no type: the rules on calls refuse it
abbrev pub refused_calls : Names → List ℕ → Stmts
refused_calls c [] = no_stmt
refused_calls c (line ∷ more) = stmt (Calls line (call (nowhere c) no_argument)) (refused_calls c more)

abbrev pub with_refused : Names → Told (List Entity × Stmts) → Told (List Entity × Stmts)
with_refused c t = mapped_told (λ p. (p.0, append p.1 (refused_calls c t.missing))) t

-- with the lines of declarations that have no bounds
abbrev pub completed : Names → Headed → Told (List Entity × Stmts) → Told Procedure
completed c h t = mapped_told (procedure h.room) (with_refused c (mapped_told (λ p. p.1) (both_told h.declared t)))

abbrev pub procedure_of : Names → ℕ → Headed → Told Procedure
procedure_of c next h =
    completed c h (both_told (all_initialised c h.declared.is) (stmts_of c [] next h.room.body.stmts))

-- of each room its procedure; a module has an empty one
abbrev pub procedures_told : List Scalar → List Callee → ℕ → List Headed → Told (List (Room × Procedure))
procedures_told constants callees next [] = told []
procedures_told constants callees next (h ∷ more) = mapped_told (λ q. (h.room, q.0) ∷ q.1)
    (both_told (procedure_of (names_of constants callees h) next h)
    (procedures_told constants callees (next + values_in h.room.body.stmts) more))

abbrev pub homes_with : List Scalar → List Headed → Told (List (Room × Procedure))
homes_with constants hs = procedures_told constants (callees_of constants (headings hs)) (length constants) hs

abbrev pub headed_rooms : List Room → List Headed
headed_rooms rs = map (headed (named_constants rs)) (meanings_from (filter is_module rs) [] rs)

abbrev pub homes_told : List Room → Told (List (Room × Procedure))
homes_told rs = homes_with (named_constants rs) (headed_rooms rs)

abbrev pub is_main : Place → Bool
is_main InMain = true
is_main InModule = false
is_main (InProcedure p) = false

abbrev pub no_procedure : Procedure
no_procedure = record {
  line = 0;
  recursive = false;
  pure = false;
  elemental = false;
  entities = [];
  result = None;
  body = no_stmt;
}

abbrev pub main_in : List (Room × Procedure) → Procedure
main_in [] = no_procedure
main_in (p ∷ more) = if is_main p.0.scope.place then p.1 else main_in more

abbrev pub procedures_in : List (Room × Procedure) → List Procedure
procedures_in ps = map (λ (p : Room × Procedure). p.1) (filter (λ (p : Room × Procedure). is_procedure p.0) ps)

abbrev pub program : List Scalar → List (Room × Procedure) → Program
program constants ps = record { constants = constants; main = main_in ps; procedures = procedures_in ps }

abbrev pub told_of : statement.Source → Told (List (Room × Procedure))
told_of s = homes_told (rooms s)

-- all questions that a source asks
abbrev pub posed : statement.Source → List Posed
posed s = (told_of s).posed

-- the values of named constants, and behind them those of CASEs
abbrev pub constants_in : statement.Source → List Scalar
constants_in s = named_constants (rooms s) ++ (told_of s).values

abbrev pub unit_of : statement.Source → Program
unit_of s = program (constants_in s) (told_of s).is
