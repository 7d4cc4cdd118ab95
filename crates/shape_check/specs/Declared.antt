-- What the declarations of a scope tell of its variables and its procedures.
use Rattle.std.specs.Prelude.{ℕ, Bool, true, false, not, List, [], ◌∷◌, map, Option, Some, None}
use Rattle.std.specs.List.{filter, filter_map, position_from}
use Rattle.a95_base.specs.declared.scalar.Kind.{Kind}
use Rattle.a95_base.specs.declared.scalar.Kind.TheVariants as kind
use Rattle.f95_tree.specs.Forms.{Word}
use Rattle.f95_tree.specs.declared.declaration.Intent.{Intent as SourceIntent}
use Rattle.f95_tree.specs.declared.declaration.Intent.TheVariants as source_intent
use Rattle.intrinsic_table.specs.Finding.{is_word}
use Rattle.names_types.specs.Plain.{TypeSpec, Character, Assumed, Dim, Attribute, Parameter, Allocatable, Dimension, Intended}
use Rattle.names_types.specs.Plain.{Function}
use Rattle.names_types.specs.Scopes.{has_allocatable, is_constant, kind_of as declared_kind, declared_length, Form, Brings}
use Rattle.names_types.specs.Scopes.{Declares, Types, Begins, Sited, Scope, InProcedure, Place, InMain, InModule, sites, dummies_of}
use Rattle.names_types.specs.Rules.{sense_at, prefix_sense}
use Rattle.f95_unit.specs.declared.unit.Intent.{Intent}
use Rattle.f95_unit.specs.declared.unit.Intent.TheVariants as intent
use Rattle.f95_unit.specs.declared.unit.Role.{Role}
use Rattle.f95_unit.specs.declared.unit.Role.TheVariants as role
use Rattle.f95_unit.specs.declared.unit.Length.TheVariants as long
use Rattle.f95_unit.specs.declared.unit.DeclaredType.{DeclaredType}
use Rattle.f95_unit.specs.declared.unit.DeclaredType.TheVariants as declared_type
use Rattle.proc_calls.specs.Interfaces.{kind_of, known_length}
use Rattle.well_typed.specs.Entities.{is_input, unknown_dim}
use Rattle.well_typed.specs.declared.known.Variable.{Variable}

-- ---- the variables of a scope, in the order in which their declarations act

abbrev pub declares_variable : Form → Bool
declares_variable (Brings place m) = false
declares_variable (Declares o) = not (is_constant o)
declares_variable (Types t) = true
declares_variable Begins = false

abbrev pub variable_sites : Scope → List Sited
variable_sites c = filter (λ (s : Sited). declares_variable s.entry.form) (sites c)

abbrev pub is_named : Word → Sited → Bool
is_named name s = is_word name s.entry.name

abbrev pub variable_number : Scope → Word → Option ℕ
variable_number c name = position_from (is_named name) 0 (variable_sites c)

-- ---- dummies: their places, and INTENT

abbrev pub dummy_place : Scope → Word → Option ℕ
dummy_place c name = position_from (is_word name) 0 (dummies_of c.place)

abbrev pub meant_intent : SourceIntent → Intent
meant_intent source_intent.In = intent.In
meant_intent source_intent.Out = intent.Out
meant_intent source_intent.InOut = intent.InOut
meant_intent source_intent.InAndOut = intent.InOut

abbrev pub intents_of : Attribute → Option Intent
intents_of Parameter = None
intents_of Allocatable = None
intents_of (Dimension dims) = None
intents_of (Intended i) = Some (meant_intent i)

abbrev pub first_intent : List Intent → Intent
first_intent [] = intent.In
first_intent (i ∷ more) = i

abbrev pub intent_of : Form → Intent
intent_of (Declares o) = first_intent (filter_map intents_of o.attributes)
intent_of other = intent.In

abbrev pub role_at : Option ℕ → Intent → Role
role_at None i = role.Own
role_at (Some place) i = role.Dummy place i

abbrev pub role_of : Scope → Sited → Role
role_of c s = role_at (dummy_place c s.entry.name) (intent_of s.entry.form)

-- ---- types

abbrev pub is_assumed : TypeSpec → Bool
is_assumed (Character Assumed) = true
is_assumed of = false

abbrev pub text_type : Bool → Option ℕ → DeclaredType
text_type true n = declared_type.Character long.Assumed
text_type false None = declared_type.Character (long.Fixed 0)
text_type false (Some n) = declared_type.Character (long.Fixed n)

abbrev pub type_by : Kind → Bool → Option ℕ → DeclaredType
type_by kind.Int assumed n = declared_type.Integer
type_by kind.Log assumed n = declared_type.Logical
type_by kind.Text assumed n = text_type assumed n

-- the length that the type declares, where it is known
abbrev pub length_at : Scope → Sited → Form → Option ℕ
length_at c s (Declares o) = declared_length (sense_at c s) o.of
length_at c s (Types t) = declared_length (prefix_sense c) t
length_at c s other = None

abbrev pub type_of : Scope → Sited → Form → DeclaredType
type_of c s (Declares o) = type_by (declared_kind o.of) (is_assumed o.of) (length_at c s (Declares o))
type_of c s (Types t) = type_by (declared_kind t) (is_assumed t) (length_at c s (Types t))
type_of c s other = declared_type.Integer

-- ---- a variable before its bounds are known

abbrev pub dims_in : Form → List Dim
dims_in (Declares o) = o.dims
dims_in other = []

abbrev pub is_allocatable : Form → Bool
is_allocatable (Declares o) = has_allocatable o
is_allocatable other = false

abbrev pub variable : Scope → Sited → Variable
variable c s = record {
  kind = kind_of (type_of c s s.entry.form);
  length = known_length (type_of c s s.entry.form);
  dims = map (λ (d : Dim). unknown_dim) (dims_in s.entry.form);
  allocatable = is_allocatable s.entry.form;
  input = is_input (role_of c s);
}

abbrev pub variables_before : Scope → List Variable
variables_before c = map (variable c) (variable_sites c)

-- ---- the result of a function

abbrev pub result_number_in : Scope → Option Function → Option ℕ
result_number_in c None = None
result_number_in c (Some f) = variable_number c f.result

abbrev pub result_number : Scope → Place → Option ℕ
result_number c InMain = None
result_number c InModule = None
result_number c (InProcedure p) = result_number_in c p.function
