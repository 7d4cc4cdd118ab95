-- The rules of refusal on names and declarations: on which lines of a scope each of them holds, and which are broken in a source.
use Rattle.std.specs.Prelude.{ℕ, ℤ, pos, ◌*◌, ◌+ℤ◌, ◌-ℤ◌, nat_lt, int_lt, Bool, true, false, not, ◌&&◌, ◌||◌, unsigned_abs}
use Rattle.std.specs.Prelude.{if◌then◌else◌, List, [], ◌∷◌, ◌++◌, map, length, Option, Some, None}
use Rattle.std.specs.List.{list_any, list_all, filter, flat_map, filter_map}
use Rattle.std.specs.Option.{is_some, is_none}
use Rattle.a95_base.specs.declared.scalar.Scalar.TheVariants as scalar
use Rattle.a95_base.specs.declared.scalar.Kind.{Kind}
use Rattle.a95_base.specs.declared.scalar.Kind.TheVariants as kind
use Rattle.a95_base.specs.Limits.{greatest_rank, most_elements}
use Rattle.a95_base.specs.Lists.{Member}
use Rattle.a95_base.specs.Rules.{declared_twice, undeclared, wrong_attributes, wrong_dummy, not_constant, constant_faults}
use Rattle.a95_base.specs.Rules.{rank_too_great, wrong_length, shape_too_large, unknown_use, host_variable, wrong_result}
use Rattle.a95_base.specs.Rules.{no_specification_expression}
use Rattle.f95_tree.specs.Forms.{Word}
use Rattle.intrinsic_table.specs.Finding.{is_word}
use Rattle.names_types.specs.declared.mention.Mention.{Mention}
use Rattle.names_types.specs.Plain.{Expr, Constructor, Values, no_value, value, loop, Number, Computed, Assumed, TypeSpec, Integer, Logical, Character, Dim, Upper, Both, Lower, Deferred, Attribute, Use, Function, Source}
use Rattle.names_types.specs.Constants.{Worth, Is, is_spoilt, Valued, is_kind, Sense, valued}
use Rattle.names_types.specs.Scopes.{is_among, Object, is_parameter, is_allocatable, is_dimension, is_intended, is_constant}
use Rattle.names_types.specs.Scopes.{has_allocatable, has_intent, is_scalar, kind_of, Meant, Form, Brings, Declares, Types, Begins}
use Rattle.names_types.specs.Scopes.{Entry, Share, Offer, offer_named, Place, InMain, InModule, InProcedure, Scope, entries}
use Rattle.names_types.specs.Scopes.{own_names, constant_sense, worth_in, length_within, Sited, meant, sites, scopes, is_undeclared}
use Rattle.names_types.specs.Scopes.{is_of_host, is_settled, mentions, dummies_of, is_dummy, entries_named, some_object}
use Rattle.names_types.specs.Scopes.{specification_sense}

-- the lines of those at which a test holds
abbrev pub lines_where : {A : Type 0} → (A → ℕ) → (A → Bool) → List A → List ℕ
lines_where line test xs = map line (filter test xs)

abbrev pub site_line : Sited → ℕ
site_line s = s.entry.line

-- the line of a rule that speaks of a name: its first declaration, where it has one and stands at most once in the list of dummies;
-- else the SUBROUTINE or FUNCTION statement
abbrev pub is_repeated : Scope → Word → Bool
is_repeated c name = nat_lt 1 (length (filter (is_word name) (dummies_of c.place)))

abbrev pub first_line : ℕ → List Entry → ℕ
first_line heading [] = heading
first_line heading (e ∷ more) = e.line

abbrev pub name_line : ℕ → Scope → Word → ℕ
name_line heading c name = if is_repeated c name then heading else first_line heading (entries_named c name)

abbrev pub in_procedure : Place → Bool
in_procedure InMain = false
in_procedure InModule = false
in_procedure (InProcedure p) = true

abbrev pub in_module : Place → Bool
in_module InMain = false
in_module InModule = true
in_module (InProcedure p) = false

-- the sites of a scope whose name stands in a declaration for which a test holds
abbrev pub declares : (Sited → Object → Bool) → Sited → Form → Bool
declares test s (Brings place m) = false
declares test s (Declares o) = test s o
declares test s (Types t) = false
declares test s Begins = false

abbrev pub objects_where : Scope → (Sited → Object → Bool) → List ℕ
objects_where c test = lines_where site_line (λ (s : Sited). declares test s s.entry.form) (sites c)

-- ---- rule 18: a name has two declarations in one scope; it holds at each but the first

abbrev pub declared_twice_on : Scope → List ℕ
declared_twice_on c =
    lines_where site_line (λ (s : Sited). list_any (λ (e : Entry). is_word s.entry.name e.name) s.earlier) (sites c)

-- ---- rule 19: a name has no declaration and is no intrinsic

abbrev pub undeclared_on : Scope → List ℕ
undeclared_on c = lines_where (λ (m : Mention). m.line) (λ (m : Mention). is_undeclared c m.name) (mentions c)

-- ---- rule 20: attributes don't go together; those of DIMENSION count only where the entity has no bounds of its own

abbrev pub is_open : Dim → Bool
is_open (Upper upper) = false
is_open (Both lower upper) = false
is_open (Lower lower) = true
is_open Deferred = true

abbrev pub is_deferred : Dim → Bool
is_deferred (Upper upper) = false
is_deferred (Both lower upper) = false
is_deferred (Lower lower) = false
is_deferred Deferred = true

abbrev pub more_than_one : {A : Type 0} → (A → Bool) → List A → Bool
more_than_one test xs = nat_lt 1 (length (filter test xs))

abbrev pub result_name : Option Function → List Word
result_name None = []
result_name (Some f) = f.result ∷ []

abbrev pub result_names : Place → List Word
result_names InMain = []
result_names InModule = []
result_names (InProcedure p) = result_name p.function

-- PARAMETER without value or with bounds, or on a dummy or a result
abbrev pub wrong_constant : Scope → Word → Object → Bool
wrong_constant c name o = is_constant o
    && (is_none o.initial || (not (is_scalar o) || (is_dummy c name || is_among (result_names c.place) name)))

-- ALLOCATABLE on a dummy, without bounds, or with a bound other than `:`
abbrev pub wrong_allocatable : Scope → Word → Object → Bool
wrong_allocatable c name o = has_allocatable o && (is_dummy c name || (is_scalar o || not (list_all is_deferred o.dims)))

-- a variable in a module
abbrev pub wrong_in_module : Scope → Object → Bool
wrong_in_module c o = in_module c.place && not (is_constant o)

-- an initial value in a procedure
abbrev pub wrong_initial : Scope → Object → Bool
wrong_initial c o = in_procedure c.place && (is_some o.initial && not (is_constant o))

-- `:` or `e :` on something that is neither dummy nor ALLOCATABLE, or in some dimensions of a dummy and not in all
abbrev pub wrong_open : Scope → Word → Object → Bool
wrong_open c name o = list_any is_open o.dims
    && (not (is_dummy c name || has_allocatable o) || (is_dummy c name && not (list_all is_open o.dims)))

-- two of one attribute
abbrev pub has_one_twice : List Attribute → Bool
has_one_twice attributes = more_than_one is_parameter attributes
    || (more_than_one is_allocatable attributes || (more_than_one is_dimension attributes || more_than_one is_intended attributes))

abbrev pub attributes_disagree : Scope → Sited → Object → Bool
attributes_disagree c s o = wrong_constant c s.entry.name o || (wrong_allocatable c s.entry.name o || (wrong_in_module c o
    || (wrong_initial c o || (wrong_open c s.entry.name o || has_one_twice o.attributes))))

abbrev pub wrong_attributes_on : Scope → List ℕ
wrong_attributes_on c = objects_where c (attributes_disagree c)

-- ---- rule 21: a dummy has no declaration or no INTENT, or stands twice in its list, or INTENT stands on something else

-- INTENT anywhere among the declarations of a dummy is its INTENT; what else stands there is for rule 18
abbrev pub is_wrong_dummy : Scope → Word → Bool
is_wrong_dummy c name = is_repeated c name || not (some_object c has_intent name)

abbrev pub wrong_dummies : Scope → Place → List ℕ
wrong_dummies c InMain = []
wrong_dummies c InModule = []
wrong_dummies c (InProcedure p) = lines_where (name_line p.line c) (is_wrong_dummy c) p.dummies

abbrev pub intended_others : Scope → List ℕ
intended_others c = lines_where (λ (s : Sited). name_line s.entry.line c s.entry.name)
    (λ (s : Sited). declares (λ t o. has_intent o && not (is_dummy c t.entry.name)) s s.entry.form) (sites c)

abbrev pub wrong_dummy_on : Scope → List ℕ
wrong_dummy_on c = wrong_dummies c c.place ++ intended_others c

-- ---- where a declaration or a prefix needs a constant expression

-- an expression on a line, the kind that it is to have, and what names mean there
pub record Demand : Type 0 where
  pub line : ℕ
  pub expr : Expr
  pub kind : Kind
  pub sense : Word → Sense

abbrev pub demand : ℕ → Kind → (Word → Sense) → Expr → Demand
demand line k sense e = record { line = line; expr = e; kind = k; sense = sense }

abbrev pub length_exprs : TypeSpec → List Expr
length_exprs Integer = []
length_exprs Logical = []
length_exprs (Character (Number z)) = []
length_exprs (Character (Computed e)) = e ∷ []
length_exprs (Character Assumed) = []

abbrev pub bound_exprs : Dim → List Expr
bound_exprs (Upper upper) = upper ∷ []
bound_exprs (Both lower upper) = lower ∷ upper ∷ []
bound_exprs (Lower lower) = lower ∷ []
bound_exprs Deferred = []

abbrev pub has_loop : Values → Bool
has_loop no_value = false
has_loop (value e more) = has_loop more
has_loop (loop body variable first last step more) = true

abbrev pub value_exprs : Values → List Expr
value_exprs no_value = []
value_exprs (value e more) = e ∷ value_exprs more
value_exprs (loop body variable first last step more) = value_exprs more

-- the values of a constructor without implied DO, or the expression itself; a constructor in brackets or in another one is no
-- constant expression. Its rank, its extents and its lengths are for later rules
abbrev pub element_exprs : Expr → List Expr
element_exprs (Constructor values) = if has_loop values then Constructor values ∷ [] else value_exprs values
element_exprs e = e ∷ []

-- the initial value of an array variable may be a constructor
abbrev pub initial_exprs : Object → Option Expr → List Expr
initial_exprs o None = []
initial_exprs o (Some e) = if is_constant o || is_scalar o then e ∷ [] else element_exprs e

-- what names mean in a constant expression at a declaration
abbrev pub sense_at : Scope → Sited → Word → Sense
sense_at c s = constant_sense (own_names c) c.host s.before

abbrev pub brought_meaning : Entry → Form → Option Meant
brought_meaning e (Brings place m) = Some (meant e.name m)
brought_meaning e (Declares o) = None
brought_meaning e (Types t) = None
brought_meaning e Begins = None

-- and in a prefix: of the scope's own constants those alone that USE brings stand before it, in their modules
abbrev pub prefix_sense : Scope → Word → Sense
prefix_sense c = constant_sense (own_names c) c.host (filter_map (λ (e : Entry). brought_meaning e e.form) (entries c))

-- in a procedure bounds are specification expressions
abbrev pub constant_bounds : Scope → Object → List Expr
constant_bounds c o = if in_procedure c.place then [] else flat_map bound_exprs o.dims

abbrev pub object_demands : Scope → Sited → Object → List Demand
object_demands c s o = map (demand s.entry.line kind.Int (sense_at c s)) (length_exprs o.of ++ constant_bounds c o)
    ++ map (demand s.entry.line (kind_of o.of) (sense_at c s)) (initial_exprs o o.initial)

abbrev pub form_demands : Scope → Sited → Form → List Demand
form_demands c s (Brings place m) = []
form_demands c s (Declares o) = object_demands c s o
form_demands c s (Types t) = map (demand s.entry.line kind.Int (prefix_sense c)) (length_exprs t)
form_demands c s Begins = []

abbrev pub demands : Scope → List Demand
demands c = flat_map (λ (s : Sited). form_demands c s s.entry.form) (sites c)

abbrev pub has_kind : Kind → Option Valued → Bool
has_kind k None = false
has_kind k (Some v) = is_kind k v.facts.kind

-- ---- rule 22: a declaration or a prefix needs a constant expression and this is none, or its type doesn't fit; an expression
-- whose kinds don't fit each other is none, and one with a name that breaks rule 19 or 28 breaks no further rule

abbrev pub is_no_constant : Scope → Demand → Bool
is_no_constant c d = is_settled c d.expr && not (has_kind d.kind (valued d.sense d.expr))

abbrev pub not_constant_on : Scope → List ℕ
not_constant_on c = lines_where (λ (d : Demand). d.line) (is_no_constant c) (demands c)

-- ---- rule 23: a declaration or a prefix needs a constant expression, and this one has a fault or leaves 32 bits

abbrev pub constant_faults_on : Scope → List ℕ
constant_faults_on c =
    lines_where (λ (d : Demand). d.line) (λ (d : Demand). is_spoilt (worth_in (valued d.sense d.expr))) (demands c)

-- ---- rule 24: a declared rank exceeds 7

abbrev pub rank_too_great_on : Scope → List ℕ
rank_too_great_on c = objects_where c (λ s o. nat_lt greatest_rank (length o.dims))

-- ---- rule 25: a length is outside 0 to 255, or `*` stands on something that is neither dummy nor named constant; the value of
-- a named constant of length `*` may be longer

abbrev pub is_outside : Worth → Bool
is_outside (Is (scalar.Int z)) = is_none (length_within (Is (scalar.Int z)))
is_outside w = false

abbrev pub is_wrong_length : (Word → Sense) → Bool → TypeSpec → Bool
is_wrong_length sense may_be_assumed Integer = false
is_wrong_length sense may_be_assumed Logical = false
is_wrong_length sense may_be_assumed (Character (Number z)) = is_outside (Is (scalar.Int z))
is_wrong_length sense may_be_assumed (Character (Computed e)) = is_outside (worth_in (valued sense e))
is_wrong_length sense may_be_assumed (Character Assumed) = not may_be_assumed

abbrev pub has_wrong_length : Scope → Sited → Form → Bool
has_wrong_length c s (Brings place m) = false
has_wrong_length c s (Declares o) = is_wrong_length (sense_at c s) (is_dummy c s.entry.name || is_constant o) o.of
has_wrong_length c s (Types t) = is_wrong_length (prefix_sense c) (is_dummy c s.entry.name) t
has_wrong_length c s Begins = false

abbrev pub wrong_length_on : Scope → List ℕ
wrong_length_on c = lines_where site_line (λ (s : Sited). has_wrong_length c s s.entry.form) (sites c)

-- ---- rule 26: a declared shape that is constant has more than 2^24 elements; in a procedure too, where all bounds are constant

abbrev pub integer_in : Worth → Option ℤ
integer_in (Is (scalar.Int z)) = Some z
integer_in w = None

abbrev pub bound_in : (Word → Sense) → Expr → Option ℤ
bound_in sense e = integer_in (worth_in (valued sense e))

abbrev pub extent_between : Option ℤ → Option ℤ → Option ℕ
extent_between None upper = None
extent_between (Some l) None = None
extent_between (Some l) (Some u) = Some (if int_lt u l then 0 else unsigned_abs (u -ℤ l +ℤ pos 1))

abbrev pub constant_extent : (Word → Sense) → Dim → Option ℕ
constant_extent sense (Upper upper) = extent_between (Some (pos 1)) (bound_in sense upper)
constant_extent sense (Both lower upper) = extent_between (bound_in sense lower) (bound_in sense upper)
constant_extent sense (Lower lower) = None
constant_extent sense Deferred = None

abbrev pub times : Option ℕ → Option ℕ → Option ℕ
times None n = None
times (Some m) None = None
times (Some m) (Some n) = Some (m * n)

-- the number of elements, where all bounds are constant and none is spoilt
abbrev pub constant_size : (Word → Sense) → List Dim → Option ℕ
constant_size sense [] = Some 1
constant_size sense (d ∷ more) = times (constant_extent sense d) (constant_size sense more)

abbrev pub is_too_large : Option ℕ → Bool
is_too_large None = false
is_too_large (Some n) = nat_lt most_elements n

abbrev pub shape_too_large_on : Scope → List ℕ
shape_too_large_on c = objects_where c (λ s o. is_too_large (constant_size (sense_at c s) o.dims))

-- ---- rule 27: USE names no module above, or ONLY a name that it doesn't have

abbrev pub share_names : Offer → List Word
share_names o = map (λ (s : Share). s.name) o.shares

abbrev pub lacks_some : Option (List Word) → Offer → Bool
lacks_some None o = false
lacks_some (Some only) o = list_any (λ n. not (is_among (share_names o) n)) only

abbrev pub is_unknown : Option (List Word) → Option Offer → Bool
is_unknown only None = true
is_unknown only (Some o) = lacks_some only o

abbrev pub unknown_use_on : Scope → List ℕ
unknown_use_on c = lines_where (λ (u : Use). u.line) (λ (u : Use). is_unknown u.only (offer_named c.above u.«module»)) c.part.uses

-- ---- rule 28: a procedure names a variable of its host that it doesn't declare itself

abbrev pub host_variable_on : Scope → List ℕ
host_variable_on c = lines_where (λ (m : Mention). m.line) (λ (m : Mention). is_of_host c m.name) (mentions c)

-- ---- rule 29: a function's result has no declaration, or has INTENT, ALLOCATABLE, assumed shape or length `*`

abbrev pub is_assumed : TypeSpec → Bool
is_assumed (Character Assumed) = true
is_assumed of = false

abbrev pub is_wrong_result : Form → Bool
is_wrong_result (Brings place m) = false
is_wrong_result (Declares o) = has_intent o || (has_allocatable o || (list_any is_open o.dims || is_assumed o.of))
is_wrong_result (Types t) = is_assumed t
is_wrong_result Begins = false

abbrev pub has_wrong_declaration : List Entry → Bool
has_wrong_declaration [] = true
has_wrong_declaration (e ∷ more) = is_wrong_result e.form || list_any (λ (d : Entry). is_wrong_result d.form) more

abbrev pub wrong_results : Scope → Place → List ℕ
wrong_results c InMain = []
wrong_results c InModule = []
wrong_results c (InProcedure p) =
    lines_where (name_line p.line c) (λ name. has_wrong_declaration (entries_named c name)) (result_name p.function)

abbrev pub wrong_result_on : Scope → List ℕ
wrong_result_on c = wrong_results c c.place

-- ---- rule 30: a bound in a procedure is no specification expression; a fault in it comes when the procedure runs

abbrev pub is_no_specification : Scope → Sited → Expr → Bool
is_no_specification c s e = is_settled c e && not (has_kind kind.Int (valued (specification_sense c s.before) e))

abbrev pub no_specification_on : Scope → List ℕ
no_specification_on c =
    objects_where c (λ s o. in_procedure c.place && list_any (is_no_specification c s) (flat_map bound_exprs o.dims))

-- ---- all rules

-- the lines of all scopes
abbrev pub anywhere : (Scope → List ℕ) → Source → List ℕ
anywhere lines s = flat_map lines (scopes s)

-- a source breaks the rule on the line
pub data Breaks (s : Source) : ℕ → ℕ → Type 0 where
  is_declared_twice : (line : ℕ) → Member (anywhere declared_twice_on s) line → Breaks s line declared_twice
  is_undeclared_name : (line : ℕ) → Member (anywhere undeclared_on s) line → Breaks s line undeclared
  has_wrong_attributes : (line : ℕ) → Member (anywhere wrong_attributes_on s) line → Breaks s line wrong_attributes
  has_wrong_dummy : (line : ℕ) → Member (anywhere wrong_dummy_on s) line → Breaks s line wrong_dummy
  has_no_constant : (line : ℕ) → Member (anywhere not_constant_on s) line → Breaks s line not_constant
  has_constant_faults : (line : ℕ) → Member (anywhere constant_faults_on s) line → Breaks s line constant_faults
  has_great_rank : (line : ℕ) → Member (anywhere rank_too_great_on s) line → Breaks s line rank_too_great
  has_wrong_length_at : (line : ℕ) → Member (anywhere wrong_length_on s) line → Breaks s line wrong_length
  has_large_shape : (line : ℕ) → Member (anywhere shape_too_large_on s) line → Breaks s line shape_too_large
  has_unknown_use : (line : ℕ) → Member (anywhere unknown_use_on s) line → Breaks s line unknown_use
  names_host_variable : (line : ℕ) → Member (anywhere host_variable_on s) line → Breaks s line host_variable
  has_wrong_result : (line : ℕ) → Member (anywhere wrong_result_on s) line → Breaks s line wrong_result
  has_no_specification : (line : ℕ) → Member (anywhere no_specification_on s) line → Breaks s line no_specification_expression
