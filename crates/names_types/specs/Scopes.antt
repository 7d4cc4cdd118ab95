-- Scopes: which names each one declares, by which statement, and what each name means there. A scope is the main program, a module,
-- or a procedure; it sees its own names, and a procedure sees of its host the named constants and the procedures.
use Rattle.std.specs.Prelude.{ℕ, pos, suc, nat_le, Bool, true, false, not, ◌&&◌, ◌||◌, ◌==◌, if◌then◌else◌, List, [], ◌∷◌, ◌++◌}
use Rattle.std.specs.Prelude.{map, length, Option, Some, None, option_map}
use Rattle.std.specs.List.{list_any, list_all, find, filter, flat_map, filter_map}
use Rattle.std.specs.Option.{is_none}
use Rattle.a95_base.specs.declared.scalar.Scalar.{Scalar}
use Rattle.a95_base.specs.declared.scalar.Scalar.TheVariants as scalar
use Rattle.a95_base.specs.declared.scalar.Kind.{Kind}
use Rattle.a95_base.specs.declared.scalar.Kind.TheVariants as kind
use Rattle.a95_base.specs.Limits.{longest_text}
use Rattle.a95_base.specs.Text.{fit}
use Rattle.f95_tree.specs.Forms.{Word}
use Rattle.f95_tree.specs.declared.declaration.Intent.{Intent}
use Rattle.f95_tree.specs.declared.declaration.Intent.TheVariants as intent
use Rattle.intrinsic_table.specs.declared.intrinsic.Intrinsic.{Intrinsic}
use Rattle.intrinsic_table.specs.Finding.{is_word}
use Rattle.names_types.specs.Keywords.{intrinsic_named}
use Rattle.names_types.specs.Plain.{Expr, Number, Computed, Assumed, TypeSpec, Integer, Logical, Character, Dim, Attribute, Parameter, Allocatable, Dimension, Intended, Entity, Declaration, Use, Part, Function, Procedure, Host, Module, Source}
use Rattle.names_types.specs.declared.mention.Mention.{Mention}
pub use Rattle.names_types.specs.declared.meaning.Meaning.{Meaning}
pub use Rattle.names_types.specs.declared.meaning.Meaning.TheVariants.{Constant, Variable, Called}
pub use Rattle.names_types.specs.declared.meaning.Share.{Share}
pub use Rattle.names_types.specs.declared.meaning.Offer.{Offer}
use Rattle.names_types.specs.Mentions.{names_in, names_in_type, mentions_on, mentions_in_declarations}
use Rattle.names_types.specs.Constants.{facts_of, an_integer, is_kind, Worth, Is, Spoilt, Unknown, Valued, valued_as, Sense, Names}
use Rattle.names_types.specs.Constants.{NamesArray, NamesIntrinsic, NamesOther, valued, then_option, only_if, text_of}

abbrev pub is_among : List Word → Word → Bool
is_among words word = list_any (is_word word) words

-- ---- what a declaration says of a name

-- the type, the attributes, the bounds, and the initial value
pub record Object : Type 0 where
  pub of : TypeSpec
  pub attributes : List Attribute
  pub dims : List Dim
  pub initial : Option Expr

abbrev pub dims_of_attribute : Attribute → Option (List Dim)
dims_of_attribute Parameter = None
dims_of_attribute Allocatable = None
dims_of_attribute (Dimension dims) = Some dims
dims_of_attribute (Intended i) = None

abbrev pub first_dims : List (List Dim) → List Dim
first_dims [] = []
first_dims (dims ∷ more) = dims

-- the bounds of an entity win over those of DIMENSION; a scalar has none
abbrev pub dims_of : Option (List Dim) → List Attribute → List Dim
dims_of (Some dims) attributes = dims
dims_of None attributes = first_dims (filter_map dims_of_attribute attributes)

abbrev pub object_of : Declaration → Entity → Object
object_of d e = record { of = d.of; attributes = d.attributes; dims = dims_of e.dims d.attributes; initial = e.initial }

abbrev pub is_parameter : Attribute → Bool
is_parameter Parameter = true
is_parameter Allocatable = false
is_parameter (Dimension dims) = false
is_parameter (Intended i) = false

abbrev pub is_allocatable : Attribute → Bool
is_allocatable Parameter = false
is_allocatable Allocatable = true
is_allocatable (Dimension dims) = false
is_allocatable (Intended i) = false

abbrev pub is_dimension : Attribute → Bool
is_dimension Parameter = false
is_dimension Allocatable = false
is_dimension (Dimension dims) = true
is_dimension (Intended i) = false

abbrev pub is_intended : Attribute → Bool
is_intended Parameter = false
is_intended Allocatable = false
is_intended (Dimension dims) = false
is_intended (Intended i) = true

abbrev pub may_be_read : Intent → Bool
may_be_read intent.In = true
may_be_read intent.Out = false
may_be_read intent.InOut = true
may_be_read intent.InAndOut = true

abbrev pub is_read : Attribute → Bool
is_read Parameter = false
is_read Allocatable = false
is_read (Dimension dims) = false
is_read (Intended i) = may_be_read i

abbrev pub is_constant : Object → Bool
is_constant o = list_any is_parameter o.attributes

abbrev pub has_allocatable : Object → Bool
has_allocatable o = list_any is_allocatable o.attributes

abbrev pub has_intent : Object → Bool
has_intent o = list_any is_intended o.attributes

abbrev pub is_scalar : Object → Bool
is_scalar o = length o.dims == 0

abbrev pub kind_of : TypeSpec → Kind
kind_of Integer = kind.Int
kind_of Logical = kind.Log
kind_of (Character l) = kind.Text

-- ---- what a name means

pub record Meant : Type 0 where
  pub name : Word
  pub meaning : Meaning

-- the first that a list says of a name
abbrev pub meaning_in : List Meant → Word → Option Meaning
meaning_in meant name = option_map (λ (m : Meant). m.meaning) (find (λ (m : Meant). is_word name m.name) meant)

-- ---- declarations of names

-- how a statement declares a name
pub data Form : Type 0 where
  -- by USE: the module that has it as its own, by that module's place in the file, and what it means
  Brings : (place : ℕ) → Meaning → Form
  -- in a declaration
  Declares : Object → Form
  -- by the type that stands before FUNCTION
  Types : TypeSpec → Form
  -- by SUBROUTINE or FUNCTION behind CONTAINS
  Begins : Form

pub record Entry : Type 0 where
  pub line : ℕ
  pub name : Word
  pub form : Form

abbrev pub entry : ℕ → Word → Form → Entry
entry line name form = record { line = line; name = name; form = form }

pub data Place : Type 0 where
  InMain : Place
  InModule : Place
  InProcedure : Procedure → Place

-- `above` has the modules that end before, the nearest first, so that a procedure doesn't see its own
-- module there; `host` what the names of the host mean
pub record Scope : Type 0 where
  pub above : List Offer
  pub host : List Meant
  pub place : Place
  pub part : Part
  pub procedures : List Procedure

-- two modules may have one name: the nearest one above is meant
abbrev pub offer_named : List Offer → Word → Option Offer
offer_named above name = find (λ (o : Offer). is_word name o.name) above

abbrev pub listed_in : Option (List Word) → Share → Bool
listed_in None s = true
listed_in (Some only) s = is_among only s.name

abbrev pub share_entry : ℕ → Share → Entry
share_entry line s = entry line s.name (Brings s.place s.meaning)

abbrev pub brought_from : Use → Option Offer → List Entry
brought_from u None = []
brought_from u (Some o) = map (share_entry u.line) (filter (listed_in u.only) o.shares)

abbrev pub brought_by : List Offer → Use → List Entry
brought_by above u = brought_from u (offer_named above u.«module»)

-- both bring one name of one module
abbrev pub bring_the_same : Form → Form → Bool
bring_the_same (Brings p m) (Brings q n) = p == q
bring_the_same (Brings p m) (Declares o) = false
bring_the_same (Brings p m) (Types t) = false
bring_the_same (Brings p m) Begins = false
bring_the_same (Declares o) form = false
bring_the_same (Types t) form = false
bring_the_same Begins form = false

abbrev pub is_again : List Entry → Entry → Bool
is_again before e = list_any (λ (d : Entry). is_word e.name d.name && bring_the_same d.form e.form) before

-- what is brought again is not declared again
abbrev pub brought_once : List Entry → List Entry → List Entry
brought_once before [] = []
brought_once before (e ∷ more) =
    if is_again before e then brought_once before more else e ∷ brought_once (before ++ e ∷ []) more

abbrev pub declared_by : Declaration → List Entry
declared_by d = map (λ (e : Entity). entry d.line e.name (Declares (object_of d e))) d.entities

abbrev pub begun_by : Procedure → Entry
begun_by p = entry p.line p.name Begins

-- the type before FUNCTION declares the result, at that statement
abbrev pub typed_by : ℕ → Word → Option TypeSpec → List Entry
typed_by line result None = []
typed_by line result (Some t) = entry line result (Types t) ∷ []

abbrev pub typed_result : ℕ → Option Function → List Entry
typed_result line None = []
typed_result line (Some f) = typed_by line f.result f.of

abbrev pub heading_entries : Place → List Entry
heading_entries InMain = []
heading_entries InModule = []
heading_entries (InProcedure p) = typed_result p.line p.function

-- the declarations of a scope in the order of the text. The names of programs, modules and constructs are none, nor are the list of
-- dummies and RESULT
abbrev pub entries : Scope → List Entry
entries c = heading_entries c.place ++ (brought_once [] (flat_map (brought_by c.above) c.part.uses)
    ++ (flat_map declared_by c.part.declarations ++ map begun_by c.procedures))

abbrev pub own_names : Scope → List Word
own_names c = map (λ (e : Entry). e.name) (entries c)

-- ---- constants, with the declarations before them

abbrev pub sense_of : Option Meaning → Sense
sense_of None = NamesOther
sense_of (Some (Constant v)) = Names v
sense_of (Some (Variable rank)) = NamesOther
sense_of (Some Called) = NamesOther

-- an intrinsic, where no declaration hides it
abbrev pub intrinsic_sense : Option Intrinsic → Sense
intrinsic_sense None = NamesOther
intrinsic_sense (Some which) = NamesIntrinsic which

abbrev pub host_sense : Option Meaning → Word → Sense
host_sense None name = intrinsic_sense (intrinsic_named name)
host_sense (Some m) name = sense_of (Some m)

-- what a name means in a constant expression: of the scope's own names those alone that stand before it
abbrev pub constant_sense : List Word → List Meant → List Meant → Word → Sense
constant_sense own host before name =
    if is_among own name then sense_of (meaning_in before name) else host_sense (meaning_in host name) name

abbrev pub worth_in : Option Valued → Worth
worth_in None = Unknown
worth_in (Some v) = v.worth

-- a length that a variable may have
abbrev pub length_within : Worth → Option ℕ
length_within (Is (scalar.Int (pos n))) = only_if (nat_le n longest_text) n
length_within w = None

abbrev pub declared_length : (Word → Sense) → TypeSpec → Option ℕ
declared_length sense Integer = None
declared_length sense Logical = None
declared_length sense (Character (Number z)) = length_within (Is (scalar.Int z))
declared_length sense (Character (Computed e)) = length_within (worth_in (valued sense e))
declared_length sense (Character Assumed) = None

abbrev pub text_length : Worth → Option ℕ → Option ℕ
text_length (Is x) known = Some (length (text_of x))
text_length Spoilt known = known
text_length Unknown known = known

-- a named constant of length `*` has that of its value
abbrev pub constant_length : TypeSpec → Option ℕ → Valued → Option ℕ
constant_length (Character Assumed) n v = text_length v.worth v.facts.length
constant_length of n v = n

-- a text is cut to the declared length, or padded
abbrev pub stored : TypeSpec → Option ℕ → Scalar → Worth
stored Integer n x = Is x
stored Logical n x = Is x
stored (Character Assumed) n x = Is x
stored (Character l) None x = Unknown
stored (Character l) (Some n) x = Is (scalar.Text (fit n (text_of x)))

-- a constant whose own expression is spoilt has no value, and spoils no other
abbrev pub stored_worth : TypeSpec → Option ℕ → Worth → Worth
stored_worth of n (Is x) = stored of n x
stored_worth of n Spoilt = Unknown
stored_worth of n Unknown = Unknown

abbrev pub constant_from : TypeSpec → Option ℕ → Option Valued → Valued
constant_from of n None = valued_as (facts_of (kind_of of) n) Unknown
constant_from of n (Some v) =
    if is_kind (kind_of of) v.facts.kind then valued_as (facts_of (kind_of of) (constant_length of n v)) (stored_worth of n v.worth)
    else valued_as (facts_of (kind_of of) n) Unknown

abbrev pub constant_value : (Word → Sense) → Object → Valued
constant_value sense o = constant_from o.of (declared_length sense o.of) (then_option o.initial (valued sense))

abbrev pub object_meaning : (Word → Sense) → Object → Meaning
object_meaning sense o = if is_constant o then Constant (constant_value sense o) else Variable (length o.dims)

abbrev pub form_meaning : (Word → Sense) → Form → Meaning
form_meaning sense (Brings place m) = m
form_meaning sense (Declares o) = object_meaning sense o
form_meaning sense (Types t) = Variable 0
form_meaning sense Begins = Called

-- ---- the names of a scope, with what stands before each

pub record Sited : Type 0 where
  pub entry : Entry
  pub meaning : Meaning
  -- the declarations before it, and what their names mean
  pub earlier : List Entry
  pub before : List Meant

abbrev pub site : Entry → Meaning → List Entry → List Meant → Sited
site e m earlier before = record { entry = e; meaning = m; earlier = earlier; before = before }

abbrev pub meant : Word → Meaning → Meant
meant name m = record { name = name; meaning = m }

abbrev pub entry_meaning : List Word → List Meant → List Meant → Entry → Meaning
entry_meaning own host before e = form_meaning (constant_sense own host before) e.form

abbrev pub sited_from : List Word → List Meant → List Entry → List Meant → List Entry → List Sited
sited_from own host earlier before [] = []
sited_from own host earlier before (e ∷ more) =
    site e (entry_meaning own host before e) earlier before
    ∷ sited_from own host (earlier ++ e ∷ []) (before ++ meant e.name (entry_meaning own host before e) ∷ []) more

abbrev pub sites : Scope → List Sited
sites c = sited_from (own_names c) c.host [] [] (entries c)

abbrev pub meanings : Scope → List Meant
meanings c = map (λ (s : Sited). meant s.entry.name s.meaning) (sites c)

-- ---- all scopes of a source

abbrev pub scope : List Offer → List Meant → Place → Part → List Procedure → Scope
scope above host place part procedures = record { above = above; host = host; place = place; part = part; procedures = procedures }

abbrev pub host_scope : List Offer → Place → Host → Scope
host_scope above place h = scope above [] place h.part h.procedures

abbrev pub procedure_scope : Scope → Procedure → Scope
procedure_scope c p = scope c.above (meanings c) (InProcedure p) p.part []

-- a host, and its procedures
abbrev pub with_procedures : Scope → List Scope
with_procedures c = c ∷ map (procedure_scope c) c.procedures

-- the module that has a name as its own
abbrev pub home : ℕ → Form → ℕ
home place (Brings p m) = p
home place (Declares o) = place
home place (Types t) = place
home place Begins = place

abbrev pub is_shared : Meaning → Bool
is_shared (Constant v) = true
is_shared (Variable rank) = false
is_shared Called = true

abbrev pub share_of : ℕ → Sited → Share
share_of place s = record { name = s.entry.name; place = home place s.entry.form; meaning = s.meaning }

-- the constants and the procedures of a module: its own ones, and those that its USE statements bring
abbrev pub offer_of : ℕ → List Offer → Module → Offer
offer_of place above m = record {
  name = m.name;
  shares = map (share_of place) (filter (λ (s : Sited). is_shared s.meaning) (sites (host_scope above InModule m.host)));
}

abbrev pub offers_from : ℕ → List Offer → List Module → List Offer
offers_from place above [] = above
offers_from place above (m ∷ more) = offers_from (suc place) (offer_of place above m ∷ above) more

abbrev pub module_scopes_from : ℕ → List Offer → List Module → List Scope
module_scopes_from place above [] = []
module_scopes_from place above (m ∷ more) =
    with_procedures (host_scope above InModule m.host) ++ module_scopes_from (suc place) (offer_of place above m ∷ above) more

abbrev pub scopes : Source → List Scope
scopes s = module_scopes_from 0 [] s.modules ++ with_procedures (host_scope (offers_from 0 [] s.modules) InMain s.main)

-- ---- names that are named in a scope

abbrev pub is_own : Scope → Word → Bool
is_own c name = is_among (own_names c) name

-- it has no declaration, in the scope or in its host, and is no intrinsic; that an intrinsic's name stands where no function can is
-- for later rules
abbrev pub is_undeclared : Scope → Word → Bool
is_undeclared c name = not (is_own c name) && (is_none (meaning_in c.host name) && is_none (intrinsic_named name))

abbrev pub means_variable : Option Meaning → Bool
means_variable (Some (Variable rank)) = true
means_variable other = false

-- a variable of the host that the scope doesn't declare itself, be it named as an intrinsic or not
abbrev pub is_of_host : Scope → Word → Bool
is_of_host c name = not (is_own c name) && means_variable (meaning_in c.host name)

-- no name in it is undeclared or a variable of the host
abbrev pub is_settled : Scope → Expr → Bool
is_settled c e = list_all (λ n. not (is_undeclared c n || is_of_host c n)) (names_in e)

abbrev pub type_mentions : ℕ → Option TypeSpec → List Mention
type_mentions line None = []
type_mentions line (Some t) = mentions_on line (names_in_type t)

abbrev pub function_mentions : ℕ → Option Function → List Mention
function_mentions line None = []
function_mentions line (Some f) = type_mentions line f.of

abbrev pub heading_mentions : Place → List Mention
heading_mentions InMain = []
heading_mentions InModule = []
heading_mentions (InProcedure p) = function_mentions p.line p.function

-- all that the statements of a scope name, each with its line; the list of dummies and RESULT name nothing
abbrev pub mentions : Scope → List Mention
mentions c = heading_mentions c.place ++ (mentions_in_declarations c.part.declarations ++ c.part.mentions)

-- ---- dummies

abbrev pub first_of : {A : Type 0} → List A → List A
first_of [] = []
first_of (x ∷ xs) = x ∷ []

abbrev pub dummies_of : Place → List Word
dummies_of InMain = []
dummies_of InModule = []
dummies_of (InProcedure p) = p.dummies

abbrev pub is_dummy : Scope → Word → Bool
is_dummy c name = is_among (dummies_of c.place) name

abbrev pub entries_named : Scope → Word → List Entry
entries_named c name = filter (λ (e : Entry). is_word name e.name) (entries c)

abbrev pub of_object : (Object → Bool) → Form → Bool
of_object test (Brings place m) = false
of_object test (Declares o) = test o
of_object test (Types t) = false
of_object test Begins = false

-- INTENT anywhere among the declarations of a name is its INTENT
abbrev pub some_object : Scope → (Object → Bool) → Word → Bool
some_object c test name = list_any (λ (e : Entry). of_object test e.form) (entries_named c name)

abbrev pub first_object : Scope → (Object → Bool) → Word → Bool
first_object c test name = list_any (λ (e : Entry). of_object test e.form) (first_of (entries_named c name))

abbrev pub is_integer_scalar : Object → Bool
is_integer_scalar o = is_kind kind.Int (kind_of o.of) && is_scalar o

-- a scalar INTEGER dummy whose value may be read where the procedure begins
abbrev pub is_readable : Scope → Word → Bool
is_readable c name = is_dummy c name
    && (first_object c is_integer_scalar name && some_object c (λ o. list_any is_read o.attributes) name)

abbrev pub means_array : Option Meaning → Bool
means_array (Some (Variable (suc rank))) = true
means_array other = false

-- what a name means in a specification expression: a scalar dummy may be declared later, an array may not
abbrev pub specification_sense : Scope → List Meant → Word → Sense
specification_sense c before name =
    if is_readable c name then Names (valued_as an_integer Unknown)
    else (if is_dummy c name && means_array (meaning_in before name) then NamesArray
    else constant_sense (own_names c) c.host before name)
