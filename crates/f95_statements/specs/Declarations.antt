-- Which declaration, or which statement that begins a procedure, some terminals are, if any.
use Rattle.std.specs.Prelude.{ℕ, ℤ, zero, suc, Bool, true, false, ◌&&◌, ◌||◌, not, length, reverse, map, List, [], ◌∷◌, ◌++◌}
use Rattle.std.specs.Prelude.{Option, Some, None, option_map, option_and_then, codes, if◌then◌else◌}
use Rattle.f95_tree.specs.declared.expression.Expression.{Expression}
use Rattle.f95_tree.specs.declared.expression.Literal.{Literal}
use Rattle.f95_tree.specs.declared.expression.Literal.TheVariants as literal
use Rattle.f95_tree.specs.declared.terminal.Terminal.{Terminal}
use Rattle.f95_tree.specs.declared.terminal.Terminal.TheVariants as terminal
use Rattle.f95_tree.specs.declared.terminal.Operator.TheVariants as operator
use Rattle.f95_tree.specs.declared.terminal.Punctuation.TheVariants as mark
use Rattle.f95_tree.specs.declared.terminal.Keyword.{Keyword}
use Rattle.f95_tree.specs.declared.terminal.Keyword.TheVariants as keyword
use Rattle.f95_tree.specs.declared.terminal.UnitWord.{UnitWord}
use Rattle.f95_tree.specs.declared.terminal.UnitWord.TheVariants as unit
use Rattle.f95_tree.specs.declared.terminal.TypeWord.{TypeWord}
use Rattle.f95_tree.specs.declared.terminal.TypeWord.TheVariants as type_word
use Rattle.f95_tree.specs.declared.terminal.PrefixWord.{PrefixWord}
use Rattle.f95_tree.specs.declared.terminal.PrefixWord.TheVariants as prefix_name
use Rattle.f95_tree.specs.declared.declaration.Attribute.{Attribute}
use Rattle.f95_tree.specs.declared.declaration.Attribute.TheVariants as attribute
use Rattle.f95_tree.specs.declared.declaration.Declaration.{Declaration}
use Rattle.f95_tree.specs.declared.declaration.Entity.{Entity}
use Rattle.f95_tree.specs.declared.declaration.Intent.{Intent}
use Rattle.f95_tree.specs.declared.declaration.Intent.TheVariants as intent
use Rattle.f95_tree.specs.declared.declaration.Length.{Length}
use Rattle.f95_tree.specs.declared.declaration.Length.TheVariants as length_of
use Rattle.f95_tree.specs.declared.declaration.TypeSpec.{TypeSpec}
use Rattle.f95_tree.specs.declared.declaration.TypeSpec.TheVariants as type_spec
use Rattle.f95_tree.specs.declared.form.Form.{Form}
use Rattle.f95_tree.specs.declared.form.Form.TheVariants as of
use Rattle.f95_tree.specs.declared.form.UnitForm.TheVariants as unit_of
use Rattle.f95_tree.specs.declared.form.Prefix.{Prefix}
use Rattle.f95_tree.specs.declared.form.Prefix.TheVariants as prefix
use Rattle.f95_tree.specs.declared.form.Heading.{Heading}
use Rattle.f95_tree.specs.declared.form.Heading.TheVariants as heading
use Rattle.f95_tree.specs.declared.form.Procedure.{Procedure}
use Rattle.f95_tree.specs.Forms.{Word}
use Rattle.f95_tree.specs.Grades.{all, some}
use Rattle.f95_tree.specs.WellFormed.{is_absent, distinct, prefix_kind, well_heading}
use Rattle.f95_tree.specs.Spelling.{Text}
use Rattle.f95_expressions.specs.declared.pending.Field.{Field}
use Rattle.f95_expressions.specs.declared.pending.Spread.{Spread}
use Rattle.f95_expressions.specs.declared.pending.Spread.TheVariants as spread
use Rattle.f95_expressions.specs.Machine.{lone, whole, collected, within, items_of, bracket, row}
use Rattle.f95_parts.specs.Views.{is, is_nil, behind, behind_star, behind_name, behind_keyword, behind_literal, behind_word}
use Rattle.f95_parts.specs.Views.{nothing_more}
use Rattle.f95_parts.specs.Parts.{dims_of, name_of, entity_of, spread_expression}
use Rattle.f95_statements.specs.Actions.{only, whole_bracket}

-- Types.

-- whether LEN = stands before a length
abbrev pub keyed_of : Option Expression → Option Bool
keyed_of None = Some false
keyed_of (Some left) = option_and_then (λ n. if is (codes "len") n then Some true else None) (whole left)

abbrev pub given_length : Field → Option Length
given_length f = option_and_then (λ keyed. option_map (length_of.Given keyed) (spread_expression f.spread)) (keyed_of f.left)

abbrev pub given_in : List Field × Text → Option (Length × Text)
given_in found = option_map (λ l. (l, found.1)) (option_and_then given_length (only found.0))

-- LEN =, or nothing
abbrev pub behind_len : Text → Option Text
behind_len ts = option_and_then (behind mark.Assign) (behind_word (codes "len") ts)

-- * and a closing bracket
abbrev pub behind_any : Text → Option Text
behind_any ts = option_and_then (behind mark.Close) (behind_star ts)

abbrev pub or_else : {A : Type 0} → Option A → Option A → Option A
or_else None other = other
or_else (Some a) other = Some a

abbrev pub assumed : Bool → Text → Length × Text
assumed keyed rest = (length_of.Assumed keyed, rest)

-- what stands in the brackets of a length, and behind them
abbrev pub length_inside : Text → Option (Length × Text)
length_inside ts =
    or_else (option_map (assumed false) (behind_any ts))
    (or_else (option_map (assumed true) (option_and_then behind_any (behind_len ts))) (option_and_then given_in (bracket ts)))

abbrev pub as_number : Literal → Option ℤ
as_number (literal.Number n) = Some n
as_number _ = None

abbrev pub number_length : Literal × Text → Option (Length × Text)
number_length p = option_map (λ n. (length_of.Number n, p.1)) (as_number p.0)

abbrev pub starred_length : Text → Option (Length × Text)
starred_length ts = option_and_then number_length (behind_literal ts)

abbrev pub length_by : Option Text → Option Text → Text → Option (Length × Text)
length_by (Some behind_a_star) inside ts = starred_length behind_a_star
length_by None (Some inside) ts = length_inside inside
length_by None None ts = Some (length_of.One, ts)

-- the length behind CHARACTER, and what stands behind it
abbrev pub length_at : Text → Option (Length × Text)
length_at ts = length_by (behind_star ts) (behind mark.Open ts) ts

-- a type, and what stands behind it
abbrev pub type_of : TypeWord → Text → Option (TypeSpec × Text)
type_of type_word.Integer ts = Some (type_spec.Integer, ts)
type_of type_word.Logical ts = Some (type_spec.Logical, ts)
type_of type_word.Character ts = option_map (λ p. (type_spec.Character p.0, p.1)) (length_at ts)

-- Attributes.

abbrev pub intent_named : Word → Option Intent
intent_named n =
    if is (codes "in") n then Some intent.In
    else (if is (codes "out") n then Some intent.Out
    else (if is (codes "inout") n then Some intent.InOut else None))

-- IN and OUT as two words
abbrev pub behind_both : Text → Option Text
behind_both ts = option_and_then (behind_word (codes "out")) (behind_word (codes "in") ts)

abbrev pub one_word : Text → Option (Intent × Text)
one_word ts = option_and_then (λ p. option_map (λ i. (i, p.1)) (intent_named p.0)) (behind_name ts)

abbrev pub intent_at : Option Text → Text → Option (Intent × Text)
intent_at (Some rest) ts = Some (intent.InAndOut, rest)
intent_at None ts = one_word ts

abbrev pub closed_intent : Intent × Text → Option (Attribute × Text)
closed_intent p = option_map (λ rest. (attribute.Intent p.0, rest)) (behind mark.Close p.1)

abbrev pub intent_of : Text → Option (Attribute × Text)
intent_of ts = option_and_then (λ inside. option_and_then closed_intent (intent_at (behind_both inside) inside))
    (behind mark.Open ts)

abbrev pub dimension_in : List Field × Text → Option (Attribute × Text)
dimension_in found = option_map (λ dims. (attribute.Dimension dims, found.1)) (option_and_then dims_of (items_of found.0))

abbrev pub dimension_of : Text → Option (Attribute × Text)
dimension_of ts = option_and_then (λ inside. option_and_then dimension_in (bracket inside)) (behind mark.Open ts)

abbrev pub attribute_named : Word × Text → Option (Attribute × Text)
attribute_named p =
    if is (codes "parameter") p.0 then Some (attribute.Parameter, p.1)
    else (if is (codes "allocatable") p.0 then Some (attribute.Allocatable, p.1)
    else (if is (codes "dimension") p.0 then dimension_of p.1
    else (if is (codes "intent") p.0 then intent_of p.1 else None)))

-- a comma and an attribute, and what stands behind them
abbrev pub next_attribute : Text → Option (Attribute × Text)
next_attribute ts = option_and_then (λ rest. option_and_then attribute_named (behind_name rest)) (behind mark.Comma ts)

abbrev pub by_next : {A : Type 0} → Option (Attribute × Text) → A → (Attribute × Text → A) → A
by_next None stop go = stop
by_next (Some next) stop go = go next

-- attributes, the newest one first, and what stands behind them
abbrev pub attributes_in : ℕ → List Attribute → Text → List Attribute × Text
attributes_in zero done ts = (done, ts)
attributes_in (suc n) done ts = by_next (next_attribute ts) (done, ts) (λ next. attributes_in n (next.0 ∷ done) next.1)

-- as many attributes as there are
abbrev pub attributes_of : List Attribute → Text → List Attribute × Text
attributes_of done ts = attributes_in (length ts) done ts

-- Declarations.

abbrev pub declaration : TypeSpec → List Attribute → Bool → List Entity → Declaration
declaration t attributes colons entities = record { of = t; attributes = attributes; colons = colons; entities = entities }

abbrev pub entities_of : Text → Option (List Entity)
entities_of ts = option_and_then (collected entity_of []) (row ts)

abbrev pub no_initials : List Entity → Bool
no_initials entities = all (map (λ (entity : Entity). is_absent entity.initial) entities)

abbrev pub bare : TypeSpec → List Entity → Option Declaration
bare t entities = if no_initials entities then Some (declaration t [] false entities) else None

abbrev pub declared_by : Option Text → TypeSpec → List Attribute → Text → Option Declaration
declared_by (Some rest) t done ts = option_map (declaration t (reverse done) true) (entities_of rest)
declared_by None t [] ts = option_and_then (bare t) (entities_of ts)
declared_by None t (_ ∷ _) ts = None

-- what stands behind the attributes, the newest one first
abbrev pub declared : TypeSpec → List Attribute × Text → Option Declaration
declared t p = declared_by (behind mark.DoubleColon p.1) t p.0 p.1

abbrev pub declaration_of : TypeSpec → Text → Option Declaration
declaration_of t ts = declared t (attributes_of [] ts)

-- Procedures.

abbrev pub names_in : List Field → Option (List Word)
names_in fs = collected name_of [] (within fs)

abbrev pub dummies_of : Text → Option (Option (List Word))
dummies_of ts = if is_nil ts then Some None else option_map Some (option_and_then names_in (whole_bracket ts))

abbrev pub subroutine_of : Word × Text → Option Heading
subroutine_of p = option_map (heading.Subroutine p.0) (dummies_of p.1)

-- RESULT ( name ), or nothing
abbrev pub result_name : Text → Option Word
result_name ts =
    option_and_then
    (λ inside. option_and_then (λ p. option_and_then (λ rest. nothing_more p.0 rest) (behind mark.Close p.1)) (behind_name inside))
    (option_and_then (behind mark.Open) (behind_word (codes "result") ts))

abbrev pub result_of : Text → Option (Option Word)
result_of ts = if is_nil ts then Some None else option_map Some (result_name ts)

abbrev pub function_in : Word → List Field × Text → Option Heading
function_in n found = option_and_then (λ dummies. option_map (heading.Function n dummies) (result_of found.1)) (names_in found.0)

abbrev pub function_of : Word × Text → Option Heading
function_of p = option_and_then (λ inside. option_and_then (function_in p.0) (bracket inside)) (behind mark.Open p.1)

abbrev pub heading_by : UnitWord → Text → Option Heading
heading_by unit.Subroutine ts = option_and_then subroutine_of (behind_name ts)
heading_by unit.Function ts = option_and_then function_of (behind_name ts)
heading_by _ ts = None

abbrev pub prefix_word : PrefixWord → Prefix
prefix_word prefix_name.Recursive = prefix.Recursive
prefix_word prefix_name.Pure = prefix.Pure
prefix_word prefix_name.Elemental = prefix.Elemental

abbrev pub as_prefix : Terminal → Option Prefix
as_prefix (terminal.Keyword (keyword.Prefix w)) = Some (prefix_word w)
as_prefix _ = None

-- a prefix that is a word, and what stands behind it
abbrev pub next_prefix : Text → Option (Prefix × Text)
next_prefix [] = None
next_prefix (t ∷ ts) = option_map (λ p. (p, ts)) (as_prefix t)

abbrev pub or_more : {A : Type 0} → Option Prefix → A → (Prefix → A) → A
or_more None stop go = stop
or_more (Some p) stop go = go p

-- prefixes that are words, the newest one first, before others, and what stands behind them
abbrev pub prefixes_of : List Prefix → Text → List Prefix × Text
prefixes_of done [] = (done, [])
prefixes_of done (t ∷ ts) = or_more (as_prefix t) (done, t ∷ ts) (λ p. prefixes_of (p ∷ done) ts)

-- the statement that begins a procedure
abbrev pub procedure : List Prefix → Heading → Procedure
procedure prefixes h = record { prefixes = prefixes; heading = h }

-- each prefix at most once, and a type before FUNCTION alone
abbrev pub kept : Procedure → Option Procedure
kept p = if distinct (map prefix_kind p.prefixes) && well_heading (map prefix_kind p.prefixes) p.heading then Some p else None

abbrev pub headed_procedure : List Prefix → Keyword × Text → Option Procedure
headed_procedure done (keyword.Unit w, ts) = option_and_then (λ h. kept (procedure (reverse done) h)) (heading_by w ts)
headed_procedure done _ = None

-- what stands behind all prefixes, the newest one first
abbrev pub procedure_behind : List Prefix × Text → Option Procedure
procedure_behind p = option_and_then (headed_procedure p.0) (behind_keyword p.1)

-- what stands behind a type that is a prefix
abbrev pub typed_procedure : List Prefix → TypeSpec × Text → Option Procedure
typed_procedure done p = procedure_behind (prefixes_of (prefix.«Type» p.0 ∷ done) p.1)

abbrev pub procedure_keyed : List Prefix → Keyword × Text → Option Procedure
procedure_keyed done (keyword.«Type» w, ts) = option_and_then (typed_procedure done) (type_of w ts)
procedure_keyed done (keyword.Unit w, ts) = option_and_then (λ h. kept (procedure (reverse done) h)) (heading_by w ts)
procedure_keyed done _ = None

-- a procedure that begins with a word
abbrev pub procedure_from : List Prefix × Text → Option Procedure
procedure_from p = option_and_then (procedure_keyed p.0) (behind_keyword p.1)

abbrev pub procedure_of : Text → Option Procedure
procedure_of ts = procedure_from (prefixes_of [] ts)

-- a declaration, or a function with its type first
abbrev pub is_keyed : Option (Keyword × Text) → Bool
is_keyed (Some _) = true
is_keyed None = false

abbrev pub typed_form : TypeSpec × Text → Option Form
typed_form p = if is_keyed (behind_keyword p.1) then option_map (λ q. of.Unit (unit_of.Procedure q)) (typed_procedure [] p)
    else option_map of.Declaration (declaration_of p.0 p.1)
