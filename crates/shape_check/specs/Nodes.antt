-- How each node of a typed expression is made of typed parts: operators, designators, references to functions of the source.
use Rattle.std.specs.Prelude.{ℕ, pos, suc, ◌==◌, Bool, true, false, ◌&&◌, ◌||◌, if◌then◌else◌, List, [], ◌∷◌, map, length, Option}
use Rattle.std.specs.Prelude.{Some, None}
use Rattle.std.specs.List.{position_from}
use Rattle.std.specs.Option.{is_some}
use Rattle.a95_base.specs.declared.scalar.Scalar.{Scalar}
use Rattle.a95_base.specs.declared.scalar.Scalar.TheVariants as scalar
use Rattle.a95_base.specs.declared.scalar.Kind.TheVariants as kind
use Rattle.constant_operators.specs.Operators.{is_kind}
use Rattle.f95_tree.specs.Forms.{Word}
use Rattle.f95_tree.specs.declared.terminal.Operator.{Operator}
use Rattle.f95_tree.specs.declared.terminal.Sign.{Sign}
use Rattle.intrinsic_table.specs.Finding.{is_word}
use Rattle.f95_unit.specs.declared.facts.Facts.{Facts}
use Rattle.f95_unit.specs.Plain.{Expr, typed, Literal, Constant, Named, Brackets, Unary, Binary, Constructor, Called, Designator}
use Rattle.f95_unit.specs.Plain.{at, Access, Whole, Subscripted, Subscripts, no_subscript, subscript, Subscript, One, Vector}
use Rattle.f95_unit.specs.Plain.{SubscriptTriplet, Bound, Absent, Given, Part, AllOf, BytesOf, Items, Arguments, no_argument}
use Rattle.f95_unit.specs.Plain.{argument, call}
use Rattle.well_typed.specs.Shapes.{is_array, all_ranks_fit}
use Rattle.well_typed.specs.Operations.{unary_of, binary_of}
use Rattle.well_typed.specs.Known.{facts_of, scalar_facts, designator_facts, values_facts, constructor_facts}
use Rattle.well_typed.specs.Typing.{signed_facts, operation_facts, shapes_in, element_facts, match}
use Rattle.well_typed.specs.Questions.{Question, Operates, Signs, Bounds, Subscripts as SubscriptsOf}
use Rattle.well_typed.specs.Questions.{Cuts, Gathers, Spreads}
use Rattle.shape_check.specs.Found.{Found, found, nothing, asking, then_found, and_asking}
use Rattle.shape_check.specs.Names.{Names}
use Rattle.well_typed.specs.declared.known.Callee.{Callee}
use Rattle.well_typed.specs.declared.known.Variable.{Variable}
use Rattle.well_typed.specs.declared.asked.Listed.{Listed}
use Rattle.well_typed.specs.declared.asked.Listed.TheVariants.{Keyed, Plain, Ranged}

abbrev pub literal : Scalar → Expr
literal x = typed (scalar_facts x) (Literal x)

-- ---- operators

abbrev pub signed : Sign → Expr → Found Expr
signed s e = asking (Signs s (facts_of e)) (typed (signed_facts s (facts_of e)) (Unary (unary_of s) e))

abbrev pub operated : Operator → Expr × Expr → Found Expr
operated op es = asking (Operates op (facts_of es.0) (facts_of es.1))
    (typed (operation_facts op (facts_of es.0) (facts_of es.1)) (Binary (binary_of op) es.0 es.1))

abbrev pub bracketed : Expr → Expr
bracketed e = typed (facts_of e) (Brackets e)

abbrev pub bounding : Expr → Found Bound
bounding e = asking (Bounds (facts_of e)) (Given e)

-- ---- constructors

abbrev pub gathered : Names → Items → Found Expr
gathered c items = asking (Gathers (values_facts items)) (typed (constructor_facts c.constants items) (Constructor items))

-- ---- what stands in brackets

-- a value, with its keyword where it has one, or a triplet
pub data Item : Type 0 where
  Single : (keyword : Option Word) → Expr → Item
  Triple : (first last stride : Bound) → Item

abbrev pub listed_by : Option Word → Expr → Listed
listed_by None e = Plain (facts_of e)
listed_by (Some keyword) e = Keyed

abbrev pub listed : Item → Listed
listed (Single keyword e) = listed_by keyword e
listed (Triple f l s) = Ranged

-- ---- variables

abbrev pub subscript_of : Item → Subscript
subscript_of (Single keyword e) = if is_array (facts_of e) then Vector e else One e
subscript_of (Triple f l s) = SubscriptTriplet f l s

abbrev pub subscripts_of : List Item → Subscripts
subscripts_of [] = no_subscript
subscripts_of (i ∷ more) = subscript (subscript_of i) (subscripts_of more)

-- a designator, and what it is
abbrev pub Place : Type 0
Place = Facts × Designator

abbrev pub place : Names → ℕ → Variable → Access → Part → Place
place c n v access part = (designator_facts c.constants v access part, at n access part)

-- what stands behind a name: nothing, items, or items and a substring
pub data Behind : Type 0 where
  Bare : Behind
  Applied : List Item → Behind
  Cut : List Item → (first last : Bound) → Behind

abbrev pub no_stride : Bound → Bool
no_stride Absent = true
no_stride (Given e) = false

-- `name ( first : last )` of a scalar is a substring
abbrev pub is_substring : Variable → List Item → Bool
is_substring v (Triple f l s ∷ []) = length v.dims == 0 && (is_kind kind.Text v.kind && no_stride s)
is_substring v items = false

abbrev pub part_in : List Item → Part
part_in (Triple f l s ∷ []) = BytesOf f l
part_in items = AllOf

abbrev pub subscripts_asked : Variable → List Item → Question
subscripts_asked v items = SubscriptsOf (length v.dims) (map listed items)

abbrev pub place_behind : Names → ℕ → Variable → Behind → Found Place
place_behind c n v Bare = found (place c n v Whole AllOf)
place_behind c n v (Applied items) =
    if is_substring v items then found (place c n v Whole (part_in items))
    else asking (subscripts_asked v items) (place c n v (Subscripted (subscripts_of items)) AllOf)
place_behind c n v (Cut items f l) = and_asking (Cuts (Some v.kind))
    (asking (subscripts_asked v items) (place c n v (Subscripted (subscripts_of items)) (BytesOf f l)))

abbrev pub place_of : Names → ℕ → Option Variable → Behind → Found Place
place_of c n None behind = nothing
place_of c n (Some v) behind = place_behind c n v behind

abbrev pub named : Place → Expr
named p = typed p.0 (Named p.1)

-- a constant and an index have no subscripts and no substrings
abbrev pub scalar_behind : Expr → Behind → Found Expr
scalar_behind e Bare = found e
scalar_behind e (Applied items) = asking (SubscriptsOf 0 (map listed items)) e
scalar_behind e (Cut items f l) = asking (Cuts None) e

abbrev pub constant_behind : ℕ → Option Scalar → Behind → Found Expr
constant_behind n None behind = nothing
constant_behind n (Some x) behind = scalar_behind (typed (scalar_facts x) (Constant n)) behind

-- a value has no substring
abbrev pub uncut : Behind → Found Expr → Found Expr
uncut Bare m = m
uncut (Applied items) m = m
uncut (Cut items f l) m = then_found m (λ e. asking (Cuts None) e)

abbrev pub items_in : Behind → List Item
items_in Bare = []
items_in (Applied items) = items
items_in (Cut items f l) = items

-- ---- functions of the source

abbrev pub keyword_of : Item → Option Word
keyword_of (Single keyword e) = keyword
keyword_of (Triple f l s) = None

-- an argument of no dummy has a place past the last: a wrong keyword, one too many, a triplet, one without keyword behind one
-- with a keyword
abbrev pub or_last : List Word → Option ℕ → ℕ
or_last dummies None = length dummies
or_last dummies (Some place) = place

abbrev pub placed_at : List Word → ℕ → Bool → Option Word → ℕ
placed_at dummies next keyed None = if keyed then length dummies else next
placed_at dummies next keyed (Some keyword) = or_last dummies (position_from (is_word keyword) 0 dummies)

abbrev pub actuals_from : List Word → ℕ → Bool → List Item → Arguments
actuals_from dummies next keyed [] = no_argument
actuals_from dummies next keyed (Single keyword e ∷ more) =
    argument (placed_at dummies next keyed keyword) e (actuals_from dummies (suc next) (keyed || is_some keyword) more)
actuals_from dummies next keyed (Triple f l s ∷ more) =
    argument (length dummies) (literal (scalar.Int (pos 0))) (actuals_from dummies (suc next) keyed more)

abbrev pub actuals_of : List Word → List Item → Arguments
actuals_of dummies items = actuals_from dummies 0 false items

-- shapes of the arguments that match are asked about
abbrev pub spreading : Bool → Arguments → Expr → Found Expr
spreading true es e = asking (Spreads (shapes_in es)) e
spreading false es e = found e

abbrev pub element_result : Callee → Facts → ℕ → Arguments → Found Expr
element_result p f n es = if all_ranks_fit (shapes_in es)
    then spreading (match p es) es (typed (element_facts f es) (Called (call n es))) else nothing

-- a subroutine has no value, nor has an ELEMENTAL function of arrays of other ranks: the test of calls refuses both
abbrev pub called_with : Callee → Option Facts → ℕ → Arguments → Found Expr
called_with p None n es = nothing
called_with p (Some f) n es = if p.interface.elemental then element_result p f n es else found (typed f (Called (call n es)))

abbrev pub called : Option Callee → ℕ → Arguments → Found Expr
called None n es = nothing
called (Some p) n es = called_with p p.result n es
