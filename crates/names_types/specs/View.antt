-- The nested source of the reader as plain data: one fold over expressions, one over WHERE, one over statements.
use Rattle.std.specs.Prelude.{pos, List, [], ◌∷◌, ◌++◌, map, Option, Some, None, option_map}
use Rattle.std.specs.List.{flat_map}
use Rattle.a95_base.specs.declared.scalar.Scalar.{Scalar}
use Rattle.a95_base.specs.declared.scalar.Scalar.TheVariants as scalar
use Rattle.a95_base.specs.declared.source.Line.{Line}
use Rattle.f95_tree.specs.Forms.{Word}
use Rattle.f95_tree.specs.declared.expression.Expression.{Expression}
use Rattle.f95_tree.specs.declared.expression.Reference.{Reference}
use Rattle.f95_tree.specs.declared.expression.Item.{Item}
use Rattle.f95_tree.specs.declared.expression.Value.{Value}
use Rattle.f95_tree.specs.declared.expression.Literal.{Literal}
use Rattle.f95_tree.specs.declared.expression.Literal.TheVariants as literal
use Rattle.f95_tree.specs.declared.expression.Expression.TheOpen.{Expression-F, Reference-F, Item-F, Value-F}
use Rattle.f95_tree.specs.declared.expression.Expression.TheOpen as layer
use Rattle.f95_tree.specs.declared.expression.Expression.TheFolds.{fold-Expression, fold-Item, fold-Reference, fold-Value}
use Rattle.f95_tree.specs.declared.declaration.TypeSpec.{TypeSpec}
use Rattle.f95_tree.specs.declared.declaration.TypeSpec.TheVariants as type_spec
use Rattle.f95_tree.specs.declared.declaration.Length.{Length}
use Rattle.f95_tree.specs.declared.declaration.Length.TheVariants as length_spec
use Rattle.f95_tree.specs.declared.declaration.Attribute.{Attribute}
use Rattle.f95_tree.specs.declared.declaration.Attribute.TheVariants as attribute_spec
use Rattle.f95_tree.specs.declared.declaration.Dim.{Dim}
use Rattle.f95_tree.specs.declared.declaration.Dim.TheVariants as dim_spec
use Rattle.f95_tree.specs.declared.declaration.Entity.{Entity}
use Rattle.f95_tree.specs.declared.declaration.Declaration.{Declaration}
use Rattle.f95_tree.specs.declared.action.Action.{Action}
use Rattle.f95_tree.specs.declared.action.Action.TheVariants as act
use Rattle.f95_tree.specs.declared.action.Assignment.{Assignment}
use Rattle.f95_tree.specs.declared.action.Argument.{Argument}
use Rattle.f95_tree.specs.declared.action.Allocation.{Allocation}
use Rattle.f95_tree.specs.declared.action.Bound.{Bound}
use Rattle.f95_tree.specs.declared.action.Bound.TheVariants as bound_spec
use Rattle.f95_tree.specs.declared.action.Header.{Header}
use Rattle.f95_tree.specs.declared.action.Index.{Index}
use Rattle.f95_tree.specs.declared.form.CaseRange.{CaseRange}
use Rattle.f95_tree.specs.declared.form.CaseRange.TheVariants as range_of
use Rattle.f95_tree.specs.declared.form.Control.{Control}
use Rattle.f95_tree.specs.declared.form.Control.TheVariants as control_of
use Rattle.f95_tree.specs.declared.form.Heading.{Heading}
use Rattle.f95_tree.specs.declared.form.Heading.TheVariants as heading_of
use Rattle.f95_tree.specs.declared.form.Prefix.{Prefix}
use Rattle.f95_tree.specs.declared.form.Prefix.TheVariants as prefix_of
use Rattle.f95_tree.specs.declared.source.Source.{Source}
use Rattle.f95_tree.specs.declared.source.Module.{Module}
use Rattle.f95_tree.specs.declared.source.Main.{Main}
use Rattle.f95_tree.specs.declared.source.Subprogram.{Subprogram}
use Rattle.f95_tree.specs.declared.source.Section.{Section}
use Rattle.f95_tree.specs.declared.source.Statement.{Statement}
use Rattle.f95_tree.specs.declared.source.Branch.{Branch}
use Rattle.f95_tree.specs.declared.source.Case.{Case}
use Rattle.f95_tree.specs.declared.source.Otherwise.{Otherwise}
use Rattle.f95_tree.specs.declared.source.Statement.TheOpen.{Statement-F, Branch-F, Case-F, Otherwise-F}
use Rattle.f95_tree.specs.declared.source.Statement.TheOpen as statement_layer
use Rattle.f95_tree.specs.declared.source.Statement.TheFolds.{fold-Statement, fold-Branch, fold-Case, fold-Otherwise}
use Rattle.f95_tree.specs.declared.source.WhereBlock.{WhereBlock}
use Rattle.f95_tree.specs.declared.source.WhereStatement.{WhereStatement}
use Rattle.f95_tree.specs.declared.source.ElseWhere.{ElseWhere}
use Rattle.f95_tree.specs.declared.source.WhereStatement.TheOpen.{WhereStatement-F, ElseWhere-F, WhereBlock-F}
use Rattle.f95_tree.specs.declared.source.WhereStatement.TheOpen as where_layer
use Rattle.f95_tree.specs.declared.source.WhereStatement.TheFolds.{fold-WhereBlock, fold-WhereStatement, fold-ElseWhere}
use Rattle.names_types.specs.declared.mention.Mention.{Mention}
use Rattle.names_types.specs.Plain as plain
use Rattle.names_types.specs.Mentions.{names_in, names_in_reference, mentions_on}

-- ---- expressions. An item of a list is seen as what it puts in front of the rest

abbrev pub AddItem : Type 0
AddItem = plain.Items → plain.Items

abbrev pub AddValue : Type 0
AddValue = plain.Values → plain.Values

abbrev pub joined_items : List AddItem → plain.Items
joined_items [] = plain.no_item
joined_items (add ∷ more) = add (joined_items more)

abbrev pub joined_values : List AddValue → plain.Values
joined_values [] = plain.no_value
joined_values (add ∷ more) = add (joined_values more)

abbrev pub bound_of : Option plain.Expr → plain.Bound
bound_of None = plain.Absent
bound_of (Some e) = plain.Given e

abbrev pub scalar_of : Literal → Scalar
scalar_of (literal.Number z) = scalar.Int z
scalar_of (literal.Text bytes) = scalar.Text bytes
scalar_of (literal.Logical b) = scalar.Log b

abbrev pub expression_at : Expression-F plain.Expr AddItem plain.Reference AddValue → plain.Expr
expression_at (layer.Literal l) = plain.Literal (scalar_of l)
expression_at (layer.Reference r) = plain.Named r
expression_at (layer.Bracketed e) = plain.Bracketed e
expression_at (layer.Constructor values) = plain.Constructor (joined_values values)
expression_at (layer.Signed s e) = plain.Signed s e
expression_at (layer.Binary op e f) = plain.Binary op e f

abbrev pub item_at : Item-F plain.Expr AddItem plain.Reference AddValue → AddItem
item_at (layer.Plain e) more = plain.plain e more
item_at (layer.Keyword word e) more = plain.keyword word e more
item_at (layer.Triplet lower upper stride) more = plain.triplet (bound_of lower) (bound_of upper) (bound_of stride) more

abbrev pub reference_at : Reference-F plain.Expr AddItem plain.Reference AddValue → plain.Reference
reference_at (layer.Whole name) = plain.Whole name
reference_at (layer.Items name items) = plain.Applied name (joined_items items)
reference_at (layer.Substring name items (lower, upper)) = plain.Substring name (joined_items items) (bound_of lower)
    (bound_of upper)

abbrev pub value_at : Value-F plain.Expr AddItem plain.Reference AddValue → AddValue
value_at (layer.One e) more = plain.value e more
value_at (layer.ImpliedDo values name first last step) more =
    plain.loop (joined_values values) name first last (bound_of step) more

abbrev pub expr_of : Expression → plain.Expr
expr_of = fold-Expression plain.Expr AddItem plain.Reference AddValue expression_at item_at reference_at value_at

abbrev pub reference_of : Reference → plain.Reference
reference_of = fold-Reference plain.Expr AddItem plain.Reference AddValue expression_at item_at reference_at value_at

abbrev pub item_of : Item → AddItem
item_of = fold-Item plain.Expr AddItem plain.Reference AddValue expression_at item_at reference_at value_at

abbrev pub value_of : Value → AddValue
value_of = fold-Value plain.Expr AddItem plain.Reference AddValue expression_at item_at reference_at value_at

-- ---- declarations

abbrev pub length_of : Length → plain.Length
length_of length_spec.One = plain.Number (pos 1)
length_of (length_spec.Number z) = plain.Number z
length_of (length_spec.Given keyed e) = plain.Computed (expr_of e)
length_of (length_spec.Assumed keyed) = plain.Assumed

abbrev pub type_of : TypeSpec → plain.TypeSpec
type_of type_spec.Integer = plain.Integer
type_of type_spec.Logical = plain.Logical
type_of (type_spec.Character l) = plain.Character (length_of l)

abbrev pub dim_of : Dim → plain.Dim
dim_of (dim_spec.Upper upper) = plain.Upper (expr_of upper)
dim_of (dim_spec.Both lower upper) = plain.Both (expr_of lower) (expr_of upper)
dim_of (dim_spec.Lower lower) = plain.Lower (expr_of lower)
dim_of dim_spec.Deferred = plain.Deferred

abbrev pub attribute_of : Attribute → plain.Attribute
attribute_of attribute_spec.Parameter = plain.Parameter
attribute_of attribute_spec.Allocatable = plain.Allocatable
attribute_of (attribute_spec.Dimension dims) = plain.Dimension (map dim_of dims)
attribute_of (attribute_spec.Intent i) = plain.Intended i

abbrev pub entity_of : Entity → plain.Entity
entity_of e = record { name = e.name; dims = option_map (map dim_of) e.dims; initial = option_map expr_of e.initial }

abbrev pub declaration_of : Line × Declaration → plain.Declaration
declaration_of d = record {
  line = d.0.0;
  of = type_of d.1.of;
  attributes = map attribute_of d.1.attributes;
  entities = map entity_of d.1.entities;
}

-- ---- the names that a statement names, each with its line

abbrev pub Mentions : Type 0
Mentions = List Mention

abbrev pub together : List Mentions → Mentions
together [] = []
together (ms ∷ more) = ms ++ together more

abbrev pub names_of : Expression → List Word
names_of e = names_in (expr_of e)

abbrev pub names_of_reference : Reference → List Word
names_of_reference r = names_in_reference (reference_of r)

abbrev pub maybe_names : Option Expression → List Word
maybe_names None = []
maybe_names (Some e) = names_of e

abbrev pub assignment_names : Assignment → List Word
assignment_names a = names_of_reference a.to ++ names_of a.value

abbrev pub bound_names : Bound → List Word
bound_names (bound_spec.Upper upper) = names_of upper
bound_names (bound_spec.Both lower upper) = names_of lower ++ names_of upper

abbrev pub allocation_names : Allocation → List Word
allocation_names a = a.name ∷ flat_map bound_names a.bounds

abbrev pub index_names : Index → List Word
index_names i = i.name ∷ (names_of i.lower ++ (names_of i.upper ++ maybe_names i.stride))

abbrev pub header_names : Header → List Word
header_names h = flat_map index_names h.indices ++ maybe_names h.mask

abbrev pub arguments_names : Option (List Argument) → List Word
arguments_names None = []
arguments_names (Some arguments) = flat_map (λ (a : Argument). names_of a.value) arguments

-- keywords, and the names of constructs at EXIT and CYCLE, are no names of a scope
abbrev pub action_names : Action → List Word
action_names (act.Assignment a) = assignment_names a
action_names (act.Call name arguments) = name ∷ arguments_names arguments
action_names (act.Allocate objects) = flat_map allocation_names objects
action_names (act.Deallocate names) = names
action_names (act.Print es) = flat_map names_of es
action_names (act.Write es) = flat_map names_of es
action_names (act.Read rs) = flat_map names_of_reference rs
action_names (act.ReadUnit rs) = flat_map names_of_reference rs
action_names (act.Stop code) = []
action_names act.Return = []
action_names act.Continue = []
action_names (act.Exit name) = []
action_names (act.Cycle name) = []
action_names (act.Where mask a) = names_of mask ++ assignment_names a
action_names (act.Forall header a) = header_names header ++ assignment_names a

abbrev pub range_names : CaseRange → List Word
range_names (range_of.One e) = names_of e
range_names (range_of.From lower) = names_of lower
range_names (range_of.UpTo upper) = names_of upper
range_names (range_of.Between lower upper) = names_of lower ++ names_of upper

abbrev pub maybe_range_names : Option (List CaseRange) → List Word
maybe_range_names None = []
maybe_range_names (Some ranges) = flat_map range_names ranges

abbrev pub control_names : Control → List Word
control_names control_of.Forever = []
control_names (control_of.Counted comma name first last step) = name ∷ (names_of first ++ (names_of last ++ maybe_names step))
control_names (control_of.While comma condition) = names_of condition

abbrev pub assignments_mentions : List (Line × Assignment) → Mentions
assignments_mentions [] = []
assignments_mentions (a ∷ more) = mentions_on a.0.0 (assignment_names a.1) ++ assignments_mentions more

abbrev pub where_statement_at : WhereStatement-F Mentions Mentions Mentions → Mentions
where_statement_at (where_layer.Assignment l a) = mentions_on l.0 (assignment_names a)
where_statement_at (where_layer.Where l mask a) = mentions_on l.0 (names_of mask ++ assignment_names a)
where_statement_at (where_layer.Block b) = b

abbrev pub elsewhere_at : ElseWhere-F Mentions Mentions Mentions → Mentions
elsewhere_at o = mentions_on o.line.0 (maybe_names o.mask) ++ together o.body

abbrev pub where_block_at : WhereBlock-F Mentions Mentions Mentions → Mentions
where_block_at b = mentions_on b.line.0 (names_of b.mask) ++ (together b.body ++ together b.others)

abbrev pub where_mentions : WhereBlock → Mentions
where_mentions = fold-WhereBlock Mentions Mentions Mentions where_statement_at elsewhere_at where_block_at

abbrev pub where_statement_mentions : WhereStatement → Mentions
where_statement_mentions = fold-WhereStatement Mentions Mentions Mentions where_statement_at elsewhere_at where_block_at

abbrev pub elsewhere_mentions : ElseWhere → Mentions
elsewhere_mentions = fold-ElseWhere Mentions Mentions Mentions where_statement_at elsewhere_at where_block_at

abbrev pub branch_at : Branch-F Mentions Mentions Mentions Mentions → Mentions
branch_at b = mentions_on b.line.0 (names_of b.condition) ++ together b.body

abbrev pub otherwise_at : Otherwise-F Mentions Mentions Mentions Mentions → Mentions
otherwise_at o = together o.body

abbrev pub case_at : Case-F Mentions Mentions Mentions Mentions → Mentions
case_at k = mentions_on k.line.0 (maybe_range_names k.ranges) ++ together k.body

abbrev pub last_part : Option Mentions → Mentions
last_part None = []
last_part (Some ms) = ms

abbrev pub statement_at : Statement-F Mentions Mentions Mentions Mentions → Mentions
statement_at (statement_layer.Action l a) = mentions_on l.0 (action_names a)
statement_at (statement_layer.If l condition a) = mentions_on l.0 (names_of condition ++ action_names a)
statement_at (statement_layer.IfBlock l n condition body branches other end) =
    mentions_on l.0 (names_of condition) ++ (together body ++ (together branches ++ last_part other))
statement_at (statement_layer.Select l n selector cases end) = mentions_on l.0 (names_of selector) ++ together cases
statement_at (statement_layer.Do l n control body end) = mentions_on l.0 (control_names control) ++ together body
statement_at (statement_layer.Where b) = where_mentions b
statement_at (statement_layer.Forall l header xs end) = mentions_on l.0 (header_names header) ++ assignments_mentions xs

abbrev pub statement_mentions : Statement → Mentions
statement_mentions = fold-Statement Mentions Mentions Mentions Mentions statement_at branch_at case_at otherwise_at

abbrev pub branch_mentions : Branch → Mentions
branch_mentions = fold-Branch Mentions Mentions Mentions Mentions statement_at branch_at case_at otherwise_at

abbrev pub case_mentions : Case → Mentions
case_mentions = fold-Case Mentions Mentions Mentions Mentions statement_at branch_at case_at otherwise_at

abbrev pub otherwise_mentions : Otherwise → Mentions
otherwise_mentions = fold-Otherwise Mentions Mentions Mentions Mentions statement_at branch_at case_at otherwise_at

-- ---- units

abbrev pub use_of : Line × Word × Option (List Word) → plain.Use
use_of u = record { line = u.0.0; «module» = u.1; only = u.2 }

abbrev pub part_of : Section → List Statement → plain.Part
part_of s body = record {
  uses = map use_of s.uses;
  declarations = map declaration_of s.declarations;
  mentions = together (map statement_mentions body);
}

-- the type that stands before FUNCTION
abbrev pub type_in : List Prefix → Option plain.TypeSpec
type_in [] = None
type_in (prefix_of.Recursive ∷ more) = type_in more
type_in (prefix_of.Pure ∷ more) = type_in more
type_in (prefix_of.Elemental ∷ more) = type_in more
type_in (prefix_of.«Type» t ∷ more) = Some (type_of t)

abbrev pub maybe_words : Option (List Word) → List Word
maybe_words None = []
maybe_words (Some words) = words

-- a function without RESULT has its own name as its result variable
abbrev pub result_of : Word → Option Word → Word
result_of name None = name
result_of name (Some result) = result

abbrev pub heading_name : Heading → Word
heading_name (heading_of.Subroutine name dummies) = name
heading_name (heading_of.Function name dummies result) = name

abbrev pub heading_dummies : Heading → List Word
heading_dummies (heading_of.Subroutine name dummies) = maybe_words dummies
heading_dummies (heading_of.Function name dummies result) = dummies

abbrev pub heading_function : Option plain.TypeSpec → Heading → Option plain.Function
heading_function of (heading_of.Subroutine name dummies) = None
heading_function of (heading_of.Function name dummies result) = Some (record { of = of; result = result_of name result })

abbrev pub procedure_of : Subprogram → plain.Procedure
procedure_of p = record {
  line = p.line.0;
  name = heading_name p.procedure.heading;
  dummies = heading_dummies p.procedure.heading;
  function = heading_function (type_in p.procedure.prefixes) p.procedure.heading;
  part = part_of p.section p.body;
}

abbrev pub procedures_of : Option (Line × List Subprogram) → List plain.Procedure
procedures_of None = []
procedures_of (Some c) = map procedure_of c.1

abbrev pub module_of : Module → plain.Module
module_of m = record { name = m.name; host = record { part = part_of m.section []; procedures = procedures_of m.procedures } }

abbrev pub main_of : Main → plain.Host
main_of m = record { part = part_of m.section m.body; procedures = procedures_of m.procedures }

abbrev pub source_of : Source → plain.Source
source_of s = record { modules = map module_of s.modules; main = main_of s.main }
