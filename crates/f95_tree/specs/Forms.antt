-- How each form is spelled.
use Rattle.std.specs.Prelude.{ℕ, Bool, true, false, List, [], ◌∷◌, ◌++◌, map, Option, Some, None, codes, option_map}
use Rattle.f95_tree.specs.declared.expression.Expression.{Expression}
use Rattle.f95_tree.specs.declared.expression.Literal.{Literal}
use Rattle.f95_tree.specs.declared.expression.Literal.TheVariants as literal
use Rattle.f95_tree.specs.declared.terminal.Terminal.{Terminal}
use Rattle.f95_tree.specs.declared.terminal.Terminal.TheVariants as terminal
use Rattle.f95_tree.specs.declared.terminal.Operator.TheVariants as operator
use Rattle.f95_tree.specs.declared.terminal.Punctuation.TheVariants as mark
use Rattle.f95_tree.specs.declared.terminal.Keyword.TheVariants as keyword
use Rattle.f95_tree.specs.declared.terminal.UnitWord.{UnitWord}
use Rattle.f95_tree.specs.declared.terminal.UnitWord.TheVariants as unit
use Rattle.f95_tree.specs.declared.terminal.TypeWord.TheVariants as type_word
use Rattle.f95_tree.specs.declared.terminal.PrefixWord.TheVariants as prefix_word
use Rattle.f95_tree.specs.declared.terminal.BlockWord.{BlockWord}
use Rattle.f95_tree.specs.declared.terminal.BlockWord.TheVariants as block
use Rattle.f95_tree.specs.declared.terminal.ActionWord.{ActionWord}
use Rattle.f95_tree.specs.declared.terminal.ActionWord.TheVariants as word
use Rattle.f95_tree.specs.declared.declaration.TypeSpec.{TypeSpec}
use Rattle.f95_tree.specs.declared.declaration.TypeSpec.TheVariants as type_spec
use Rattle.f95_tree.specs.declared.declaration.Length.{Length}
use Rattle.f95_tree.specs.declared.declaration.Length.TheVariants as length_spec
use Rattle.f95_tree.specs.declared.declaration.Attribute.{Attribute}
use Rattle.f95_tree.specs.declared.declaration.Attribute.TheVariants as attribute_spec
use Rattle.f95_tree.specs.declared.declaration.Intent.{Intent}
use Rattle.f95_tree.specs.declared.declaration.Intent.TheVariants as intent_spec
use Rattle.f95_tree.specs.declared.declaration.Dim.{Dim}
use Rattle.f95_tree.specs.declared.declaration.Dim.TheVariants as dim_spec
use Rattle.f95_tree.specs.declared.declaration.Entity.{Entity}
use Rattle.f95_tree.specs.declared.declaration.Declaration.{Declaration}
use Rattle.f95_tree.specs.declared.action.Action.{Action}
use Rattle.f95_tree.specs.declared.action.Action.TheVariants as act
use Rattle.f95_tree.specs.declared.action.Assignment.{Assignment}
use Rattle.f95_tree.specs.declared.action.Argument.{Argument}
use Rattle.f95_tree.specs.declared.action.Allocation.{Allocation}
use Rattle.f95_tree.specs.declared.action.Bound.{Bound}
use Rattle.f95_tree.specs.declared.action.Bound.TheVariants as bound_spec
use Rattle.f95_tree.specs.declared.action.Header.{Header}
use Rattle.f95_tree.specs.declared.action.Index.{Index}
use Rattle.f95_tree.specs.declared.form.Form.{Form}
use Rattle.f95_tree.specs.declared.form.Form.TheVariants as of
use Rattle.f95_tree.specs.declared.form.UnitForm.{UnitForm}
use Rattle.f95_tree.specs.declared.form.UnitForm.TheVariants as unit_of
use Rattle.f95_tree.specs.declared.form.Prefix.{Prefix}
use Rattle.f95_tree.specs.declared.form.Prefix.TheVariants as prefix_of
use Rattle.f95_tree.specs.declared.form.Heading.{Heading}
use Rattle.f95_tree.specs.declared.form.Heading.TheVariants as heading_of
use Rattle.f95_tree.specs.declared.form.BlockForm.{BlockForm}
use Rattle.f95_tree.specs.declared.form.BlockForm.TheVariants as block_of
use Rattle.f95_tree.specs.declared.form.CaseRange.{CaseRange}
use Rattle.f95_tree.specs.declared.form.CaseRange.TheVariants as range_of
use Rattle.f95_tree.specs.declared.form.Control.{Control}
use Rattle.f95_tree.specs.declared.form.Control.TheVariants as control_of
use Rattle.f95_tree.specs.Spelling.{Text, punctuated, behind_commas, commas, in_brackets, maybe_behind, expression, reference}

-- Parts.

abbrev pub Word : Type 0
Word = List ℕ

-- a name, or a word that isn't reserved
abbrev pub named : Word → Text
named n = terminal.Name n ∷ []

abbrev pub maybe_named : Option Word → Text
maybe_named None = []
maybe_named (Some n) = named n

abbrev pub names : List Word → Text
names ns = commas (map named ns)

abbrev pub maybe_expression : Option Expression → Option Text
maybe_expression e = option_map expression e

abbrev pub star : Terminal
star = terminal.Operator operator.Multiply

abbrev pub action_word : ActionWord → Terminal
action_word w = terminal.Keyword (keyword.Action w)

abbrev pub block_word : BlockWord → Terminal
block_word w = terminal.Keyword (keyword.Block w)

-- Declarations.

abbrev pub length_keyword : Bool → Text
length_keyword true = terminal.Name (codes "len") ∷ punctuated mark.Assign []
length_keyword false = []

abbrev pub length_text : Length → Text
length_text length_spec.One = []
length_text (length_spec.Number n) = star ∷ terminal.Literal (literal.Number n) ∷ []
length_text (length_spec.Given keyed e) = in_brackets (length_keyword keyed ++ expression e)
length_text (length_spec.Assumed keyed) = in_brackets (length_keyword keyed ++ star ∷ [])

abbrev pub type_text : TypeSpec → Text
type_text type_spec.Integer = terminal.Keyword (keyword.«Type» type_word.Integer) ∷ []
type_text type_spec.Logical = terminal.Keyword (keyword.«Type» type_word.Logical) ∷ []
type_text (type_spec.Character l) = terminal.Keyword (keyword.«Type» type_word.Character) ∷ length_text l

abbrev pub dim_text : Dim → Text
dim_text (dim_spec.Upper upper) = expression upper
dim_text (dim_spec.Both lower upper) = expression lower ++ punctuated mark.Colon (expression upper)
dim_text (dim_spec.Lower lower) = expression lower ++ punctuated mark.Colon []
dim_text dim_spec.Deferred = punctuated mark.Colon []

abbrev pub dims_text : List Dim → Text
dims_text dims = in_brackets (commas (map dim_text dims))

abbrev pub intent_text : Intent → Text
intent_text intent_spec.In = named (codes "in")
intent_text intent_spec.Out = named (codes "out")
intent_text intent_spec.InOut = named (codes "inout")
intent_text intent_spec.InAndOut = named (codes "in") ++ named (codes "out")

abbrev pub attribute_text : Attribute → Text
attribute_text attribute_spec.Parameter = named (codes "parameter")
attribute_text attribute_spec.Allocatable = named (codes "allocatable")
attribute_text (attribute_spec.Dimension dims) = terminal.Name (codes "dimension") ∷ dims_text dims
attribute_text (attribute_spec.Intent i) = terminal.Name (codes "intent") ∷ in_brackets (intent_text i)

abbrev pub maybe_dims : Option (List Dim) → Text
maybe_dims None = []
maybe_dims (Some dims) = dims_text dims

abbrev pub entity_text : Entity → Text
entity_text entity = terminal.Name entity.name
    ∷ (maybe_dims entity.dims ++ maybe_behind mark.Assign (maybe_expression entity.initial))

abbrev pub colons_text : Bool → Text
colons_text true = punctuated mark.DoubleColon []
colons_text false = []

abbrev pub declaration_text : Declaration → Text
declaration_text d =
    type_text d.of
    ++ (behind_commas (map attribute_text d.attributes) ++ (colons_text d.colons ++ commas (map entity_text d.entities)))

-- Statements that may stand behind IF ( e ).

abbrev pub assignment_text : Assignment → Text
assignment_text a = reference a.to ++ punctuated mark.Assign (expression a.value)

abbrev pub argument_keyword : Option Word → Text
argument_keyword None = []
argument_keyword (Some n) = terminal.Name n ∷ punctuated mark.Assign []

abbrev pub argument_text : Argument → Text
argument_text a = argument_keyword a.keyword ++ expression a.value

abbrev pub arguments_text : Option (List Argument) → Text
arguments_text None = []
arguments_text (Some arguments) = in_brackets (commas (map argument_text arguments))

abbrev pub bound_text : Bound → Text
bound_text (bound_spec.Upper upper) = expression upper
bound_text (bound_spec.Both lower upper) = expression lower ++ punctuated mark.Colon (expression upper)

abbrev pub allocation_text : Allocation → Text
allocation_text a = terminal.Name a.name ∷ in_brackets (commas (map bound_text a.bounds))

abbrev pub index_text : Index → Text
index_text i =
    terminal.Name i.name
    ∷ punctuated mark.Assign
    (expression i.lower ++ punctuated mark.Colon (expression i.upper ++ maybe_behind mark.Colon (maybe_expression i.stride)))

abbrev pub header_text : Header → Text
header_text h = in_brackets (commas (map index_text h.indices) ++ maybe_behind mark.Comma (maybe_expression h.mask))

-- ( * , * )
abbrev pub any_unit : Text
any_unit = in_brackets (star ∷ punctuated mark.Comma (star ∷ []))

abbrev pub maybe_literal : Option Literal → Text
maybe_literal None = []
maybe_literal (Some l) = terminal.Literal l ∷ []

abbrev pub action_text : Action → Text
action_text (act.Assignment a) = assignment_text a
action_text (act.Call n arguments) = action_word word.Call ∷ terminal.Name n ∷ arguments_text arguments
action_text (act.Allocate objects) = action_word word.Allocate ∷ in_brackets (commas (map allocation_text objects))
action_text (act.Deallocate ns) = action_word word.Deallocate ∷ in_brackets (names ns)
action_text (act.Print es) = action_word word.Print ∷ star ∷ behind_commas (map expression es)
action_text (act.Write es) = action_word word.Write ∷ (any_unit ++ commas (map expression es))
action_text (act.Read rs) = action_word word.Read ∷ star ∷ behind_commas (map reference rs)
action_text (act.ReadUnit rs) = action_word word.Read ∷ (any_unit ++ commas (map reference rs))
action_text (act.Stop code) = action_word word.Stop ∷ maybe_literal code
action_text act.Return = action_word word.Return ∷ []
action_text act.Continue = action_word word.Continue ∷ []
action_text (act.Exit n) = action_word word.Exit ∷ maybe_named n
action_text (act.Cycle n) = action_word word.Cycle ∷ maybe_named n
action_text (act.Where mask a) = block_word block.Where ∷ (in_brackets (expression mask) ++ assignment_text a)
action_text (act.Forall header a) = block_word block.Forall ∷ (header_text header ++ assignment_text a)

-- Blocks.

-- name :
abbrev pub label : Option Word → Text
label None = []
label (Some n) = terminal.Name n ∷ punctuated mark.Colon []

abbrev pub range_text : CaseRange → Text
range_text (range_of.One e) = expression e
range_text (range_of.From lower) = expression lower ++ punctuated mark.Colon []
range_text (range_of.UpTo upper) = punctuated mark.Colon (expression upper)
range_text (range_of.Between lower upper) = expression lower ++ punctuated mark.Colon (expression upper)

abbrev pub comma_text : Bool → Text
comma_text true = punctuated mark.Comma []
comma_text false = []

abbrev pub control_text : Control → Text
control_text control_of.Forever = []
control_text (control_of.Counted comma n first last step) =
    comma_text comma ++ terminal.Name n ∷ punctuated mark.Assign
    (expression first ++ punctuated mark.Comma (expression last ++ maybe_behind mark.Comma (maybe_expression step)))
control_text (control_of.While comma condition) = comma_text comma ++ terminal.Name (codes "while")
    ∷ in_brackets (expression condition)

-- END and a second word
abbrev pub end_of : BlockWord → Text
end_of w = terminal.Keyword keyword.End ∷ block_word w ∷ []

abbrev pub maybe_mask : Option Expression → Text
maybe_mask None = []
maybe_mask (Some e) = in_brackets (expression e)

abbrev pub block_text : BlockForm → Text
block_text (block_of.If n condition) = label n ++ block_word block.If ∷ (in_brackets (expression condition) ++ named (codes "then"))
block_text (block_of.ElseIf condition n) =
    terminal.Keyword keyword.Else ∷ block_word block.If
    ∷ (in_brackets (expression condition) ++ terminal.Name (codes "then") ∷ maybe_named n)
block_text (block_of.Else n) = terminal.Keyword keyword.Else ∷ maybe_named n
block_text (block_of.EndIf n) = end_of block.If ++ maybe_named n
block_text (block_of.Select n selector) = label n ++ block_word block.Select ∷ terminal.Keyword keyword.Case
    ∷ in_brackets (expression selector)
block_text (block_of.Case ranges n) = terminal.Keyword keyword.Case
    ∷ (in_brackets (commas (map range_text ranges)) ++ maybe_named n)
block_text (block_of.CaseDefault n) = terminal.Keyword keyword.Case ∷ terminal.Name (codes "default") ∷ maybe_named n
block_text (block_of.EndSelect n) = end_of block.Select ++ maybe_named n
block_text (block_of.Do n control) = label n ++ block_word block.Do ∷ control_text control
block_text (block_of.EndDo n) = end_of block.Do ++ maybe_named n
block_text (block_of.Where mask) = block_word block.Where ∷ in_brackets (expression mask)
block_text (block_of.ElseWhere mask) = terminal.Keyword keyword.Else ∷ block_word block.Where ∷ maybe_mask mask
block_text block_of.EndWhere = end_of block.Where
block_text (block_of.Forall header) = block_word block.Forall ∷ header_text header
block_text block_of.EndForall = end_of block.Forall

-- Program units.

abbrev pub unit_word : UnitWord → Terminal
unit_word w = terminal.Keyword (keyword.Unit w)

abbrev pub prefix_text : Prefix → Text
prefix_text prefix_of.Recursive = terminal.Keyword (keyword.Prefix prefix_word.Recursive) ∷ []
prefix_text prefix_of.Pure = terminal.Keyword (keyword.Prefix prefix_word.Pure) ∷ []
prefix_text prefix_of.Elemental = terminal.Keyword (keyword.Prefix prefix_word.Elemental) ∷ []
prefix_text (prefix_of.«Type» t) = type_text t

abbrev pub prefixes_text : List Prefix → Text
prefixes_text [] = []
prefixes_text (p ∷ ps) = prefix_text p ++ prefixes_text ps

abbrev pub maybe_dummies : Option (List Word) → Text
maybe_dummies None = []
maybe_dummies (Some ns) = in_brackets (names ns)

abbrev pub result_text : Option Word → Text
result_text None = []
result_text (Some n) = terminal.Name (codes "result") ∷ in_brackets (named n)

abbrev pub heading_text : Heading → Text
heading_text (heading_of.Subroutine n dummies) = unit_word unit.Subroutine ∷ terminal.Name n ∷ maybe_dummies dummies
heading_text (heading_of.Function n dummies outcome) = unit_word unit.Function ∷ terminal.Name n
    ∷ (in_brackets (names dummies) ++ result_text outcome)

abbrev pub only_text : Option (List Word) → Text
only_text None = []
only_text (Some ns) = punctuated mark.Comma (terminal.Name (codes "only") ∷ punctuated mark.Colon (names ns))

abbrev pub unit_text : UnitForm → Text
unit_text (unit_of.Program n) = unit_word unit.Program ∷ named n
unit_text (unit_of.Module n) = unit_word unit.Module ∷ named n
unit_text (unit_of.Procedure p) = prefixes_text p.prefixes ++ heading_text p.heading
unit_text (unit_of.Use n only) = terminal.Keyword keyword.Use ∷ terminal.Name n ∷ only_text only
unit_text unit_of.ImplicitNone = terminal.Keyword keyword.Implicit ∷ named (codes "none")
unit_text unit_of.Contains = terminal.Keyword keyword.Contains ∷ []
unit_text unit_of.End = terminal.Keyword keyword.End ∷ []
unit_text (unit_of.EndUnit w n) = terminal.Keyword keyword.End ∷ unit_word w ∷ maybe_named n

-- All forms.

abbrev pub spell_form : Form → Text
spell_form (of.Unit u) = unit_text u
spell_form (of.Declaration d) = declaration_text d
spell_form (of.Block b) = block_text b
spell_form (of.Action a) = action_text a
spell_form (of.If condition a) = block_word block.If ∷ (in_brackets (expression condition) ++ action_text a)
