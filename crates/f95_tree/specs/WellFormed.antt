-- What a form must keep beyond its spelling: its expressions are well formed, its lists aren't empty where at least one must
-- stand, and a prefix stands at most once.
use Rattle.std.specs.Prelude.{ℕ, Bool, true, false, ◌&&◌, ◌||◌, not, ◌==◌, List, [], ◌∷◌, map, Option, Some, None, option_map}
use Rattle.f95_tree.specs.declared.expression.Expression.{Expression}
use Rattle.f95_tree.specs.declared.expression.Literal.{Literal}
use Rattle.f95_tree.specs.declared.expression.Literal.TheVariants as literal
use Rattle.f95_tree.specs.declared.declaration.TypeSpec.{TypeSpec}
use Rattle.f95_tree.specs.declared.declaration.TypeSpec.TheVariants as type_spec
use Rattle.f95_tree.specs.declared.declaration.Length.{Length}
use Rattle.f95_tree.specs.declared.declaration.Length.TheVariants as length_spec
use Rattle.f95_tree.specs.declared.declaration.Attribute.{Attribute}
use Rattle.f95_tree.specs.declared.declaration.Attribute.TheVariants as attribute_spec
use Rattle.f95_tree.specs.declared.declaration.Dim.{Dim}
use Rattle.f95_tree.specs.declared.declaration.Dim.TheVariants as dim_spec
use Rattle.f95_tree.specs.declared.declaration.Entity.{Entity}
use Rattle.f95_tree.specs.declared.declaration.Declaration.{Declaration}
use Rattle.f95_tree.specs.declared.action.Action.{Action}
use Rattle.f95_tree.specs.declared.action.Action.TheVariants as act
use Rattle.f95_tree.specs.declared.action.Assignment.{Assignment}
use Rattle.f95_tree.specs.declared.action.Argument.{Argument}
use Rattle.f95_tree.specs.declared.action.Allocation.{Allocation}
use Rattle.f95_tree.specs.declared.action.Bound.{Bound}
use Rattle.f95_tree.specs.declared.action.Bound.TheVariants as bound_spec
use Rattle.f95_tree.specs.declared.action.Header.{Header}
use Rattle.f95_tree.specs.declared.action.Index.{Index}
use Rattle.f95_tree.specs.declared.form.Form.{Form}
use Rattle.f95_tree.specs.declared.form.Form.TheVariants as of
use Rattle.f95_tree.specs.declared.form.UnitForm.{UnitForm}
use Rattle.f95_tree.specs.declared.form.UnitForm.TheVariants as unit_of
use Rattle.f95_tree.specs.declared.form.Procedure.{Procedure}
use Rattle.f95_tree.specs.declared.form.Prefix.{Prefix}
use Rattle.f95_tree.specs.declared.form.Prefix.TheVariants as prefix_of
use Rattle.f95_tree.specs.declared.form.Heading.{Heading}
use Rattle.f95_tree.specs.declared.form.Heading.TheVariants as heading_of
use Rattle.f95_tree.specs.declared.form.BlockForm.{BlockForm}
use Rattle.f95_tree.specs.declared.form.BlockForm.TheVariants as block_of
use Rattle.f95_tree.specs.declared.form.CaseRange.{CaseRange}
use Rattle.f95_tree.specs.declared.form.CaseRange.TheVariants as range_of
use Rattle.f95_tree.specs.declared.form.Control.{Control}
use Rattle.f95_tree.specs.declared.form.Control.TheVariants as control_of
use Rattle.f95_tree.specs.Grades.{all, some, maybe_well, grade, well, well_reference}

abbrev pub maybe_well_expression : Option Expression → Bool
maybe_well_expression e = maybe_well (option_map grade e)

-- Declarations.

abbrev pub well_length : Length → Bool
well_length length_spec.One = true
well_length (length_spec.Number _) = true
well_length (length_spec.Given _ e) = well e
well_length (length_spec.Assumed _) = true

abbrev pub well_type : TypeSpec → Bool
well_type type_spec.Integer = true
well_type type_spec.Logical = true
well_type (type_spec.Character l) = well_length l

abbrev pub well_dim : Dim → Bool
well_dim (dim_spec.Upper upper) = well upper
well_dim (dim_spec.Both lower upper) = well lower && well upper
well_dim (dim_spec.Lower lower) = well lower
well_dim dim_spec.Deferred = true

abbrev pub well_dims : List Dim → Bool
well_dims dims = some dims && all (map well_dim dims)

abbrev pub well_attribute : Attribute → Bool
well_attribute attribute_spec.Parameter = true
well_attribute attribute_spec.Allocatable = true
well_attribute (attribute_spec.Dimension dims) = well_dims dims
well_attribute (attribute_spec.Intent _) = true

abbrev pub maybe_well_dims : Option (List Dim) → Bool
maybe_well_dims None = true
maybe_well_dims (Some dims) = well_dims dims

abbrev pub well_entity : Entity → Bool
well_entity entity = maybe_well_dims entity.dims && maybe_well_expression entity.initial

abbrev pub is_absent : {A : Type 0} → Option A → Bool
is_absent None = true
is_absent (Some _) = false

-- without :: there are no attributes and no initial values
abbrev pub well_colons : Declaration → Bool
well_colons d = d.colons || (not (some d.attributes) && all (map (λ (entity : Entity). is_absent entity.initial) d.entities))

abbrev pub well_declaration : Declaration → Bool
well_declaration d =
    well_type d.of
    && (all (map well_attribute d.attributes) && (some d.entities && (all (map well_entity d.entities) && well_colons d)))

-- Statements that may stand behind IF ( e ).

abbrev pub well_assignment : Assignment → Bool
well_assignment a = well_reference a.to && well a.value

abbrev pub well_arguments : Option (List Argument) → Bool
well_arguments None = true
well_arguments (Some arguments) = all (map (λ (a : Argument). well a.value) arguments)

abbrev pub well_bound : Bound → Bool
well_bound (bound_spec.Upper upper) = well upper
well_bound (bound_spec.Both lower upper) = well lower && well upper

abbrev pub well_allocation : Allocation → Bool
well_allocation a = some a.bounds && all (map well_bound a.bounds)

abbrev pub well_index : Index → Bool
well_index i = well i.lower && (well i.upper && maybe_well_expression i.stride)

abbrev pub well_header : Header → Bool
well_header h = some h.indices && (all (map well_index h.indices) && maybe_well_expression h.mask)

-- STOP has a number or a text
abbrev pub well_stop : Option Literal → Bool
well_stop None = true
well_stop (Some (literal.Number _)) = true
well_stop (Some (literal.Text _)) = true
well_stop (Some (literal.Logical _)) = false

abbrev pub well_action : Action → Bool
well_action (act.Assignment a) = well_assignment a
well_action (act.Call _ arguments) = well_arguments arguments
well_action (act.Allocate objects) = some objects && all (map well_allocation objects)
well_action (act.Deallocate ns) = some ns
well_action (act.Print es) = all (map well es)
well_action (act.Write es) = all (map well es)
well_action (act.Read rs) = all (map well_reference rs)
well_action (act.ReadUnit rs) = all (map well_reference rs)
well_action (act.Stop code) = well_stop code
well_action act.Return = true
well_action act.Continue = true
well_action (act.Exit _) = true
well_action (act.Cycle _) = true
well_action (act.Where mask a) = well mask && well_assignment a
well_action (act.Forall header a) = well_header header && well_assignment a

-- Blocks.

abbrev pub well_range : CaseRange → Bool
well_range (range_of.One e) = well e
well_range (range_of.From lower) = well lower
well_range (range_of.UpTo upper) = well upper
well_range (range_of.Between lower upper) = well lower && well upper

abbrev pub well_control : Control → Bool
well_control control_of.Forever = true
well_control (control_of.Counted _ _ first last step) = well first && (well last && maybe_well_expression step)
well_control (control_of.While _ condition) = well condition

abbrev pub well_block : BlockForm → Bool
well_block (block_of.If _ condition) = well condition
well_block (block_of.ElseIf condition _) = well condition
well_block (block_of.Else _) = true
well_block (block_of.EndIf _) = true
well_block (block_of.Select _ selector) = well selector
well_block (block_of.Case ranges _) = some ranges && all (map well_range ranges)
well_block (block_of.CaseDefault _) = true
well_block (block_of.EndSelect _) = true
well_block (block_of.Do _ control) = well_control control
well_block (block_of.EndDo _) = true
well_block (block_of.Where mask) = well mask
well_block (block_of.ElseWhere mask) = maybe_well_expression mask
well_block block_of.EndWhere = true
well_block (block_of.Forall header) = well_header header
well_block block_of.EndForall = true

-- Program units.

abbrev pub prefix_kind : Prefix → ℕ
prefix_kind prefix_of.Recursive = 0
prefix_kind prefix_of.Pure = 1
prefix_kind prefix_of.Elemental = 2
prefix_kind (prefix_of.«Type» _) = 3

abbrev pub is_among : List ℕ → ℕ → Bool
is_among [] n = false
is_among (m ∷ ms) n = m == n || is_among ms n

-- no two are equal
abbrev pub distinct : List ℕ → Bool
distinct [] = true
distinct (n ∷ ns) = not (is_among ns n) && distinct ns

abbrev pub well_prefix : Prefix → Bool
well_prefix prefix_of.Recursive = true
well_prefix prefix_of.Pure = true
well_prefix prefix_of.Elemental = true
well_prefix (prefix_of.«Type» t) = well_type t

-- a type stands before FUNCTION alone
abbrev pub well_heading : List ℕ → Heading → Bool
well_heading kinds (heading_of.Subroutine _ _) = not (is_among kinds 3)
well_heading kinds (heading_of.Function _ _ _) = true

abbrev pub well_procedure : Procedure → Bool
well_procedure p =
    all (map well_prefix p.prefixes)
    && (distinct (map prefix_kind p.prefixes) && well_heading (map prefix_kind p.prefixes) p.heading)

abbrev pub well_unit : UnitForm → Bool
well_unit (unit_of.Program _) = true
well_unit (unit_of.Module _) = true
well_unit (unit_of.Procedure p) = well_procedure p
well_unit (unit_of.Use _ _) = true
well_unit unit_of.ImplicitNone = true
well_unit unit_of.Contains = true
well_unit unit_of.End = true
well_unit (unit_of.EndUnit _ _) = true

-- All forms.

abbrev pub well_form : Form → Bool
well_form (of.Unit u) = well_unit u
well_form (of.Declaration d) = well_declaration d
well_form (of.Block b) = well_block b
well_form (of.Action a) = well_action a
well_form (of.If condition a) = well condition && well_action a
