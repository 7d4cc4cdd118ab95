-- Which form some terminals are, if any.
use Rattle.std.specs.Prelude.{Bool, true, false, List, [], ◌∷◌, Option, Some, None, option_map, option_and_then, codes}
use Rattle.std.specs.Prelude.{if◌then◌else◌}
use Rattle.f95_tree.specs.declared.expression.Expression.{Expression}
use Rattle.f95_tree.specs.declared.terminal.Punctuation.TheVariants as mark
use Rattle.f95_tree.specs.declared.terminal.Keyword.{Keyword}
use Rattle.f95_tree.specs.declared.terminal.Keyword.TheVariants as keyword
use Rattle.f95_tree.specs.declared.terminal.UnitWord.{UnitWord}
use Rattle.f95_tree.specs.declared.terminal.UnitWord.TheVariants as unit
use Rattle.f95_tree.specs.declared.terminal.BlockWord.{BlockWord}
use Rattle.f95_tree.specs.declared.terminal.BlockWord.TheVariants as block
use Rattle.f95_tree.specs.declared.action.Action.TheVariants as act
use Rattle.f95_tree.specs.declared.action.Header.{Header}
use Rattle.f95_tree.specs.declared.form.Form.{Form}
use Rattle.f95_tree.specs.declared.form.Form.TheVariants as of
use Rattle.f95_tree.specs.declared.form.UnitForm.{UnitForm}
use Rattle.f95_tree.specs.declared.form.UnitForm.TheVariants as unit_of
use Rattle.f95_tree.specs.declared.form.BlockForm.{BlockForm}
use Rattle.f95_tree.specs.declared.form.BlockForm.TheVariants as block_of
use Rattle.f95_tree.specs.declared.form.Control.{Control}
use Rattle.f95_tree.specs.declared.form.Control.TheVariants as control_of
use Rattle.f95_tree.specs.Forms.{Word}
use Rattle.f95_tree.specs.Spelling.{Text}
use Rattle.f95_expressions.specs.declared.pending.Field.{Field}
use Rattle.f95_expressions.specs.Machine.{collected, expression_of, whole, first_in, bracket, row}
use Rattle.f95_parts.specs.Views.{is_nil, behind, behind_name, behind_keyword, behind_word, at_end, nothing_more, name_at_end}
use Rattle.f95_parts.specs.Parts.{name_of, range_of}
use Rattle.f95_statements.specs.Actions.{conditioned, headed, listed, assigned, action_of}
use Rattle.f95_statements.specs.Declarations.{or_else, type_of, procedure_of, typed_form}

-- Blocks.

-- a condition in brackets with nothing behind them
abbrev pub whole_condition : Text → Option Expression
whole_condition ts = option_and_then at_end (conditioned ts)

abbrev pub ends_there : Option Text → Bool
ends_there None = false
ends_there (Some rest) = is_nil rest

-- THEN with nothing behind it
abbrev pub is_then : Text → Bool
is_then ts = ends_there (behind_word (codes "then") ts)

abbrev pub if_block : Option Word → Text → Option BlockForm
if_block n ts = option_and_then (λ p. if is_then p.1 then Some (block_of.If n p.0) else None) (conditioned ts)

abbrev pub select_by : Option Word → Keyword → Text → Option BlockForm
select_by n keyword.Case ts = option_map (block_of.Select n) (whole_condition ts)
select_by n _ ts = None

abbrev pub select_of : Option Word → Text → Option BlockForm
select_of n ts = option_and_then (λ p. select_by n p.0 p.1) (behind_keyword ts)

-- the name, the first, the last value and the step of a DO
abbrev pub index_of : Field → Option Word
index_of f = option_and_then whole f.left

abbrev pub counted_by : Bool → Field → Field → Option Expression → Option Control
counted_by comma index last step =
    option_and_then
    (λ n. option_and_then (λ from. option_map (λ to. control_of.Counted comma n from to step) (expression_of last))
    (first_in index.spread)) (index_of index)

abbrev pub counted_in : Bool → List Field → Option Control
counted_in comma (z ∷ y ∷ []) = counted_by comma y z None
counted_in comma (z ∷ y ∷ x ∷ []) = option_and_then (λ step. counted_by comma x y (Some step)) (expression_of z)
counted_in comma _ = None

abbrev pub counted : Bool → Text → Option Control
counted comma ts = option_and_then (counted_in comma) (row ts)

abbrev pub while_of : Bool → Text → Option Control
while_of comma ts = option_map (control_of.While comma) (option_and_then whole_condition (behind_word (codes "while") ts))

abbrev pub control_by : Bool → Text → Option Control
control_by comma ts = or_else (while_of comma ts) (counted comma ts)

abbrev pub control_behind : Option Text → Text → Option Control
control_behind (Some rest) ts = control_by true rest
control_behind None ts = control_by false ts

abbrev pub controlled : Text → Option Control
controlled ts = if is_nil ts then Some control_of.Forever else control_behind (behind mark.Comma ts) ts

abbrev pub do_of : Option Word → Text → Option BlockForm
do_of n ts = option_map (block_of.Do n) (controlled ts)

-- IF, SELECT and DO, maybe with a name
abbrev pub opened_by : Option Word → BlockWord → Text → Option BlockForm
opened_by n block.If ts = if_block n ts
opened_by n block.Select ts = select_of n ts
opened_by n block.Do ts = do_of n ts
opened_by n _ ts = None

abbrev pub labelled_by : Word → Keyword × Text → Option BlockForm
labelled_by n (keyword.Block w, ts) = opened_by (Some n) w ts
labelled_by n _ = None

abbrev pub labelled : Word → Text → Option BlockForm
labelled n ts = option_and_then (labelled_by n) (behind_keyword ts)

-- name :
abbrev pub label_of : Text → Option (Word × Text)
label_of ts = option_and_then (λ p. option_map (λ rest. (p.0, rest)) (behind mark.Colon p.1)) (behind_name ts)

abbrev pub case_ranges : List Field × Text → Option BlockForm
case_ranges p = option_and_then (λ ranges. option_map (block_of.Case ranges) (name_at_end p.1)) (collected range_of [] p.0)

abbrev pub case_in : Text → Option BlockForm
case_in ts = option_and_then (λ inside. option_and_then case_ranges (bracket inside)) (behind mark.Open ts)

abbrev pub case_by : Option Text → Text → Option BlockForm
case_by (Some rest) ts = option_map block_of.CaseDefault (name_at_end rest)
case_by None ts = case_in ts

abbrev pub case_of : Text → Option BlockForm
case_of ts = case_by (behind_word (codes "default") ts) ts

abbrev pub else_if : Text → Option BlockForm
else_if ts =
    option_and_then
    (λ p. option_and_then (λ rest. option_map (block_of.ElseIf p.0) (name_at_end rest)) (behind_word (codes "then") p.1))
    (conditioned ts)

abbrev pub else_where : Text → Option BlockForm
else_where ts = if is_nil ts then Some (block_of.ElseWhere None) else option_map (λ mask. block_of.ElseWhere (Some mask))
    (whole_condition ts)

abbrev pub else_keyed : Keyword × Text → Option BlockForm
else_keyed (keyword.Block block.If, ts) = else_if ts
else_keyed (keyword.Block block.Where, ts) = else_where ts
else_keyed _ = None

abbrev pub else_by : Option (Keyword × Text) → Text → Option BlockForm
else_by (Some p) ts = else_keyed p
else_by None ts = option_map block_of.Else (name_at_end ts)

abbrev pub else_of : Text → Option BlockForm
else_of ts = else_by (behind_keyword ts) ts

-- Ends.

abbrev pub end_block : BlockWord → Text → Option BlockForm
end_block block.If ts = option_map block_of.EndIf (name_at_end ts)
end_block block.Select ts = option_map block_of.EndSelect (name_at_end ts)
end_block block.Do ts = option_map block_of.EndDo (name_at_end ts)
end_block block.Where ts = nothing_more block_of.EndWhere ts
end_block block.Forall ts = nothing_more block_of.EndForall ts

abbrev pub end_keyed : Keyword × Text → Option Form
end_keyed (keyword.Unit w, ts) = option_map (λ n. of.Unit (unit_of.EndUnit w n)) (name_at_end ts)
end_keyed (keyword.Block w, ts) = option_map of.Block (end_block w ts)
end_keyed _ = None

abbrev pub end_of : Text → Option Form
end_of ts = if is_nil ts then Some (of.Unit unit_of.End) else option_and_then end_keyed (behind_keyword ts)

-- Units.

abbrev pub only_of : Text → Option (List Word)
only_of ts =
    option_and_then
    (λ a. option_and_then (λ b. option_and_then (listed name_of) (behind mark.Colon b)) (behind_word (codes "only") a))
    (behind mark.Comma ts)

abbrev pub use_named : Word × Text → Option UnitForm
use_named p = if is_nil p.1 then Some (unit_of.Use p.0 None) else option_map (λ ns. unit_of.Use p.0 (Some ns)) (only_of p.1)

abbrev pub use_of : Text → Option UnitForm
use_of ts = option_and_then use_named (behind_name ts)

abbrev pub implicit_of : Text → Option UnitForm
implicit_of ts = option_and_then (nothing_more unit_of.ImplicitNone) (behind_word (codes "none") ts)

abbrev pub unit_by : UnitWord → Text → Text → Option UnitForm
unit_by unit.Program ts all = option_map unit_of.Program (option_and_then at_end (behind_name ts))
unit_by unit.Module ts all = option_map unit_of.Module (option_and_then at_end (behind_name ts))
unit_by _ ts all = option_map unit_of.Procedure (procedure_of all)

-- One statement or a block.

abbrev pub if_by : Expression × Text → Option Form
if_by p = if is_then p.1 then Some (of.Block (block_of.If None p.0)) else option_map (of.If p.0) (action_of p.1)

abbrev pub where_by : Expression × Text → Option Form
where_by p = if is_nil p.1 then Some (of.Block (block_of.Where p.0)) else option_map (λ a. of.Action (act.Where p.0 a))
    (assigned p.1)

abbrev pub forall_by : Header × Text → Option Form
forall_by p = if is_nil p.1 then Some (of.Block (block_of.Forall p.0)) else option_map (λ a. of.Action (act.Forall p.0 a))
    (assigned p.1)

abbrev pub block_form : BlockWord → Text → Option Form
block_form block.If ts = option_and_then if_by (conditioned ts)
block_form block.Select ts = option_map of.Block (select_of None ts)
block_form block.Do ts = option_map of.Block (do_of None ts)
block_form block.Where ts = option_and_then where_by (conditioned ts)
block_form block.Forall ts = option_and_then forall_by (headed ts)

-- All forms, by the first keyword, what stands behind it, and the whole.
abbrev pub keyed_form : Keyword → Text → Text → Option Form
keyed_form (keyword.Unit w) ts all = option_map of.Unit (unit_by w ts all)
keyed_form (keyword.«Type» w) ts all = option_and_then typed_form (type_of w ts)
keyed_form (keyword.Prefix w) ts all = option_map (λ p. of.Unit (unit_of.Procedure p)) (procedure_of all)
keyed_form (keyword.Block w) ts all = block_form w ts
keyed_form (keyword.Action w) ts all = option_map of.Action (action_of all)
keyed_form keyword.Case ts all = option_map of.Block (case_of ts)
keyed_form keyword.Contains ts all = nothing_more (of.Unit unit_of.Contains) ts
keyed_form keyword.Else ts all = option_map of.Block (else_of ts)
keyed_form keyword.End ts all = end_of ts
keyed_form keyword.Implicit ts all = option_map of.Unit (implicit_of ts)
keyed_form keyword.Use ts all = option_map of.Unit (use_of ts)

abbrev pub named_form : Option (Word × Text) → Text → Option Form
named_form (Some p) ts = option_map of.Block (labelled p.0 p.1)
named_form None ts = option_map (λ a. of.Action (act.Assignment a)) (assigned ts)

abbrev pub form_by : Option (Keyword × Text) → Text → Option Form
form_by (Some p) ts = keyed_form p.0 p.1 ts
form_by None ts = named_form (label_of ts) ts

abbrev pub form_of : Text → Option Form
form_of ts = form_by (behind_keyword ts) ts
