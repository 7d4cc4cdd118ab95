-- What a form is to the block that it stands in, and what it then makes of that block.
use Rattle.std.specs.Prelude.{Bool, true, false, List, [], ◌∷◌, ◌++◌, Option, Some, None, Result, Ok, Err}
use Rattle.a95_base.specs.declared.source.Line.{Line}
use Rattle.f95_tree.specs.Forms.{Word}
use Rattle.f95_tree.specs.declared.action.Action.{Action}
use Rattle.f95_tree.specs.declared.action.Action.TheVariants as act
use Rattle.f95_tree.specs.declared.action.Header.{Header}
use Rattle.f95_tree.specs.declared.action.Assignment.{Assignment}
use Rattle.f95_tree.specs.declared.expression.Expression.{Expression}
use Rattle.f95_tree.specs.declared.form.Form.{Form}
use Rattle.f95_tree.specs.declared.form.Form.TheVariants as of
use Rattle.f95_tree.specs.declared.form.BlockForm.{BlockForm}
use Rattle.f95_tree.specs.declared.form.BlockForm.TheVariants as block_of
use Rattle.f95_tree.specs.declared.source.Statement.{Statement}
use Rattle.f95_tree.specs.declared.source.Statement.TheVariants as statement
use Rattle.f95_tree.specs.declared.source.Branch.{Branch}
use Rattle.f95_tree.specs.declared.source.Case.{Case}
use Rattle.f95_tree.specs.declared.source.Otherwise.{Otherwise}
use Rattle.f95_tree.specs.declared.source.WhereStatement.TheVariants as where_statement
use Rattle.f95_nesting.specs.declared.open.Block.TheVariants as block
use Rattle.f95_nesting.specs.declared.open.IfHead.{IfHead}
use Rattle.f95_nesting.specs.declared.open.SelectHead.{SelectHead}
use Rattle.f95_nesting.specs.declared.open.DoHead.{DoHead}
use Rattle.f95_nesting.specs.declared.open.Frame.{Frame}
use Rattle.f95_nesting.specs.declared.open.WherePart.TheVariants as part
use Rattle.f95_nesting.specs.declared.open.WhereFrame.{WhereFrame}
use Rattle.f95_nesting.specs.declared.open.Inner.TheVariants as inner
use Rattle.f95_nesting.specs.declared.open.Body.{Body}
use Rattle.f95_nesting.specs.declared.roles.BodyForm.{BodyForm}
use Rattle.f95_nesting.specs.declared.roles.BodyForm.TheVariants as form_of
use Rattle.f95_nesting.specs.declared.roles.Opening.{Opening}
use Rattle.f95_nesting.specs.declared.roles.Opening.TheVariants as opening_of
use Rattle.f95_nesting.specs.declared.roles.IfPart.{IfPart}
use Rattle.f95_nesting.specs.declared.roles.IfPart.TheVariants as if_of
use Rattle.f95_nesting.specs.declared.roles.SelectPart.{SelectPart}
use Rattle.f95_nesting.specs.declared.roles.SelectPart.TheVariants as select_of
use Rattle.f95_nesting.specs.declared.roles.WhereForm.{WhereForm}
use Rattle.f95_nesting.specs.declared.roles.WhereForm.TheVariants as where_of
use Rattle.f95_nesting.specs.declared.roles.ForallForm.{ForallForm}
use Rattle.f95_nesting.specs.declared.roles.ForallForm.TheVariants as forall_of
use Rattle.f95_nesting.specs.Placed.{Context, action_stands}
use Rattle.f95_nesting.specs.Machine.{only_if, body, open_block, more, ending, if_head, branch_head, select_head, case_head}
use Rattle.f95_nesting.specs.Machine.{if_block, select_block, next_case, in_frames, where_frame, more_where, in_where, next_part}
use Rattle.f95_nesting.specs.Machine.{parted_where, closed_where, end_where}

-- among statements
abbrev pub body_form : Form → Option BodyForm
body_form (of.Action a) = Some (form_of.Action a)
body_form (of.If e a) = Some (form_of.If e a)
body_form (of.Block b) = Some (form_of.Block b)
body_form _ = None

-- what begins a block, or else the form as it is
abbrev pub opening_form : BlockForm → Result Opening BlockForm
opening_form (block_of.If n e) = Ok (opening_of.If n e)
opening_form (block_of.Select n e) = Ok (opening_of.Select n e)
opening_form (block_of.Do n control) = Ok (opening_of.Do n control)
opening_form (block_of.Where m) = Ok (opening_of.Where m)
opening_form (block_of.Forall h) = Ok (opening_of.Forall h)
opening_form b = Err b

abbrev pub opened : List Frame → List Statement → Line → Opening → Body
opened outer done l (opening_of.If n e) = open_block outer done (block.If (if_head l n e))
opened outer done l (opening_of.Select n e) = body outer (inner.Select done (select_head l n e))
opened outer done l (opening_of.Do n control) = open_block outer done (block.Do (record { line = l; name = n; control = control }))
opened outer done l (opening_of.Where m) = body outer (inner.Where done [] (where_frame l m part.First []))
opened outer done l (opening_of.Forall h) = body outer (inner.Forall done l h [])

-- a block begins behind these statements, or else they are of the block that this parts or ends
abbrev pub block_by : List Frame → List Statement → Line → Result Opening BlockForm → Option Body
block_by outer done l (Ok o) = Some (opened outer done l o)
block_by outer done l (Err b) = in_frames outer done l b

abbrev pub statements_by : Context → List Frame → List Statement → Line → Option BodyForm → Option Body
statements_by c outer done l None = None
statements_by c outer done l (Some (form_of.Action a)) = only_if (action_stands c a) (more outer done (statement.Action l a))
statements_by c outer done l (Some (form_of.If e a)) = only_if (action_stands c a) (more outer done (statement.If l e a))
statements_by c outer done l (Some (form_of.Block b)) = block_by outer done l (opening_form b)

-- to IF
abbrev pub if_part : BlockForm → Option IfPart
if_part (block_of.ElseIf e n) = Some (if_of.ElseIf e n)
if_part (block_of.Else n) = Some (if_of.Else n)
if_part (block_of.EndIf n) = Some (if_of.End n)
if_part _ = None

abbrev pub if_by : List Frame → List Statement → IfHead → List Statement → List Branch → Line → Option IfPart → Option Body
if_by outer before h first branches l None = None
if_by outer before h first branches l (Some (if_of.ElseIf e n)) =
    Some (open_block outer before (block.ElseIf h first branches (branch_head l e n)))
if_by outer before h first branches l (Some (if_of.Else n)) = Some (open_block outer before (block.Else h first branches l n))
if_by outer before h first branches l (Some (if_of.End n)) = Some (more outer before (if_block h first branches None l n))

-- the name at END IF
abbrev pub end_of_if : BlockForm → Option (Option Word)
end_of_if (block_of.EndIf n) = Some n
end_of_if _ = None

abbrev pub else_by : List Frame → List Statement → IfHead → List Statement → List Branch → Otherwise → Line → Option (Option Word) →
    Option Body
else_by outer before h first branches other l None = None
else_by outer before h first branches other l (Some n) = Some (more outer before (if_block h first branches (Some other) l n))

-- to SELECT CASE
abbrev pub select_part : BlockForm → Option SelectPart
select_part (block_of.Case ranges n) = Some (select_of.Case (Some ranges) n)
select_part (block_of.CaseDefault n) = Some (select_of.Case None n)
select_part (block_of.EndSelect n) = Some (select_of.End n)
select_part _ = None

abbrev pub select_form : Form → Option SelectPart
select_form (of.Block b) = select_part b
select_form _ = None

abbrev pub select_by : List Frame → List Statement → SelectHead → List Case → Line → Option SelectPart → Option Body
select_by outer before h cases l None = None
select_by outer before h cases l (Some (select_of.Case ranges n)) = next_case outer before h cases (case_head l ranges n)
select_by outer before h cases l (Some (select_of.End n)) = Some (more outer before (select_block h cases l n))

-- the name at END DO
abbrev pub end_of_do : BlockForm → Option (Option Word)
end_of_do (block_of.EndDo n) = Some n
end_of_do _ = None

-- DO with its body and its end
abbrev pub do_block : DoHead → List Statement → Line → Option Word → Statement
do_block h xs l n = statement.Do h.line h.name h.control xs (ending l None n)

abbrev pub do_by : List Frame → List Statement → DoHead → List Statement → Line → Option (Option Word) → Option Body
do_by outer before h done l None = None
do_by outer before h done l (Some n) = Some (more outer before (do_block h done l n))

-- to WHERE
abbrev pub is_end_where : BlockForm → Bool
is_end_where block_of.EndWhere = true
is_end_where _ = false

abbrev pub end_where_if : Bool → Option WhereForm
end_where_if true = Some where_of.End
end_where_if false = None

abbrev pub where_part : BlockForm → Option WhereForm
where_part (block_of.Where m) = Some (where_of.Begin m)
where_part (block_of.ElseWhere m) = Some (where_of.Else m)
where_part b = end_where_if (is_end_where b)

abbrev pub where_action : Action → Option WhereForm
where_action (act.Assignment a) = Some (where_of.Assignment a)
where_action (act.Where m a) = Some (where_of.Masked m a)
where_action _ = None

abbrev pub where_form : Form → Option WhereForm
where_form (of.Action a) = where_action a
where_form (of.Block b) = where_part b
where_form _ = None

abbrev pub where_by : List Frame → List Statement → List WhereFrame → WhereFrame → Line → Option WhereForm → Option Body
where_by outer before wheres w l None = None
where_by outer before wheres w l (Some (where_of.Assignment a)) =
    Some (in_where outer before wheres (more_where w (where_statement.Assignment l a)))
where_by outer before wheres w l (Some (where_of.Masked m a)) =
    Some (in_where outer before wheres (more_where w (where_statement.Where l m a)))
where_by outer before wheres w l (Some (where_of.Begin m)) =
    Some (in_where outer before (w ∷ wheres) (where_frame l m part.First []))
where_by outer before wheres w l (Some (where_of.Else m)) = parted_where outer before wheres w (next_part w.part w.done l m)
where_by outer before wheres w l (Some where_of.End) = Some (end_where outer before wheres (closed_where w l))

-- to FORALL
abbrev pub is_end_forall : BlockForm → Bool
is_end_forall block_of.EndForall = true
is_end_forall _ = false

abbrev pub end_forall_if : Bool → Option ForallForm
end_forall_if true = Some forall_of.End
end_forall_if false = None

abbrev pub forall_part : BlockForm → Option ForallForm
forall_part b = end_forall_if (is_end_forall b)

abbrev pub forall_action : Action → Option ForallForm
forall_action (act.Assignment a) = Some (forall_of.Assignment a)
forall_action _ = None

abbrev pub forall_form : Form → Option ForallForm
forall_form (of.Action a) = forall_action a
forall_form (of.Block b) = forall_part b
forall_form _ = None

abbrev pub forall_by : List Frame → List Statement → Line → Header → List (Line × Assignment) → Line → Option ForallForm →
    Option Body
forall_by outer before k h done l None = None
forall_by outer before k h done l (Some (forall_of.Assignment a)) =
    Some (body outer (inner.Forall before k h (done ++ (l, a) ∷ [])))
forall_by outer before k h done l (Some forall_of.End) = Some (more outer before (statement.Forall k h done l))
