-- What a form makes of a block is what it is to that block makes of it.
use Rattle.std.proofs.Common.{◌≡◌, List, [], Option, Some, None, refl}
use Rattle.a95_base.specs.declared.source.Line.{Line}
use Rattle.f95_tree.specs.declared.action.Action.{Action}
use Rattle.f95_tree.specs.declared.action.Action.TheVariants as act
use Rattle.f95_tree.specs.declared.action.Header.{Header}
use Rattle.f95_tree.specs.declared.action.Assignment.{Assignment}
use Rattle.f95_tree.specs.declared.form.Form.{Form}
use Rattle.f95_tree.specs.declared.form.Form.TheVariants as of
use Rattle.f95_tree.specs.declared.form.BlockForm.{BlockForm}
use Rattle.f95_tree.specs.declared.form.BlockForm.TheVariants as block_of
use Rattle.f95_tree.specs.declared.source.Statement.{Statement}
use Rattle.f95_tree.specs.declared.source.Branch.{Branch}
use Rattle.f95_tree.specs.declared.source.Case.{Case}
use Rattle.f95_tree.specs.declared.source.Otherwise.{Otherwise}
use Rattle.f95_nesting.specs.declared.open.IfHead.{IfHead}
use Rattle.f95_nesting.specs.declared.open.SelectHead.{SelectHead}
use Rattle.f95_nesting.specs.declared.open.DoHead.{DoHead}
use Rattle.f95_nesting.specs.declared.open.Frame.{Frame}
use Rattle.f95_nesting.specs.declared.open.WhereFrame.{WhereFrame}
use Rattle.f95_nesting.specs.declared.open.WherePart.{WherePart}
use Rattle.f95_nesting.specs.Placed.{Context}
use Rattle.f95_nesting.specs.Machine.{in_if, in_else_if, in_else, in_select, in_do, block_move, statements_move, select_move}
use Rattle.f95_nesting.specs.Machine.{parted_where, where_block_move, where_action_move, where_move, forall_block_move}
use Rattle.f95_nesting.specs.Machine.{forall_action_move, forall_move}
use Rattle.f95_nesting.specs.Kinds.{with_part}
use Rattle.f95_nesting.specs.Roles.{body_form, opening_form, block_by, statements_by, if_part, if_by, end_of_if, else_by}
use Rattle.f95_nesting.specs.Roles.{select_part, select_form, select_by, end_of_do, do_by, where_part, where_action, where_form}
use Rattle.f95_nesting.specs.Roles.{where_by, forall_part, forall_action, forall_form, forall_by}

-- the body of IF is that before no ELSE IFs
pub first_body : (outer : List Frame) (before : List Statement) (h : IfHead) (done : List Statement) (l : Line) (b : BlockForm)
    → in_if outer before h done l b ≡ in_else_if outer before h done [] l b
first_body outer before h done l (block_of.ElseIf e n) = refl
first_body outer before h done l _ = refl

pub in_else_if_by : (outer : List Frame) (before : List Statement) (h : IfHead) (first : List Statement) (branches : List Branch)
    (l : Line) (b : BlockForm) → in_else_if outer before h first branches l b ≡ if_by outer before h first branches l (if_part b)
in_else_if_by outer before h first branches l (block_of.ElseIf e n) = refl
in_else_if_by outer before h first branches l _ = refl

pub in_else_by : (outer : List Frame) (before : List Statement) (h : IfHead) (first : List Statement) (branches : List Branch)
    (other : Otherwise) (l : Line) (b : BlockForm)
    → in_else outer before h first branches other l b ≡ else_by outer before h first branches other l (end_of_if b)
in_else_by outer before h first branches other l (block_of.EndIf n) = refl
in_else_by outer before h first branches other l _ = refl

pub in_select_by : (outer : List Frame) (before : List Statement) (h : SelectHead) (cases : List Case) (l : Line) (b : BlockForm)
    → in_select outer before h cases l b ≡ select_by outer before h cases l (select_part b)
in_select_by outer before h cases l (block_of.EndSelect n) = refl
in_select_by outer before h cases l _ = refl

pub select_move_by : (outer : List Frame) (before : List Statement) (h : SelectHead) (l : Line) (f : Form)
    → select_move outer before h l f ≡ select_by outer before h [] l (select_form f)
select_move_by outer before h l (of.Block b) = in_select_by outer before h [] l b
select_move_by outer before h l _ = refl

pub in_do_by : (outer : List Frame) (before : List Statement) (h : DoHead) (done : List Statement) (l : Line) (b : BlockForm)
    → in_do outer before h done l b ≡ do_by outer before h done l (end_of_do b)
in_do_by outer before h done l (block_of.EndDo n) = refl
in_do_by outer before h done l _ = refl

block_move_by : (outer : List Frame) (done : List Statement) (l : Line) (b : BlockForm)
    → block_move outer done l b ≡ block_by outer done l (opening_form b)
block_move_by outer done l (block_of.If n e) = refl
block_move_by outer done l _ = refl

pub statements_move_by : (c : Context) (outer : List Frame) (done : List Statement) (l : Line) (f : Form)
    → statements_move c outer done l f ≡ statements_by c outer done l (body_form f)
statements_move_by c outer done l (of.Block b) = block_move_by outer done l b
statements_move_by c outer done l _ = refl

pub parted_as : (outer : List Frame) (before : List Statement) (wheres : List WhereFrame) (w : WhereFrame) (p : Option WherePart)
    → parted_where outer before wheres w p ≡ with_part outer before wheres w.line w.mask p
parted_as outer before wheres w None = refl
parted_as outer before wheres w (Some p) = refl

where_block_by : (outer : List Frame) (before : List Statement) (wheres : List WhereFrame) (w : WhereFrame) (l : Line)
    (b : BlockForm)
    → where_block_move outer before wheres w l b ≡ where_by outer before wheres w l (where_part b)
where_block_by outer before wheres w l (block_of.Where m) = refl
where_block_by outer before wheres w l _ = refl

where_action_by : (outer : List Frame) (before : List Statement) (wheres : List WhereFrame) (w : WhereFrame) (l : Line) (a : Action)
    → where_action_move outer before wheres w l a ≡ where_by outer before wheres w l (where_action a)
where_action_by outer before wheres w l (act.Assignment a) = refl
where_action_by outer before wheres w l _ = refl

pub where_move_by : (outer : List Frame) (before : List Statement) (wheres : List WhereFrame) (w : WhereFrame) (l : Line) (f : Form)
    → where_move outer before wheres w l f ≡ where_by outer before wheres w l (where_form f)
where_move_by outer before wheres w l (of.Action a) = where_action_by outer before wheres w l a
where_move_by outer before wheres w l (of.Block b) = where_block_by outer before wheres w l b
where_move_by outer before wheres w l _ = refl

forall_block_by : (outer : List Frame) (before : List Statement) (k : Line) (h : Header) (done : List (Line × Assignment))
    (l : Line)
    (b : BlockForm) → forall_block_move outer before k h done l b ≡ forall_by outer before k h done l (forall_part b)
forall_block_by outer before k h done l block_of.EndForall = refl
forall_block_by outer before k h done l _ = refl

forall_action_by : (outer : List Frame) (before : List Statement) (k : Line) (h : Header) (done : List (Line × Assignment))
    (l : Line)
    (a : Action) → forall_action_move outer before k h done l a ≡ forall_by outer before k h done l (forall_action a)
forall_action_by outer before k h done l (act.Assignment a) = refl
forall_action_by outer before k h done l _ = refl

pub forall_move_by : (outer : List Frame) (before : List Statement) (k : Line) (h : Header) (done : List (Line × Assignment))
    (l : Line)
    (f : Form) → forall_move outer before k h done l f ≡ forall_by outer before k h done l (forall_form f)
forall_move_by outer before k h done l (of.Action a) = forall_action_by outer before k h done l a
forall_move_by outer before k h done l (of.Block b) = forall_block_by outer before k h done l b
forall_move_by outer before k h done l _ = refl
