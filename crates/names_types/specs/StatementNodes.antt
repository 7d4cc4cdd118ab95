-- What each statement names, with what stands in it.
use Rattle.std.specs.Prelude.{◌≡◌, List, ◌++◌, map, Option, option_map}
use Rattle.a95_base.specs.declared.source.Line.{Line}
use Rattle.f95_tree.specs.Forms.{Word}
use Rattle.f95_tree.specs.declared.action.Action.{Action}
use Rattle.f95_tree.specs.declared.action.Assignment.{Assignment}
use Rattle.f95_tree.specs.declared.action.Header.{Header}
use Rattle.f95_tree.specs.declared.expression.Expression.{Expression}
use Rattle.f95_tree.specs.declared.form.Control.{Control}
use Rattle.f95_tree.specs.declared.source.Statement.{Statement}
use Rattle.f95_tree.specs.declared.source.Statement.TheVariants as statement
use Rattle.f95_tree.specs.declared.source.Branch.{Branch}
use Rattle.f95_tree.specs.declared.source.Case.{Case}
use Rattle.f95_tree.specs.declared.source.Otherwise.{Otherwise}
use Rattle.f95_tree.specs.declared.source.Ending.{Ending}
use Rattle.f95_tree.specs.declared.source.WhereBlock.{WhereBlock}
use Rattle.names_types.specs.Mentions.{mentions_on}
use Rattle.names_types.specs.View.{together, names_of, action_names, control_names, header_names, assignments_mentions, last_part}
use Rattle.names_types.specs.View.{where_mentions, statement_mentions, branch_mentions, case_mentions, otherwise_mentions}

abbrev pub Actions : Type 0
Actions = (l : Line) (a : Action) → statement_mentions (statement.Action l a) ≡ mentions_on l.0 (action_names a)

abbrev pub Ifs : Type 0
Ifs = (l : Line) (e : Expression) (a : Action)
    → statement_mentions (statement.If l e a) ≡ mentions_on l.0 (names_of e ++ action_names a)

abbrev pub IfBlocks : Type 0
IfBlocks = (l : Line) (n : Option Word) (e : Expression) (body : List Statement) (branches : List Branch) (other : Option Otherwise)
    (end : Ending) → statement_mentions (statement.IfBlock l n e body branches other end)
    ≡ mentions_on l.0 (names_of e) ++ (together (map statement_mentions body)
    ++ (together (map branch_mentions branches) ++ last_part (option_map otherwise_mentions other)))

abbrev pub Selects : Type 0
Selects = (l : Line) (n : Option Word) (e : Expression) (cases : List Case) (end : Ending)
    → statement_mentions (statement.Select l n e cases end)
    ≡ mentions_on l.0 (names_of e) ++ together (map case_mentions cases)

abbrev pub Loops : Type 0
Loops = (l : Line) (n : Option Word) (control : Control) (body : List Statement) (end : Ending)
    → statement_mentions (statement.Do l n control body end)
    ≡ mentions_on l.0 (control_names control) ++ together (map statement_mentions body)

abbrev pub Wheres : Type 0
Wheres = (b : WhereBlock) → statement_mentions (statement.Where b) ≡ where_mentions b

abbrev pub Foralls : Type 0
Foralls = (l : Line) (h : Header) (xs : List (Line × Assignment)) (end : Line)
    → statement_mentions (statement.Forall l h xs end) ≡ mentions_on l.0 (header_names h) ++ assignments_mentions xs
