-- The parts of a typed unit that `f95_unit` doesn't show by themselves, as plain data, and lists of them as slices hold them.
use Rattle.std.specs.Prelude.{List, map}
use Rattle.f95_unit.specs.Plain as plain
use Rattle.f95_unit.specs.View.{AddItem, AddSubscript, AddArgument, AddMasked, AddOther, AddBranch, AddCase, joined_items}
use Rattle.f95_unit.specs.View.{joined_subscripts, joined_arguments, joined_masked, joined_others, joined_branches, joined_cases}
use Rattle.f95_unit.specs.View.{joined_stmts, access_at, bound_at, item_at, node_at, part_at, subject_at, subscript_at, argument_at}
use Rattle.f95_unit.specs.View.{call_at, designator_at, expr_at, masked_at, elsewhere_at, where_at, stmt_at, branch_at, case_at}
use Rattle.f95_unit.specs.View.{stmt_of}
use Rattle.f95_unit.specs.declared.expr.Access.TheFolds.{fold-Access, fold-Item, fold-Node, fold-Part, fold-Subject, fold-Subscript}
use Rattle.f95_unit.specs.declared.expr.Access.TheFolds.{fold-Argument}
use Rattle.f95_unit.specs.declared.expr.Access.{Access}
use Rattle.f95_unit.specs.declared.expr.Item.{Item}
use Rattle.f95_unit.specs.declared.expr.Node.{Node}
use Rattle.f95_unit.specs.declared.expr.Part.{Part}
use Rattle.f95_unit.specs.declared.expr.Subject.{Subject}
use Rattle.f95_unit.specs.declared.expr.Subscript.{Subscript}
use Rattle.f95_unit.specs.declared.expr.Argument.{Argument}
use Rattle.f95_unit.specs.declared.assign.Masked.{Masked}
use Rattle.f95_unit.specs.declared.assign.Elsewhere.{Elsewhere}
use Rattle.f95_unit.specs.declared.assign.Masked.TheFolds.{fold-Masked, fold-Elsewhere}
use Rattle.f95_unit.specs.declared.stmt.Stmt.{Stmt}
use Rattle.f95_unit.specs.declared.stmt.Branch.{Branch}
use Rattle.f95_unit.specs.declared.stmt.Case.{Case}
use Rattle.f95_unit.specs.declared.stmt.Stmt.TheFolds.{fold-Branch, fold-Case}

abbrev pub access_of : Access → plain.Access
access_of = fold-Access plain.Access plain.Bound AddItem plain.Node plain.Part plain.Subject
    AddSubscript AddArgument plain.Call plain.Designator plain.Expr
    access_at bound_at item_at node_at part_at subject_at subscript_at argument_at call_at designator_at expr_at

abbrev pub item_of : Item → AddItem
item_of = fold-Item plain.Access plain.Bound AddItem plain.Node plain.Part plain.Subject
    AddSubscript AddArgument plain.Call plain.Designator plain.Expr
    access_at bound_at item_at node_at part_at subject_at subscript_at argument_at call_at designator_at expr_at

abbrev pub node_of : Node → plain.Node
node_of = fold-Node plain.Access plain.Bound AddItem plain.Node plain.Part plain.Subject
    AddSubscript AddArgument plain.Call plain.Designator plain.Expr
    access_at bound_at item_at node_at part_at subject_at subscript_at argument_at call_at designator_at expr_at

abbrev pub part_of : Part → plain.Part
part_of = fold-Part plain.Access plain.Bound AddItem plain.Node plain.Part plain.Subject
    AddSubscript AddArgument plain.Call plain.Designator plain.Expr
    access_at bound_at item_at node_at part_at subject_at subscript_at argument_at call_at designator_at expr_at

abbrev pub subject_of : Subject → plain.Subject
subject_of = fold-Subject plain.Access plain.Bound AddItem plain.Node plain.Part plain.Subject
    AddSubscript AddArgument plain.Call plain.Designator plain.Expr
    access_at bound_at item_at node_at part_at subject_at subscript_at argument_at call_at designator_at expr_at

abbrev pub subscript_of : Subscript → AddSubscript
subscript_of = fold-Subscript plain.Access plain.Bound AddItem plain.Node plain.Part plain.Subject
    AddSubscript AddArgument plain.Call plain.Designator plain.Expr
    access_at bound_at item_at node_at part_at subject_at subscript_at argument_at call_at designator_at expr_at

abbrev pub argument_of : Argument → AddArgument
argument_of = fold-Argument plain.Access plain.Bound AddItem plain.Node plain.Part plain.Subject
    AddSubscript AddArgument plain.Call plain.Designator plain.Expr
    access_at bound_at item_at node_at part_at subject_at subscript_at argument_at call_at designator_at expr_at

abbrev pub items_of : List Item → plain.Items
items_of items = joined_items (map item_of items)

abbrev pub subscripts_of : List Subscript → plain.Subscripts
subscripts_of ss = joined_subscripts (map subscript_of ss)

abbrev pub arguments_of : List Argument → plain.Arguments
arguments_of es = joined_arguments (map argument_of es)

abbrev pub masked_of : Masked → AddMasked
masked_of = fold-Masked AddMasked AddOther plain.Where masked_at elsewhere_at where_at

abbrev pub elsewhere_of : Elsewhere → AddOther
elsewhere_of = fold-Elsewhere AddMasked AddOther plain.Where masked_at elsewhere_at where_at

abbrev pub masked_body_of : List Masked → plain.MaskedBody
masked_body_of body = joined_masked (map masked_of body)

abbrev pub others_of : List Elsewhere → plain.Others
others_of others = joined_others (map elsewhere_of others)

abbrev pub branch_of : Branch → AddBranch
branch_of = fold-Branch plain.Stmt AddBranch AddCase stmt_at branch_at case_at

abbrev pub case_of : Case → AddCase
case_of = fold-Case plain.Stmt AddBranch AddCase stmt_at branch_at case_at

abbrev pub stmts_of : List Stmt → plain.Stmts
stmts_of body = joined_stmts (map stmt_of body)

abbrev pub branches_of : List Branch → plain.Branches
branches_of branches = joined_branches (map branch_of branches)

abbrev pub cases_of : List Case → plain.Cases
cases_of cases = joined_cases (map case_of cases)
