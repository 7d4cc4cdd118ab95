-- The typed unit of the code as plain data: one fold over expressions, one over WHERE, one over statements.
use Rattle.std.specs.Prelude.{ℕ, List, [], ◌∷◌, map, option_map}
use Rattle.a95_base.specs.declared.source.Line.{Line}
use Rattle.f95_unit.specs.Plain as plain
use Rattle.f95_unit.specs.declared.expr.Access.TheOpen.{Access-F, Bound-F, Item-F, Node-F, Part-F, Subject-F, Subscript-F}
use Rattle.f95_unit.specs.declared.expr.Access.TheOpen.{Argument-F, Call-F, Designator-F, Expr-F}
use Rattle.f95_unit.specs.declared.expr.Access.TheFolds.{fold-Bound, fold-Call, fold-Designator, fold-Expr}
use Rattle.f95_unit.specs.declared.expr.Bound.{Bound}
use Rattle.f95_unit.specs.declared.expr.Call.{Call}
use Rattle.f95_unit.specs.declared.expr.Designator.{Designator}
use Rattle.f95_unit.specs.declared.expr.Expr.{Expr}
use Rattle.f95_unit.specs.declared.assign.Target.{Target}
use Rattle.f95_unit.specs.declared.assign.Assign.{Assign}
use Rattle.f95_unit.specs.declared.assign.Where.{Where}
use Rattle.f95_unit.specs.declared.assign.Masked.TheOpen.{Masked-F, Elsewhere-F, Where-F}
use Rattle.f95_unit.specs.declared.assign.Masked.TheFolds.{fold-Where}
use Rattle.f95_unit.specs.declared.assign.Forall.{Forall}
use Rattle.f95_unit.specs.declared.assign.Triplet.{Triplet}
use Rattle.f95_unit.specs.declared.stmt.Stmt.{Stmt}
use Rattle.f95_unit.specs.declared.stmt.Stmt.TheOpen.{Stmt-F, Branch-F, Case-F}
use Rattle.f95_unit.specs.declared.stmt.Stmt.TheFolds.{fold-Stmt}
use Rattle.f95_unit.specs.declared.stmt.Allocation.{Allocation}
use Rattle.f95_unit.specs.declared.stmt.Span.{Span}
use Rattle.f95_unit.specs.declared.unit.Bounds.{Bounds}
use Rattle.f95_unit.specs.declared.unit.Bounds.TheVariants as bounds
use Rattle.f95_unit.specs.declared.unit.Entity.{Entity}
use Rattle.f95_unit.specs.declared.unit.Procedure.{Procedure}
use Rattle.f95_unit.specs.declared.unit.Unit.{Unit as RustUnit}

-- ---- expressions. An item of a list is seen as what it puts in front of the rest

abbrev pub AddItem : Type 0
AddItem = plain.Items → plain.Items

abbrev pub AddSubscript : Type 0
AddSubscript = plain.Subscripts → plain.Subscripts

abbrev pub AddArgument : Type 0
AddArgument = plain.Arguments → plain.Arguments

-- a layer of the tree whose parts are seen
abbrev pub Seen : (Type 0 → Type 0 → Type 0 → Type 0 → Type 0 → Type 0 → Type 0 → Type 0 → Type 0 → Type 0 → Type 0 → Type 0)
    → Type 0
Seen F = F plain.Access plain.Bound AddItem plain.Node plain.Part plain.Subject AddSubscript AddArgument plain.Call plain.Designator
    plain.Expr

abbrev pub joined_items : List AddItem → plain.Items
joined_items [] = plain.no_item
joined_items (add ∷ more) = add (joined_items more)

abbrev pub joined_subscripts : List AddSubscript → plain.Subscripts
joined_subscripts [] = plain.no_subscript
joined_subscripts (add ∷ more) = add (joined_subscripts more)

abbrev pub joined_arguments : List AddArgument → plain.Arguments
joined_arguments [] = plain.no_argument
joined_arguments (add ∷ more) = add (joined_arguments more)

abbrev pub access_at : Seen Access-F → plain.Access
access_at Access-F.Whole = plain.Whole
access_at (Access-F.At subscripts) = plain.Subscripted (joined_subscripts subscripts)

abbrev pub bound_at : Seen Bound-F → plain.Bound
bound_at Bound-F.Absent = plain.Absent
bound_at (Bound-F.Given e) = plain.Given e

abbrev pub item_at : Seen Item-F → AddItem
item_at (Item-F.Value e) more = plain.value e more
item_at (Item-F.Loop body first last step) more = plain.loop (joined_items body) first last step more

abbrev pub node_at : Seen Node-F → plain.Node
node_at (Node-F.Literal x) = plain.Literal x
node_at (Node-F.Constant n) = plain.Constant n
node_at (Node-F.Index k) = plain.Index k
node_at (Node-F.Designator d) = plain.Named d
node_at (Node-F.Brackets e) = plain.Brackets e
node_at (Node-F.Unary op e) = plain.Unary op e
node_at (Node-F.Binary op e f) = plain.Binary op e f
node_at (Node-F.Constructor items) = plain.Constructor (joined_items items)
node_at (Node-F.Elemental which es) = plain.Elementwise which (joined_arguments es)
node_at (Node-F.Trim e) = plain.Trim e
node_at (Node-F.Inquiry which dim subject) = plain.Asked which dim subject
node_at (Node-F.Reduction which dim es) = plain.Reduced which dim (joined_arguments es)
node_at (Node-F.Rearranging which dim es) = plain.Rearranged which dim (joined_arguments es)
node_at (Node-F.Call c) = plain.Called c

abbrev pub part_at : Seen Part-F → plain.Part
part_at Part-F.All = plain.AllOf
part_at (Part-F.Bytes first last) = plain.BytesOf first last

abbrev pub subject_at : Seen Subject-F → plain.Subject
subject_at (Subject-F.Name n) = plain.Name n
subject_at (Subject-F.Of e) = plain.Of e

abbrev pub subscript_at : Seen Subscript-F → AddSubscript
subscript_at (Subscript-F.One e) more = plain.subscript (plain.One e) more
subscript_at (Subscript-F.Vector e) more = plain.subscript (plain.Vector e) more
subscript_at (Subscript-F.Triplet first last stride) more = plain.subscript (plain.SubscriptTriplet first last stride) more

abbrev pub argument_at : Seen Argument-F → AddArgument
argument_at a more = plain.argument a.place a.value more

abbrev pub call_at : Seen Call-F → plain.Call
call_at c = plain.call c.procedure (joined_arguments c.arguments)

abbrev pub designator_at : Seen Designator-F → plain.Designator
designator_at d = plain.at d.variable d.access d.part

abbrev pub expr_at : Seen Expr-F → plain.Expr
expr_at e = plain.typed e.facts e.node

abbrev pub expr_of : Expr → plain.Expr
expr_of = fold-Expr plain.Access plain.Bound AddItem plain.Node plain.Part plain.Subject AddSubscript AddArgument plain.Call
    plain.Designator plain.Expr
    access_at bound_at item_at node_at part_at subject_at subscript_at argument_at call_at designator_at expr_at

abbrev pub bound_of : Bound → plain.Bound
bound_of = fold-Bound plain.Access plain.Bound AddItem plain.Node plain.Part plain.Subject AddSubscript AddArgument plain.Call
    plain.Designator plain.Expr
    access_at bound_at item_at node_at part_at subject_at subscript_at argument_at call_at designator_at expr_at

abbrev pub call_of : Call → plain.Call
call_of = fold-Call plain.Access plain.Bound AddItem plain.Node plain.Part plain.Subject AddSubscript AddArgument plain.Call
    plain.Designator plain.Expr
    access_at bound_at item_at node_at part_at subject_at subscript_at argument_at call_at designator_at expr_at

abbrev pub designator_of : Designator → plain.Designator
designator_of = fold-Designator plain.Access plain.Bound AddItem plain.Node plain.Part plain.Subject AddSubscript AddArgument
    plain.Call plain.Designator plain.Expr
    access_at bound_at item_at node_at part_at subject_at subscript_at argument_at call_at designator_at expr_at

-- ---- assignments

abbrev pub line_of : Line → ℕ
line_of l = l.0

abbrev pub target_of : Target → plain.Target
target_of t = record { facts = t.facts; designator = designator_of t.designator }

abbrev pub assign_of : Assign → plain.Assign
assign_of a = record { line = line_of a.line; target = target_of a.target; value = expr_of a.value }

abbrev pub AddMasked : Type 0
AddMasked = plain.MaskedBody → plain.MaskedBody

abbrev pub AddOther : Type 0
AddOther = plain.Others → plain.Others

abbrev pub joined_masked : List AddMasked → plain.MaskedBody
joined_masked [] = plain.no_masked
joined_masked (add ∷ more) = add (joined_masked more)

abbrev pub joined_others : List AddOther → plain.Others
joined_others [] = plain.no_other
joined_others (add ∷ more) = add (joined_others more)

abbrev pub masked_at : Masked-F AddMasked AddOther plain.Where → AddMasked
masked_at (Masked-F.Assign a) more = plain.assigning (assign_of a) more
masked_at (Masked-F.Where w) more = plain.narrowed w more

abbrev pub elsewhere_at : Elsewhere-F AddMasked AddOther plain.Where → AddOther
elsewhere_at e more = plain.elsewhere (line_of e.line) (option_map expr_of e.mask) (joined_masked e.body) more

abbrev pub where_at : Where-F AddMasked AddOther plain.Where → plain.Where
where_at w = plain.masked (line_of w.line) (expr_of w.mask) (joined_masked w.body) (joined_others w.others)

abbrev pub where_of : Where → plain.Where
where_of = fold-Where AddMasked AddOther plain.Where masked_at elsewhere_at where_at

abbrev pub triplet_of : Triplet → plain.Triplet
triplet_of t = record { first = expr_of t.first; last = expr_of t.last; stride = bound_of t.stride }

abbrev pub forall_of : Forall → plain.Forall
forall_of f =
    record {
      line = line_of f.line;
      triplets = map triplet_of f.triplets;
      mask = option_map expr_of f.mask;
      body =
          map assign_of f.body;
    }

-- ---- statements

abbrev pub span_of : Span → plain.Span
span_of s = record { lower = bound_of s.lower; upper = expr_of s.upper }

abbrev pub allocation_of : Allocation → plain.Allocation
allocation_of a = record { variable = a.variable; spans = map span_of a.spans }

abbrev pub AddBranch : Type 0
AddBranch = plain.Branches → plain.Branches

abbrev pub AddCase : Type 0
AddCase = plain.Cases → plain.Cases

abbrev pub joined_stmts : List plain.Stmt → plain.Stmts
joined_stmts [] = plain.no_stmt
joined_stmts (s ∷ more) = plain.stmt s (joined_stmts more)

abbrev pub joined_branches : List AddBranch → plain.Branches
joined_branches [] = plain.no_branch
joined_branches (add ∷ more) = add (joined_branches more)

abbrev pub joined_cases : List AddCase → plain.Cases
joined_cases [] = plain.no_case
joined_cases (add ∷ more) = add (joined_cases more)

abbrev pub stmt_at : Stmt-F plain.Stmt AddBranch AddCase → plain.Stmt
stmt_at (Stmt-F.Assign a) = plain.Assigns (assign_of a)
stmt_at (Stmt-F.Where w) = plain.Masks (where_of w)
stmt_at (Stmt-F.Forall f) = plain.ForAll (forall_of f)
stmt_at (Stmt-F.Call line c) = plain.Calls (line_of line) (call_of c)
stmt_at (Stmt-F.Allocate line objects) = plain.Allocate (line_of line) (map allocation_of objects)
stmt_at (Stmt-F.Deallocate line names) = plain.Deallocate (line_of line) names
stmt_at (Stmt-F.Print line es) = plain.Print (line_of line) (map expr_of es)
stmt_at (Stmt-F.Read line targets) = plain.Read (line_of line) (map target_of targets)
stmt_at (Stmt-F.If branches otherwise) = plain.If (joined_branches branches) (joined_stmts otherwise)
stmt_at (Stmt-F.Select line e cases otherwise) = plain.Select (line_of line) (expr_of e) (joined_cases cases)
    (joined_stmts otherwise)
stmt_at (Stmt-F.Do line n first last step body) = plain.Do (line_of line) n (expr_of first) (expr_of last) (bound_of step)
    (joined_stmts body)
stmt_at (Stmt-F.While line e body) = plain.While (line_of line) (expr_of e) (joined_stmts body)
stmt_at (Stmt-F.Forever line body) = plain.Forever (line_of line) (joined_stmts body)
stmt_at (Stmt-F.Exit line out) = plain.Exit (line_of line) out
stmt_at (Stmt-F.Cycle line out) = plain.Cycle (line_of line) out
stmt_at (Stmt-F.Return line) = plain.Return (line_of line)
stmt_at (Stmt-F.Stop line) = plain.Stop (line_of line)

abbrev pub branch_at : Branch-F plain.Stmt AddBranch AddCase → AddBranch
branch_at b more = plain.branch (line_of b.line) (expr_of b.condition) (joined_stmts b.body) more

abbrev pub case_at : Case-F plain.Stmt AddBranch AddCase → AddCase
case_at c more = plain.case c.ranges (joined_stmts c.body) more

abbrev pub stmt_of : Stmt → plain.Stmt
stmt_of = fold-Stmt plain.Stmt AddBranch AddCase stmt_at branch_at case_at

-- ---- the whole

abbrev pub bounds_of : Bounds → plain.Bounds
bounds_of bounds.None = plain.Scalars
bounds_of (bounds.Explicit spans) = plain.Explicit (map span_of spans)
bounds_of (bounds.Assumed lowers) = plain.Assumed (map bound_of lowers)
bounds_of (bounds.Deferred rank) = plain.Deferred rank

abbrev pub entity_of : Entity → plain.Entity
entity_of e =
    record { line = line_of e.line; of = e.of; bounds = bounds_of e.bounds; role = e.role; initial = option_map expr_of e.initial }

abbrev pub procedure_of : Procedure → plain.Procedure
procedure_of p = record {
  line = line_of p.line;
  recursive = p.recursive;
  pure = p.pure;
  elemental = p.elemental;
  entities = map entity_of p.entities;
  result = p.result;
  body = joined_stmts (map stmt_of p.body);
}

abbrev pub program_of : RustUnit → plain.Program
program_of u = record { constants = u.constants; main = procedure_of u.main; procedures = map procedure_of u.procedures }
