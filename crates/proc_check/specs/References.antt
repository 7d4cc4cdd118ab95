-- Which procedures an expression references, and what the statements of a procedure do that the rules on calls speak of: they
-- reference procedures, and they do input, output or STOP. Declarations reference none, since their expressions are constant or
-- specification expressions.
use Rattle.std.specs.Prelude.{ℕ, true, false, Option, Some, None, List, [], ◌∷◌, ◌++◌, map}
use Rattle.std.specs.List.{flat_map}
use Rattle.f95_unit.specs.Plain.{Expr, typed, Node, Literal, Constant, Index, Named, Brackets, Unary, Binary, Constructor}
use Rattle.f95_unit.specs.Plain.{Elementwise, Trim, Asked, Reduced, Rearranged, Called, Designator, at, Access, Whole, Subscripted}
use Rattle.f95_unit.specs.Plain.{Subscripts, no_subscript, subscript, Subscript, One, Vector, SubscriptTriplet, Bound, Absent}
use Rattle.f95_unit.specs.Plain.{Given, Part, AllOf, BytesOf, Items, no_item, value, loop, Arguments, no_argument, argument}
use Rattle.f95_unit.specs.Plain.{Subject, Name, Of, Call, call, Target, Assign, Where, masked, MaskedBody, no_masked, assigning}
use Rattle.f95_unit.specs.Plain.{narrowed, Others, no_other, elsewhere, Triplet, Forall, Span, Allocation, Stmt, Assigns, Masks}
use Rattle.f95_unit.specs.Plain.{ForAll, Calls, Allocate, Deallocate, Print, Read, If, Select, Do, While, Forever, Exit, Cycle}
use Rattle.f95_unit.specs.Plain.{Return, Stop, Stmts, no_stmt, stmt, Branches, no_branch, branch, Cases, no_case, case}
use Rattle.proc_calls.specs.Acts.{Act, Transfers, reference}

-- ---- the references in an expression, in the order of the text: a reference comes before those in its arguments

abbrev mutual
  pub calls_in : Expr → List Call
  calls_in (typed facts node) = node_calls node

  pub node_calls : Node → List Call
  node_calls (Literal x) = []
  node_calls (Constant n) = []
  node_calls (Index k) = []
  node_calls (Named d) = designator_calls d
  node_calls (Brackets e) = calls_in e
  node_calls (Unary op e) = calls_in e
  node_calls (Binary op e f) = calls_in e ++ calls_in f
  node_calls (Constructor items) = item_calls items
  node_calls (Elementwise which es) = argument_calls es
  node_calls (Trim e) = calls_in e
  node_calls (Asked which dim subject) = subject_calls subject
  node_calls (Reduced which dim es) = argument_calls es
  node_calls (Rearranged which dim es) = argument_calls es
  node_calls (Called c) = call_calls c

  pub designator_calls : Designator → List Call
  designator_calls (at n access part) = access_calls access ++ part_calls part

  pub access_calls : Access → List Call
  access_calls Whole = []
  access_calls (Subscripted ss) = subscript_calls ss

  pub subscript_calls : Subscripts → List Call
  subscript_calls no_subscript = []
  subscript_calls (subscript s more) = one_subscript_calls s ++ subscript_calls more

  pub one_subscript_calls : Subscript → List Call
  one_subscript_calls (One e) = calls_in e
  one_subscript_calls (Vector e) = calls_in e
  one_subscript_calls (SubscriptTriplet first last stride) = bound_calls first ++ (bound_calls last ++ bound_calls stride)

  pub bound_calls : Bound → List Call
  bound_calls Absent = []
  bound_calls (Given e) = calls_in e

  pub part_calls : Part → List Call
  part_calls AllOf = []
  part_calls (BytesOf first last) = bound_calls first ++ bound_calls last

  pub item_calls : Items → List Call
  item_calls no_item = []
  item_calls (value e more) = calls_in e ++ item_calls more
  item_calls (loop body first last step more) =
      item_calls body ++ (calls_in first ++ (calls_in last ++ (bound_calls step ++ item_calls more)))

  pub argument_calls : Arguments → List Call
  argument_calls no_argument = []
  argument_calls (argument place e more) = calls_in e ++ argument_calls more

  pub subject_calls : Subject → List Call
  subject_calls (Name n) = []
  subject_calls (Of e) = calls_in e

  pub call_calls : Call → List Call
  call_calls (call p es) = call p es ∷ argument_calls es

-- ---- what statements do

-- the references of expressions on a line
abbrev pub on_line : ℕ → List ℕ → List Call → List Act
on_line line dos calls = map (reference line dos true) calls

abbrev pub option_calls : Option Expr → List Call
option_calls None = []
option_calls (Some e) = calls_in e

abbrev pub assign_acts : List ℕ → Assign → List Act
assign_acts dos a = on_line a.line dos (designator_calls a.target.designator) ++ on_line a.line dos (calls_in a.value)

abbrev mutual
  pub where_acts : List ℕ → Where → List Act
  where_acts dos (masked line mask body others) =
      on_line line dos (calls_in mask) ++ (masked_acts dos body ++ other_acts dos others)

  pub masked_acts : List ℕ → MaskedBody → List Act
  masked_acts dos no_masked = []
  masked_acts dos (assigning a more) = assign_acts dos a ++ masked_acts dos more
  masked_acts dos (narrowed w more) = where_acts dos w ++ masked_acts dos more

  pub other_acts : List ℕ → Others → List Act
  other_acts dos no_other = []
  other_acts dos (elsewhere line mask body more) =
      on_line line dos (option_calls mask) ++ (masked_acts dos body ++ other_acts dos more)

abbrev pub triplet_calls : Triplet → List Call
triplet_calls t = calls_in t.first ++ (calls_in t.last ++ bound_calls t.stride)

abbrev pub forall_acts : List ℕ → Forall → List Act
forall_acts dos f = on_line f.line dos (flat_map triplet_calls f.triplets)
    ++ (on_line f.line dos (option_calls f.mask) ++ flat_map (assign_acts dos) f.body)

abbrev pub span_calls : Span → List Call
span_calls s = bound_calls s.lower ++ calls_in s.upper

abbrev pub allocation_calls : Allocation → List Call
allocation_calls a = flat_map span_calls a.spans

abbrev pub target_calls : Target → List Call
target_calls t = designator_calls t.designator

-- the body of a DO has its variable among those of the DOs around
abbrev mutual
  pub stmt_acts : List ℕ → Stmt → List Act
  stmt_acts dos (Assigns a) = assign_acts dos a
  stmt_acts dos (Masks w) = where_acts dos w
  stmt_acts dos (ForAll f) = forall_acts dos f
  stmt_acts dos (Calls line (call p es)) = reference line dos false (call p es) ∷ on_line line dos (argument_calls es)
  stmt_acts dos (Allocate line objects) = on_line line dos (flat_map allocation_calls objects)
  stmt_acts dos (Deallocate line names) = []
  stmt_acts dos (Print line es) = Transfers line ∷ on_line line dos (flat_map calls_in es)
  stmt_acts dos (Read line targets) = Transfers line ∷ on_line line dos (flat_map target_calls targets)
  stmt_acts dos (If branches otherwise) = branch_acts dos branches ++ stmts_acts dos otherwise
  stmt_acts dos (Select line e cases otherwise) =
      on_line line dos (calls_in e) ++ (case_acts dos cases ++ stmts_acts dos otherwise)
  stmt_acts dos (Do line n first last step body) =
      on_line line dos (calls_in first) ++ (on_line line dos (calls_in last) ++ (on_line line dos (bound_calls step)
      ++ stmts_acts (dos ++ n ∷ []) body))
  stmt_acts dos (While line e body) = on_line line dos (calls_in e) ++ stmts_acts dos body
  stmt_acts dos (Forever line body) = stmts_acts dos body
  stmt_acts dos (Exit line out) = []
  stmt_acts dos (Cycle line out) = []
  stmt_acts dos (Return line) = []
  stmt_acts dos (Stop line) = Transfers line ∷ []

  pub stmts_acts : List ℕ → Stmts → List Act
  stmts_acts dos no_stmt = []
  stmts_acts dos (stmt s more) = stmt_acts dos s ++ stmts_acts dos more

  pub branch_acts : List ℕ → Branches → List Act
  branch_acts dos no_branch = []
  branch_acts dos (branch line e body more) =
      on_line line dos (calls_in e) ++ (stmts_acts dos body ++ branch_acts dos more)

  pub case_acts : List ℕ → Cases → List Act
  case_acts dos no_case = []
  case_acts dos (case ranges body more) = stmts_acts dos body ++ case_acts dos more
