-- The nest unit of a typed unit: declarations, initial values, and statements on scalars. The value of a SELECT, the bounds of a DO
-- and whether a branch was taken are held by scalars of the lowering.
use Rattle.std.specs.Prelude.{ℕ, suc, pos, true, false, Option, Some, None, List, [], ◌∷◌, ◌++◌, map, length}
use Rattle.a95_base.specs.declared.fault.FaultKind.TheVariants as fault
use Rattle.a95_base.specs.declared.scalar.Scalar.TheVariants as scalar
use Rattle.f95_unit.specs.declared.operation.BinaryOp.TheVariants as binary
use Rattle.f95_unit.specs.declared.operation.UnaryOp.TheVariants as unary
use Rattle.f95_unit.specs.declared.stmt.Range.{Range}
use Rattle.f95_unit.specs.declared.stmt.Range.TheVariants as range
use Rattle.f95_unit.specs.declared.unit.DeclaredType.{DeclaredType}
use Rattle.f95_unit.specs.declared.unit.DeclaredType.TheVariants as declared
use Rattle.f95_unit.specs.declared.unit.Length.TheVariants as long
use Rattle.f95_unit.specs.Plain.{Expr, Designator, at, Whole, AllOf, Bound, Absent, Given, Stmt, Assigns, Print, If, Select, Do}
use Rattle.f95_unit.specs.Plain.{While, Forever, Exit, Cycle, Return, Stop, Stmts, no_stmt, stmt, Branches, no_branch, branch}
use Rattle.f95_unit.specs.Plain.{Cases, no_case, case, Entity, Procedure, Program}
use Rattle.nest_tree.specs.declared.access.Amount.TheVariants as amounts
use Rattle.nest_tree.specs.declared.access.Name.TheVariants as name
use Rattle.nest_tree.specs.declared.statement.Made.TheVariants as made
use Rattle.nest_tree.specs.declared.tree.Blank.{Blank}
use Rattle.nest_tree.specs.declared.tree.Blank.TheVariants as blank
use Rattle.nest_tree.specs.declared.tree.Exact.TheVariants as exact
use Rattle.nest_tree.specs.declared.unit.Declared.{Declared}
use Rattle.nest_tree.specs.declared.unit.Role.TheVariants as role
use Rattle.nest_tree.specs.declared.unit.Sort.{Sort}
use Rattle.nest_tree.specs.declared.unit.Sort.TheVariants as sort
use Rattle.nest_tree.specs.Plain as nest
use Rattle.nest_tree.specs.Plain.{Tree, Literal, Number, Constant, Fixed, Unary, Binary, Exactly, Wrapped, Set, Test, Store, Make}
use Rattle.nest_tree.specs.Plain.{Put, Write, Statement, Statements, no_statement, statement, joined, NestUnit}
use Rattle.control_lower.specs.Trees.{sort_of_expr, Lowered, one, held, whole, lowered}

-- ---- lists of statements, with the scalars that are taken behind

pub record LoweredList : Type 0 where
  pub list : Statements
  pub scalars : List Sort

abbrev pub listed : Statements → List Sort → LoweredList
listed list scalars = record { list = list; scalars = scalars }

abbrev pub in_front : Statements → LoweredList → LoweredList
in_front parts l = listed (joined parts l.list) l.scalars

abbrev pub both_lists : LoweredList → LoweredList → LoweredList
both_lists first second = listed (joined first.list second.list) second.scalars

abbrev pub list_then : LoweredList → (List Sort → LoweredList) → LoweredList
list_then first next = both_lists first (next first.scalars)

abbrev pub only : Statement → Statements
only s = statement s no_statement

-- ---- stores, and records

abbrev pub store : ℕ → ℕ → Tree → Statement
store line n value = Store (record { line = line; target = whole n; guard = None; value = value })

abbrev pub stored : ℕ → Designator → Lowered → LoweredList
stored line (at n access part) l = listed (joined l.parts (only (store line n l.tree))) l.scalars

abbrev pub put : ℕ → Lowered → LoweredList → LoweredList
put line l rest = listed (joined l.parts (statement (Put line l.tree) rest.list)) rest.scalars

abbrev pub put_then : ℕ → Lowered → (List Sort → LoweredList) → LoweredList
put_then line l next = put line l (next l.scalars)

unfoldable pub items : ℕ → List Sort → List Expr → LoweredList
items line taken [] = listed (only Write) taken
items line taken (e ∷ more) = put_then line (lowered line taken e) (λ later. items line later more)

-- ---- branches

abbrev pub if_else : ℕ → Lowered → LoweredList → (List Sort → LoweredList) → LoweredList
if_else line test inner other =
    listed (joined test.parts (only (nest.If line test.tree inner.list (other inner.scalars).list))) (other inner.scalars).scalars

-- a scalar that tells whether a branch was taken: none was so far; one is now; only where none was
abbrev pub with_flag : ℕ → List Sort → (List Sort → LoweredList) → LoweredList
with_flag line taken next =
    in_front (only (Set line (length taken) (Literal (scalar.Log false)))) (next (taken ++ sort.Log ∷ []))

abbrev pub not_taken : ℕ → Tree
not_taken flag = Unary unary.Not (Fixed flag)

abbrev pub taking : ℕ → ℕ → LoweredList → Statements
taking line flag l = statement (Set line flag (Literal (scalar.Log true))) l.list

abbrev pub unless_taken : ℕ → ℕ → LoweredList → LoweredList
unless_taken line flag l = listed (only (nest.If line (not_taken flag) l.list no_statement)) l.scalars

abbrev pub if_taking : ℕ → ℕ → Lowered → LoweredList → LoweredList
if_taking line flag test inner =
    listed (joined test.parts (only (nest.If line test.tree (taking line flag inner) no_statement))) inner.scalars

abbrev pub case_taking : ℕ → ℕ → Tree → LoweredList → LoweredList
case_taking line flag test inner =
    listed (only (nest.If line (Binary binary.And (not_taken flag) test) (taking line flag inner) no_statement)) inner.scalars

-- ---- CASE

abbrev pub with_selector : ℕ → Lowered → (Tree → ℕ → List Sort → LoweredList) → LoweredList
with_selector line x next = in_front x.parts (with_flag line x.scalars (next x.tree (length x.scalars)))

abbrev pub same_tree : Sort → Tree → Tree → Tree
same_tree sort.Log x y = Binary binary.Equivalent x y
same_tree s x y = Binary binary.Equal x y

abbrev pub in_range : Sort → Tree → Range → Tree
in_range s x (range.One n) = same_tree s x (Constant n)
in_range s x (range.From n) = Binary binary.GreaterEqual x (Constant n)
in_range s x (range.UpTo n) = Binary binary.LessEqual x (Constant n)
in_range s x (range.Between n m) =
    Binary binary.And (Binary binary.GreaterEqual x (Constant n)) (Binary binary.LessEqual x (Constant m))

abbrev pub in_ranges : Sort → Tree → List Range → Tree
in_ranges s x [] = Literal (scalar.Log false)
in_ranges s x (r ∷ more) = Binary binary.Or (in_range s x r) (in_ranges s x more)

-- ---- DO

abbrev pub nonzero : Tree → Tree
nonzero t = Unary unary.Not (Exactly exact.Same t (Number (pos 0)))

abbrev pub tested_step : ℕ → Lowered → Lowered
tested_step line l = one (joined l.parts (only (Test line fault.ZeroStep (nonzero l.tree)))) l.tree l.scalars

abbrev pub step_of : ℕ → List Sort → Bound → Lowered
step_of line taken Absent = one no_statement (Number (pos 1)) taken
step_of line taken (Given e) = tested_step line (held line sort.Int (lowered line taken e))

-- MAX(INT((last - first + step) / step), 0), in exact integers
abbrev pub count_tree : Tree → Tree → Tree → Tree
count_tree first last step =
    Exactly exact.Most (Exactly exact.Over (Exactly exact.Plus (Exactly exact.Minus last first) step) step) (Number (pos 0))

-- the variable takes its value before each test; a turn that begins leaves one less, and the next value
abbrev pub counting : ℕ → ℕ → ℕ → ℕ → Tree → Statements → Statement
counting line n value count step body =
    nest.While line (only (store line n (Wrapped (Fixed value)))) (Exactly exact.Below (Number (pos 0)) (Fixed count))
    (statement (Set line count (Exactly exact.Minus (Fixed count) (Number (pos 1))))
    (statement (Set line value (Exactly exact.Plus (Fixed value) step)) body))

abbrev pub counted : ℕ → ℕ → ℕ → Tree → Tree → Lowered → LoweredList → LoweredList
counted line n value first last step body =
    listed (joined step.parts
    (statement (Set line (length step.scalars) (count_tree first last step.tree))
    (only (counting line n value (length step.scalars) step.tree body.list)))) body.scalars

abbrev pub step_then : ℕ → ℕ → ℕ → Tree → Tree → Lowered → (List Sort → LoweredList) → LoweredList
step_then line n value first last step body = counted line n value first last step (body (step.scalars ++ sort.Exact ∷ []))

abbrev pub last_then : ℕ → ℕ → ℕ → Tree → Lowered → (List Sort → Lowered) → (List Sort → LoweredList) → LoweredList
last_then line n value first last step body = in_front last.parts (step_then line n value first last.tree (step last.scalars) body)

-- the first value is held by the scalar that takes all later ones
abbrev pub first_then : ℕ → ℕ → Lowered → (List Sort → Lowered) → (List Sort → Lowered) → (List Sort → LoweredList) → LoweredList
first_then line n first last step body = in_front (held line sort.Exact first).parts
    (last_then line n (length first.scalars) (Fixed (length first.scalars)) (last (first.scalars ++ sort.Exact ∷ [])) step body)

-- ---- statements

abbrev pub on_test : Lowered → (List Sort → LoweredList) → (Lowered → LoweredList → LoweredList) → LoweredList
on_test test inner f = f test (inner test.scalars)

abbrev pub while_list : ℕ → Lowered → LoweredList → LoweredList
while_list line test body = listed (only (nest.While line test.parts test.tree body.list)) body.scalars

abbrev mutual
  pub lowered_stmt : List Sort → Stmt → LoweredList
  lowered_stmt taken (Assigns a) = stored a.line a.target.designator (lowered a.line taken a.value)
  lowered_stmt taken (Print line es) = items line taken es
  lowered_stmt taken (If no_branch otherwise) = lowered_all taken otherwise
  lowered_stmt taken (If (branch line e body no_branch) otherwise) =
      on_test (lowered line taken e) (λ more. lowered_all more body)
      (λ test inner. if_else line test inner (λ more. lowered_all more otherwise))
  lowered_stmt taken (If (branch line e body (branch line' e' body' rest)) otherwise) =
      with_flag line taken (λ more. branches line (length taken) more (branch line e body (branch line' e' body' rest))
      (λ later. lowered_all later otherwise))
  lowered_stmt taken (Select line e choices otherwise) =
      with_selector line (held line (sort_of_expr e) (lowered line taken e))
      (λ x flag more. cases line (sort_of_expr e) x flag more choices (λ later. lowered_all later otherwise))
  lowered_stmt taken (Do line n first last step body) =
      first_then line n (lowered line taken first) (λ more. held line sort.Int (lowered line more last))
      (λ more. step_of line more step) (λ more. lowered_all more body)
  lowered_stmt taken (While line e body) = on_test (lowered line taken e) (λ more. lowered_all more body) (while_list line)
  lowered_stmt taken (Forever line body) = while_list line (one no_statement (Literal (scalar.Log true)) taken)
      (lowered_all taken body)
  lowered_stmt taken (Exit line out) = listed (only (nest.Exit out)) taken
  lowered_stmt taken (Cycle line out) = listed (only (nest.Cycle out)) taken
  lowered_stmt taken (Return line) = listed (only nest.Return) taken
  lowered_stmt taken (Stop line) = listed (only nest.Stop) taken
  lowered_stmt taken other = listed no_statement taken

  pub lowered_all : List Sort → Stmts → LoweredList
  lowered_all taken no_stmt = listed no_statement taken
  lowered_all taken (stmt s more) = list_then (lowered_stmt taken s) (λ later. lowered_all later more)

  -- IF and each ELSE IF, none of which was taken before; then ELSE
  pub branches : ℕ → ℕ → List Sort → Branches → (List Sort → LoweredList) → LoweredList
  branches line flag taken no_branch otherwise = unless_taken line flag (otherwise taken)
  branches around flag taken (branch line e body rest) otherwise =
      list_then (unless_taken line flag (on_test (lowered line taken e) (λ more. lowered_all more body) (if_taking line flag)))
      (λ later. branches around flag later rest otherwise)

  pub cases : ℕ → Sort → Tree → ℕ → List Sort → Cases → (List Sort → LoweredList) → LoweredList
  cases line s x flag taken no_case otherwise = unless_taken line flag (otherwise taken)
  cases line s x flag taken (case ranges body rest) otherwise =
      list_then (case_taking line flag (in_ranges s x ranges) (lowered_all taken body))
      (λ later. cases line s x flag later rest otherwise)

-- ---- declarations

abbrev pub blank_for : DeclaredType → Blank
blank_for declared.Integer = blank.Int
blank_for declared.Logical = blank.Log
blank_for (declared.Character (long.Fixed n)) = blank.Text (amounts.Number (pos n))
blank_for (declared.Character long.Assumed) = blank.Text (amounts.Number (pos 0))

abbrev pub make : ℕ → Entity → Statement
make n e = Make e.line (record { made = made.New; name = name.Own n; blank = blank_for e.of; bounds = [] })

-- each variable, by its number
unfoldable pub makes : ℕ → List Entity → Statements
makes n [] = no_statement
makes n (e ∷ more) = statement (make n e) (makes (suc n) more)

abbrev pub initial : ℕ → ℕ → Option Expr → List Sort → LoweredList
initial line n None taken = listed no_statement taken
initial line n (Some e) taken = stored line (at n Whole AllOf) (lowered line taken e)

unfoldable pub initials : ℕ → List Sort → List Entity → LoweredList
initials n taken [] = listed no_statement taken
initials n taken (e ∷ more) = list_then (initial e.line n e.initial taken) (λ later. initials (suc n) later more)

-- ---- the unit

abbrev pub declared_of : Entity → Declared
declared_of e = record { of = e.of; rank = 0; role = role.Own }

abbrev pub main_list : Procedure → LoweredList
main_list q = in_front (makes 0 q.entities) (list_then (initials 0 [] q.entities) (λ later. lowered_all later q.body))

abbrev pub procedure_with : Procedure → LoweredList → nest.Procedure
procedure_with q l = record {
  line = q.line;
  variables = map declared_of q.entities;
  scalars = l.scalars;
  blocks = [];
  lists = 0;
  body = l.list;
}

abbrev pub lowered_unit : Program → NestUnit
lowered_unit unit = record {
  constants = unit.constants;
  main = procedure_with unit.main (main_list unit.main);
  procedures = [];
}
