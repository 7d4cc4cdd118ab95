-- The units that are lowered so far: a main program alone, with scalar variables of its own. Its expressions are of whole scalars,
-- with all operators, TRIM, LEN of a name, and the elemental functions but ICHAR, LEN_TRIM and INDEX; its statements are those of
-- control, assignments and PRINT.
use Rattle.std.specs.Prelude.{Bool, true, false, not, ◌&&◌, Option, Some, None, is_some, List, [], ◌∷◌}
use Rattle.std.specs.List.{list_all}
use Rattle.f95_unit.specs.declared.operation.Elemental.{Elemental}
use Rattle.f95_unit.specs.declared.operation.Elemental.TheVariants as elemental
use Rattle.f95_unit.specs.declared.operation.Inquiry.TheVariants as inquiry
use Rattle.f95_unit.specs.Plain.{Expr, typed, Literal, Constant, Named, Brackets, Unary, Binary, Elementwise, Trim, Asked}
use Rattle.f95_unit.specs.Plain.{Designator}
use Rattle.f95_unit.specs.Plain.{at, Whole, AllOf, Bound, Absent, Given, Arguments, no_argument, argument, Name, Assign, Stmt}
use Rattle.f95_unit.specs.Plain.{Assigns}
use Rattle.f95_unit.specs.Plain.{Print, If, Select, Do, While, Forever, Exit, Cycle, Return, Stop, Stmts, no_stmt, stmt, Branches}
use Rattle.f95_unit.specs.Plain.{no_branch, branch, Cases, no_case, case, Entity, Procedure, Program}
use Rattle.control_lower.specs.Trees.{sort_of_entity}

-- ---- expressions

-- an integer that comes of a text's bytes
abbrev pub counts_bytes : Elemental → Bool
counts_bytes elemental.Ichar = true
counts_bytes elemental.LenTrim = true
counts_bytes elemental.Index = true
counts_bytes which = false

abbrev pub lowers_designator : Designator → Bool
lowers_designator (at n Whole AllOf) = true
lowers_designator other = false

abbrev mutual
  pub lowers : Expr → Bool
  lowers (typed f (Literal x)) = true
  lowers (typed f (Constant n)) = true
  lowers (typed f (Named d)) = lowers_designator d
  lowers (typed f (Brackets e)) = lowers e
  lowers (typed f (Unary op e)) = lowers e
  lowers (typed f (Binary op e g)) = lowers e && lowers g
  lowers (typed f (Elementwise which es)) = not (counts_bytes which) && lowers_all es
  lowers (typed f (Trim e)) = lowers e
  lowers (typed f (Asked inquiry.Len dim (Name n))) = true
  lowers other = false

  pub lowers_all : Arguments → Bool
  lowers_all no_argument = true
  lowers_all (argument place e es) = lowers e && lowers_all es

abbrev pub lowers_bound : Bound → Bool
lowers_bound Absent = true
lowers_bound (Given e) = lowers e

-- ---- statements

abbrev pub lowers_assign : Assign → Bool
lowers_assign a = lowers_designator a.target.designator && lowers a.value

abbrev mutual
  pub lowers_stmt : Stmt → Bool
  lowers_stmt (Assigns a) = lowers_assign a
  lowers_stmt (Print line es) = list_all lowers es
  lowers_stmt (If branches otherwise) = lowers_branches branches && lowers_stmts otherwise
  lowers_stmt (Select line e choices otherwise) = lowers e && (lowers_cases choices && lowers_stmts otherwise)
  lowers_stmt (Do line n first last step body) = lowers first && (lowers last && (lowers_bound step && lowers_stmts body))
  lowers_stmt (While line e body) = lowers e && lowers_stmts body
  lowers_stmt (Forever line body) = lowers_stmts body
  lowers_stmt (Exit line out) = true
  lowers_stmt (Cycle line out) = true
  lowers_stmt (Return line) = true
  lowers_stmt (Stop line) = true
  lowers_stmt other = false

  pub lowers_stmts : Stmts → Bool
  lowers_stmts no_stmt = true
  lowers_stmts (stmt s more) = lowers_stmt s && lowers_stmts more

  pub lowers_branches : Branches → Bool
  lowers_branches no_branch = true
  lowers_branches (branch line e body more) = lowers e && (lowers_stmts body && lowers_branches more)

  pub lowers_cases : Cases → Bool
  lowers_cases no_case = true
  lowers_cases (case ranges body more) = lowers_stmts body && lowers_cases more

-- ---- units

abbrev pub lowers_initial : Option Expr → Bool
lowers_initial None = true
lowers_initial (Some e) = lowers e

-- a scalar variable of the program's own
abbrev pub lowers_entity : Entity → Bool
lowers_entity e = is_some (sort_of_entity (Some e)) && lowers_initial e.initial

abbrev pub lowers_main : Procedure → Bool
lowers_main q = list_all lowers_entity q.entities && lowers_stmts q.body

abbrev pub is_alone : List Procedure → Bool
is_alone [] = true
is_alone (q ∷ more) = false

abbrev pub lowers_unit : Program → Bool
lowers_unit unit = is_alone unit.procedures && lowers_main unit.main
