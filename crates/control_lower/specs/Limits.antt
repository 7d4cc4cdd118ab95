-- The size of a unit, as far as it is lowered: how many blocks stand inside one another, and how many nodes it has. What is not
-- lowered counts as one node.
use Rattle.std.specs.Prelude.{ℕ, suc, ◌+◌, ◌^◌, ◌≤◌, max, Option, Some, None, List, [], ◌∷◌, length}
use Rattle.f95_unit.specs.Plain.{Expr, typed, Brackets, Unary, Binary, Elementwise, Trim, Bound, Absent, Given, Arguments}
use Rattle.f95_unit.specs.Plain.{no_argument}
use Rattle.f95_unit.specs.Plain.{argument, Stmt, Assigns, Print, If, Select, Do, While, Forever, Stmts, no_stmt, stmt, Branches}
use Rattle.f95_unit.specs.Plain.{no_branch, branch, Cases, no_case, case, Entity, Procedure, Program}

-- ---- nodes: expressions, ranges of a CASE, branches, statements and declarations

abbrev mutual
  pub expr_nodes : Expr → ℕ
  expr_nodes (typed f (Brackets e)) = suc (expr_nodes e)
  expr_nodes (typed f (Unary op e)) = suc (expr_nodes e)
  expr_nodes (typed f (Binary op e g)) = suc (expr_nodes e + expr_nodes g)
  expr_nodes (typed f (Elementwise which es)) = suc (arguments_nodes es)
  expr_nodes (typed f (Trim e)) = suc (expr_nodes e)
  expr_nodes other = 1

  pub arguments_nodes : Arguments → ℕ
  arguments_nodes no_argument = 0
  arguments_nodes (argument place e es) = expr_nodes e + arguments_nodes es

abbrev pub bound_nodes : Bound → ℕ
bound_nodes Absent = 0
bound_nodes (Given e) = expr_nodes e

abbrev pub exprs_nodes : List Expr → ℕ
exprs_nodes [] = 0
exprs_nodes (e ∷ es) = expr_nodes e + exprs_nodes es

abbrev mutual
  pub stmt_nodes : Stmt → ℕ
  stmt_nodes (Assigns a) = suc (expr_nodes a.value)
  stmt_nodes (Print line es) = suc (exprs_nodes es)
  stmt_nodes (If branches otherwise) = suc (branches_nodes branches + stmts_nodes otherwise)
  stmt_nodes (Select line e choices otherwise) = suc (expr_nodes e + (cases_nodes choices + stmts_nodes otherwise))
  stmt_nodes (Do line n first last step body) =
      suc (expr_nodes first + (expr_nodes last + (bound_nodes step + stmts_nodes body)))
  stmt_nodes (While line e body) = suc (expr_nodes e + stmts_nodes body)
  stmt_nodes (Forever line body) = suc (stmts_nodes body)
  stmt_nodes other = 1

  pub stmts_nodes : Stmts → ℕ
  stmts_nodes no_stmt = 0
  stmts_nodes (stmt s more) = stmt_nodes s + stmts_nodes more

  pub branches_nodes : Branches → ℕ
  branches_nodes no_branch = 0
  branches_nodes (branch line e body more) = suc (expr_nodes e + (stmts_nodes body + branches_nodes more))

  pub cases_nodes : Cases → ℕ
  cases_nodes no_case = 0
  cases_nodes (case ranges body more) = suc (length ranges + (stmts_nodes body + cases_nodes more))

abbrev pub initial_nodes : Option Expr → ℕ
initial_nodes None = 0
initial_nodes (Some e) = expr_nodes e

abbrev pub entities_nodes : List Entity → ℕ
entities_nodes [] = 0
entities_nodes (e ∷ es) = suc (initial_nodes e.initial + entities_nodes es)

abbrev pub main_nodes : Procedure → ℕ
main_nodes q = entities_nodes q.entities + stmts_nodes q.body

-- ---- blocks inside one another, at most

abbrev mutual
  pub blocks_in : Stmt → ℕ
  blocks_in (If branches otherwise) = suc (max (branches_blocks branches) (stmts_blocks otherwise))
  blocks_in (Select line e choices otherwise) = suc (max (cases_blocks choices) (stmts_blocks otherwise))
  blocks_in (Do line n first last step body) = suc (stmts_blocks body)
  blocks_in (While line e body) = suc (stmts_blocks body)
  blocks_in (Forever line body) = suc (stmts_blocks body)
  blocks_in other = 0

  pub stmts_blocks : Stmts → ℕ
  stmts_blocks no_stmt = 0
  stmts_blocks (stmt s more) = max (blocks_in s) (stmts_blocks more)

  pub branches_blocks : Branches → ℕ
  branches_blocks no_branch = 0
  branches_blocks (branch line e body more) = max (stmts_blocks body) (branches_blocks more)

  pub cases_blocks : Cases → ℕ
  cases_blocks no_case = 0
  cases_blocks (case ranges body more) = max (stmts_blocks body) (cases_blocks more)

-- ---- the limits of a source, as far as they are needed

pub record IsWithinLimits (unit : Program) : Type 0 where
  pub few_blocks : stmts_blocks unit.main.body ≤ 64
  pub few_nodes : main_nodes unit.main ≤ 2 ^ 20
