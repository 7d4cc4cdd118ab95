-- Blocks of statements: IF, SELECT CASE, DO, and lists of statements. Numbers of CASE values are handed on in the order of the
-- text.
use Rattle.std.specs.Prelude.{ℕ, ◌+◌, List, [], ◌∷◌, ◌++◌, Option, Some, None, option_map}
use Rattle.a95_base.specs.declared.scalar.Kind.{Kind}
use Rattle.f95_tree.specs.Forms.{Word}
use Rattle.names_types.specs.Plain as source
use Rattle.f95_unit.specs.Plain.{Expr, Bound, Stmt, If, Select, Do, While, Forever, Stmts, no_stmt, Branches, no_branch, branch}
use Rattle.f95_unit.specs.Plain.{Cases, no_case, case}
use Rattle.shape_check.specs.Statements as statement
use Rattle.well_typed.specs.Known.{facts_of}
use Rattle.well_typed.specs.Questions.{Counts}
use Rattle.shape_check.specs.Found.{Found, both, and_asking}
use Rattle.shape_check.specs.Names.{Names, Sense, inside_do, sense_of, number_in, variable_of}
use Rattle.shape_check.specs.Expressions.{expr_of, bound_of, bounded_by}
use Rattle.shape_check.specs.Told.{Told, told, mapped_told, both_told, told_at, maybe_stmt}
use Rattle.shape_check.specs.Assignments.{storing, where_of, forall_of}
use Rattle.shape_check.specs.Executable.{one, append, where_stmt, forall_stmt, variable_number, action_of, condition_of}
use Rattle.shape_check.specs.Executable.{selector_of, ranges_of, range_counts, ranges_told}
use Rattle.well_typed.specs.declared.asked.Range.{Range}

-- ---- how many values the CASEs of statements have

abbrev mutual
  pub values_in : statement.Stmts → ℕ
  values_in statement.no_stmt = 0
  values_in (statement.stmt s more) = values_in_one s + values_in more

  pub values_in_one : statement.Stmt → ℕ
  values_in_one (statement.Act line a) = 0
  values_in_one (statement.IfOne line e a) = 0
  values_in_one (statement.If branches otherwise) = values_in_branches branches + values_in otherwise
  values_in_one (statement.Select line e cases) = values_in_cases cases
  values_in_one (statement.Do line name control body) = values_in body
  values_in_one (statement.Where b) = 0
  values_in_one (statement.Forall line h body) = 0

  pub values_in_branches : statement.Branches → ℕ
  values_in_branches statement.no_branch = 0
  values_in_branches (statement.branch line e body more) = values_in body + values_in_branches more

  pub values_in_cases : statement.Cases → ℕ
  values_in_cases statement.no_case = 0
  values_in_cases (statement.case line None body more) = values_in body + values_in_cases more
  values_in_cases (statement.case line (Some ranges) body more) = range_counts ranges + values_in body + values_in_cases more

-- ---- parts of blocks

abbrev pub kind_of_selector : Option Expr → Option Kind
kind_of_selector None = None
kind_of_selector (Some e) = Some (facts_of e).kind

abbrev pub selector_kind : Names → source.Expr → Option Kind
selector_kind c e = kind_of_selector (selector_of c e).made

-- the cases, and the statements of CASE DEFAULT
abbrev pub Chosen : Type 0
Chosen = Cases × Stmts

abbrev pub no_chosen : Chosen
no_chosen = (no_case, no_stmt)

-- a DO stores into its variable
abbrev pub Limits : Type 0
Limits = Expr × (Expr × Bound)

abbrev pub limits_of : Names → source.Expr → source.Expr → source.Bound → Found Limits
limits_of c first last step = both (bounded_by (expr_of c first)) (both (bounded_by (expr_of c last)) (bound_of c step))

abbrev pub counted_by : Names → Sense → Found Limits → Found Limits
counted_by c s m = and_asking (Counts (variable_of c s)) (and_asking (storing c s) m)

-- ---- what is made of parts: a block whose head has no type is left out

abbrev pub if_one : ℕ → Stmts → Option Expr → Option Stmt
if_one line body e = option_map (λ x. If (branch line x body no_branch) no_stmt) e

abbrev pub select_one : ℕ → Chosen → Option Expr → Option Stmt
select_one line chosen e = option_map (λ x. Select line x chosen.0 chosen.1) e

abbrev pub while_one : ℕ → Stmts → Option Expr → Option Stmt
while_one line body e = option_map (λ x. While line x body) e

abbrev pub do_one : ℕ → ℕ → Stmts → Option Limits → Option Stmt
do_one line n body l = option_map (λ x. Do line n x.0 x.1.0 x.1.1 body) l

abbrev pub with_branch : ℕ → Option Expr → Stmts → Branches → Branches
with_branch line None body more = more
with_branch line (Some e) body more = branch line e body more

-- ---- statements

abbrev mutual
  pub stmts_of : Names → List (Option Word) → (next : ℕ) → statement.Stmts → Told Stmts
  stmts_of c loops next statement.no_stmt = told no_stmt
  stmts_of c loops next (statement.stmt s more) = mapped_told (λ p. append p.0 p.1)
      (both_told (stmt_of c loops next s) (stmts_of c loops (next + values_in_one s) more))

  pub stmt_of : Names → List (Option Word) → ℕ → statement.Stmt → Told Stmts
  stmt_of c loops next (statement.Act line a) = action_of c loops line a
  stmt_of c loops next (statement.IfOne line e a) = mapped_told (λ p. maybe_stmt (if_one line p.1 p.0))
      (both_told (condition_of c line e) (action_of c loops line a))
  stmt_of c loops next (statement.If branches otherwise) = mapped_told (λ p. one (If p.0 p.1))
      (both_told (branches_of c loops next branches) (stmts_of c loops (next + values_in_branches branches) otherwise))
  stmt_of c loops next (statement.Select line e cases) = mapped_told (λ p. maybe_stmt (select_one line p.1 p.0))
      (both_told (told_at line (selector_of c e)) (cases_of c loops (selector_kind c e) [] next cases))
  stmt_of c loops next (statement.Do line name statement.Forever body) =
      mapped_told (λ b. one (Forever line b)) (stmts_of c (name ∷ loops) next body)
  stmt_of c loops next (statement.Do line name (statement.While e) body) = mapped_told (λ p. maybe_stmt (while_one line p.1 p.0))
      (both_told (condition_of c line e) (stmts_of c (name ∷ loops) next body))
  stmt_of c loops next (statement.Do line name (statement.Counted variable first last step) body) =
      mapped_told (λ p. maybe_stmt (do_one line (variable_number c variable) p.1 p.0))
      (both_told (told_at line (counted_by c (sense_of c variable) (limits_of c first last step)))
      (stmts_of (inside_do (number_in (sense_of c variable)) c) (name ∷ loops) next body))
  stmt_of c loops next (statement.Where b) = mapped_told where_stmt (where_of c None b)
  stmt_of c loops next (statement.Forall line h body) = mapped_told forall_stmt (forall_of c line h body)

  pub branches_of : Names → List (Option Word) → ℕ → statement.Branches → Told Branches
  branches_of c loops next statement.no_branch = told no_branch
  branches_of c loops next (statement.branch line e body more) = mapped_told (λ p. with_branch line p.0 p.1.0 p.1.1)
      (both_told (condition_of c line e)
      (both_told (stmts_of c loops next body) (branches_of c loops (next + values_in body) more)))

  pub cases_of : Names → List (Option Word) → Option Kind → List Range → ℕ → statement.Cases → Told Chosen
  cases_of c loops k earlier next statement.no_case = told no_chosen
  cases_of c loops k earlier next (statement.case line None body more) = mapped_told (λ p. (p.1.0, p.0))
      (both_told (stmts_of c loops next body) (cases_of c loops k earlier (next + values_in body) more))
  cases_of c loops k earlier next (statement.case line (Some ranges) body more) =
      mapped_told (λ p. (case p.0 p.1.0 p.1.1.0, p.1.1.1))
      (both_told (ranges_told line earlier (ranges_of c k next ranges))
      (both_told (stmts_of c loops (next + range_counts ranges) body)
      (cases_of c loops k (earlier ++ (ranges_of c k next ranges).known) (next + (range_counts ranges + values_in body)) more)))
