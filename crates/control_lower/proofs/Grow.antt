-- Each statement takes more scalars than the one before.
use Rattle.std.proofs.Common.{ℕ, ◌≤◌, arith, List, [], ◌∷◌, ◌++◌}
use Rattle.std.specs.Prelude.{length}
use Rattle.f95_unit.specs.Plain.{Expr, Designator, at, Bound, Absent, Given, Stmt, Assigns, Masks, ForAll, Calls, Allocate}
use Rattle.f95_unit.specs.Plain.{Deallocate, Print, Read, If, Select, Do, While, Forever, Exit, Cycle, Return, Stop, Stmts, no_stmt}
use Rattle.f95_unit.specs.Plain.{stmt, Branches, no_branch, branch, Cases, no_case, case}
use Rattle.nest_tree.specs.declared.unit.Sort.{Sort}
use Rattle.nest_tree.specs.declared.unit.Sort.TheVariants as sort
use Rattle.nest_tree.specs.Plain as nest
use Rattle.nest_tree.specs.Plain.{Tree}
use Rattle.control_lower.specs.Trees.{sort_of_expr, lowered}
use Rattle.control_lower.specs.Units.{LoweredList, items, stored, step_of, lowered_stmt, lowered_all, branches, cases}
use Rattle.control_lower.proofs.Parts.{taken_grow, taken_more}

items_grow : (line : ℕ) (es : List Expr) (taken : List Sort) → length taken ≤ length (items line taken es).scalars
unfolding items
items_grow line [] taken = omega arith
items_grow line (e ∷ more) taken = omega (arith, taken_grow line e taken, items_grow line more (lowered line taken e).scalars)

pub step_grow : (line : ℕ) (b : Bound) (taken : List Sort) → length taken ≤ length (step_of line taken b).scalars
step_grow line Absent taken = omega arith
step_grow line (Given e) taken = omega (arith, taken_grow line e taken, taken_more (lowered line taken e).scalars sort.Int)

stored_grow : (line : ℕ) (d : Designator) (e : Expr) (taken : List Sort)
    → length taken ≤ length (stored line d (lowered line taken e)).scalars
stored_grow line (at j access part) e taken = taken_grow line e taken

mutual
  pub stmt_grow : (s : Stmt) (taken : List Sort) → length taken ≤ length (lowered_stmt taken s).scalars
  stmt_grow (Assigns a) taken = stored_grow a.line a.target.designator a.value taken
  stmt_grow (Masks w) taken = omega arith
  stmt_grow (ForAll f) taken = omega arith
  stmt_grow (Calls line c) taken = omega arith
  stmt_grow (Allocate line objects) taken = omega arith
  stmt_grow (Deallocate line names) taken = omega arith
  stmt_grow (Print line es) taken = items_grow line es taken
  stmt_grow (Read line targets) taken = omega arith
  stmt_grow (If no_branch otherwise) taken = all_grow otherwise taken
  stmt_grow (If (branch line e body no_branch) otherwise) taken =
      omega (
        arith,
        taken_grow line e taken,
        all_grow body (lowered line taken e).scalars,
        all_grow otherwise (lowered_all (lowered line taken e).scalars body).scalars,
      )
  stmt_grow (If (branch line e body (branch line' e' body' rest)) otherwise) taken =
      omega (
        arith,
        taken_more taken sort.Log,
        branches_grow line (length taken) (branch line e body (branch line' e' body' rest))
            (λ later. lowered_all later otherwise) (λ later. all_grow otherwise later) (taken ++ sort.Log ∷ []),
      )
  stmt_grow (Select line e choices otherwise) taken =
      omega (
        arith,
        taken_grow line e taken,
        taken_more (lowered line taken e).scalars (sort_of_expr e),
        taken_more ((lowered line taken e).scalars ++ sort_of_expr e ∷ []) sort.Log,
        cases_grow line (sort_of_expr e) (nest.Fixed (length (lowered line taken e).scalars))
            (length ((lowered line taken e).scalars ++ sort_of_expr e ∷ []))
            choices (λ later. lowered_all later otherwise) (λ later. all_grow otherwise later)
            (((lowered line taken e).scalars ++ sort_of_expr e ∷ []) ++ sort.Log ∷ []),
      )
  stmt_grow (Do line n first last step body) taken =
      omega (
        arith,
        taken_grow line first taken,
        taken_more (lowered line taken first).scalars sort.Exact,
        taken_grow line last ((lowered line taken first).scalars ++ sort.Exact ∷ []),
        taken_more (lowered line ((lowered line taken first).scalars ++ sort.Exact ∷ []) last).scalars sort.Int,
        step_grow line step ((lowered line ((lowered line taken first).scalars ++ sort.Exact ∷ []) last).scalars ++ sort.Int ∷ []),
        taken_more (step_of line ((lowered line ((lowered line taken first).scalars ++ sort.Exact ∷ []) last).scalars ++ sort.Int ∷
            []) step).scalars sort.Exact,
        all_grow body ((step_of line ((lowered line ((lowered line taken first).scalars ++ sort.Exact ∷ []) last).scalars ++
            sort.Int ∷ []) step).scalars ++ sort.Exact ∷ []),
      )
  stmt_grow (While line e body) taken = omega (arith, taken_grow line e taken, all_grow body (lowered line taken e).scalars)
  stmt_grow (Forever line body) taken = all_grow body taken
  stmt_grow (Exit line out) taken = omega arith
  stmt_grow (Cycle line out) taken = omega arith
  stmt_grow (Return line) taken = omega arith
  stmt_grow (Stop line) taken = omega arith

  pub all_grow : (ss : Stmts) (taken : List Sort) → length taken ≤ length (lowered_all taken ss).scalars
  all_grow no_stmt taken = omega arith
  all_grow (stmt s more) taken = omega (arith, stmt_grow s taken, all_grow more (lowered_stmt taken s).scalars)

  pub branches_grow : (around flag : ℕ) (bs : Branches) (otherwise : List Sort → LoweredList)
      → ((later : List Sort) → length later ≤ length (otherwise later).scalars)
      → (taken : List Sort) → length taken ≤ length (branches around flag taken bs otherwise).scalars
  branches_grow around flag no_branch otherwise h taken = h taken
  branches_grow around flag (branch line e body rest) otherwise h taken =
      omega (
        arith,
        taken_grow line e taken,
        all_grow body (lowered line taken e).scalars,
        branches_grow around flag rest otherwise h (lowered_all (lowered line taken e).scalars body).scalars,
      )

  pub cases_grow : (line : ℕ) (s : Sort) (x : Tree) (flag : ℕ) (cs : Cases) (otherwise : List Sort → LoweredList)
      → ((later : List Sort) → length later ≤ length (otherwise later).scalars)
      → (taken : List Sort) → length taken ≤ length (cases line s x flag taken cs otherwise).scalars
  cases_grow line s x flag no_case otherwise h taken = h taken
  cases_grow line s x flag (case ranges body rest) otherwise h taken =
      omega (arith, all_grow body taken, cases_grow line s x flag rest otherwise h (lowered_all taken body).scalars)
