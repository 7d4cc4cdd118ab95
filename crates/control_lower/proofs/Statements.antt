-- All statements.
use Rattle.std.proofs.Common.{◌≡◌, refl, ℕ, suc, ◌<◌, ◌≤◌, arith, true, false, List, [], ◌∷◌, ◌++◌}
use Rattle.std.specs.Prelude.{Ok, length}
use Rattle.a95_base.specs.Steps.{pure}
use Rattle.a95_base.specs.declared.scalar.Scalar.{Scalar}
use Rattle.a95_base.specs.declared.scalar.Scalar.TheVariants as scalar
use Rattle.f95_unit.specs.Plain.{Program, Entity, Stmt, Assigns, Masks, ForAll, Calls, Allocate, Deallocate, Print, Read, If}
use Rattle.f95_unit.specs.Plain.{Select, Do, While, Forever, Exit, Cycle, Return, Stop, Stmts, no_stmt, stmt, Branches, no_branch}
use Rattle.f95_unit.specs.Plain.{branch, Cases, no_case, case}
use Rattle.array_meaning.specs.State as source
use Rattle.array_meaning.specs.Trees as trees
use Rattle.array_meaning.specs.Expressions.{truth as source_truth}
use Rattle.array_meaning.specs.Control as control
use Rattle.array_meaning.specs.Control.{Flow, Next}
use Rattle.nest_tree.specs.declared.unit.Sort.{Sort}
use Rattle.nest_tree.specs.declared.unit.Sort.TheVariants as sort
use Rattle.nest_tree.specs.Plain.{Statements, no_statement, statement, Literal, Fixed, Set}
use Rattle.nest_tree.specs.State.{NestState, given}
use Rattle.nest_tree.specs.Statements.{Caller}
use Rattle.control_lower.specs.Trees.{sort_of_expr, lowered}
use Rattle.control_lower.specs.Units.{LoweredList, lowered_stmt, lowered_all, branches, cases}
use Rattle.control_lower.proofs.Agree.{run, run_next}
use Rattle.control_lower.proofs.Stands.{HasSort, kept_at, set_here, from_kept, value}
use Rattle.control_lower.proofs.Operators.{set_ok}
use Rattle.control_lower.proofs.Parts.{taken_grow, taken_more}
use Rattle.control_lower.proofs.Runs.{Runs, goes_from, flow_then, runs_none, runs_then, runs_exit, runs_cycle, runs_return}
use Rattle.control_lower.proofs.Runs.{runs_stop}
use Rattle.control_lower.proofs.Simple.{runs_assign, runs_if, runs_print}
use Rattle.control_lower.proofs.Loops.{tests_expr, tests_always, runs_while}
use Rattle.control_lower.proofs.Chains.{Flagged, flagged_end, flagged_branch}
use Rattle.control_lower.proofs.Choices.{Chosen, chosen_end, chosen_case, runs_select}
use Rattle.control_lower.proofs.Counted.{runs_do}
use Rattle.control_lower.proofs.Grow.{stmt_grow, all_grow}
use Rattle.control_lower.proofs.Premises.{AreBranches, AreCases, AreStmts, IsStmt}

module _ (unit : Program) (entities : List Entity) (calls : Caller) (scalls : trees.Caller) where
  false_value : (line : ℕ) (n : NestState) → value unit.constants calls scalls line [] (Literal (scalar.Log false)) n ≡ given line
      (Ok (scalar.Log false)) n
  unfolding pure given
  false_value line n = refl

  -- a flag, and a list that looks at it
  flag_set : (line k flag k' : ℕ) (list : Statements) (q : source.Step Flow) → k ≤ flag → k ≤ k'
      → Flagged unit entities calls scalls k flag list q
      → Runs unit entities calls k (statement (Set line flag (Literal (scalar.Log false))) list) q
  flag_set line k flag k' list q up up' h = record {
    runs = λ n holds pending. rw (run_next unit.constants calls (Set line flag (Literal (scalar.Log false))) list n
        (kept_at n flag (scalar.Log false))
        (set_ok unit.constants calls scalls line flag (Literal (scalar.Log false)) (scalar.Log false) n (false_value line n)))
        (flow_then unit entities calls k k n (kept_at n flag (scalar.Log false))
        (run unit.constants calls list (kept_at n flag (scalar.Log false)))
        (q n.cells.plain) (omega arith) (goes_from unit entities calls k n (kept_at n flag (scalar.Log false)) holds pending
        (from_kept k flag n (scalar.Log false) up))
        (h.runs (kept_at n flag (scalar.Log false)) holds pending (set_here n.cells.temps.setting.kept flag (scalar.Log false))));
  }

  abbrev StmtRuns : Stmt → List Sort → Type 0
  StmtRuns s taken = Runs unit entities calls (length taken) (lowered_stmt taken s).list (control.acts unit scalls s)

  abbrev AllRun : Stmts → List Sort → Type 0
  AllRun ss taken = Runs unit entities calls (length taken) (lowered_all taken ss).list (control.all_act unit scalls ss)

  mutual
    pub runs_stmt : (depth : ℕ) (s : Stmt) → IsStmt unit.constants entities depth s → (taken : List Sort) → StmtRuns s taken
    runs_stmt depth (Assigns a) h taken = runs_assign unit entities calls scalls a a.target.designator taken refl h
    runs_stmt depth (Masks w) h taken = absurd h
    runs_stmt depth (ForAll f) h taken = absurd h
    runs_stmt depth (Calls line c) h taken = absurd h
    runs_stmt depth (Allocate line objects) h taken = absurd h
    runs_stmt depth (Deallocate line names) h taken = absurd h
    runs_stmt depth (Print line es) h taken = runs_print unit entities calls scalls line es taken h
    runs_stmt depth (Read line targets) h taken = absurd h
    runs_stmt depth (If no_branch otherwise) h taken = runs_all depth otherwise h.1 taken
    runs_stmt depth (If (branch line e body no_branch) otherwise) h taken =
        runs_if unit entities calls scalls line e taken (length (lowered line taken e).scalars)
        (length (lowered_all (lowered line taken e).scalars body).scalars)
        (lowered_all (lowered line taken e).scalars body).list
        (lowered_all (lowered_all (lowered line taken e).scalars body).scalars otherwise).list
        (control.all_act unit scalls body) (control.all_act unit scalls otherwise) h.0.0.1
        (taken_grow line e taken) (omega (arith, taken_grow line e taken, all_grow body (lowered line taken e).scalars))
        (runs_all depth body h.0.1 (lowered line taken e).scalars)
        (runs_all depth otherwise h.1 (lowered_all (lowered line taken e).scalars body).scalars)
    runs_stmt depth (If (branch line e body (branch line' e' body' rest)) otherwise) h taken =
        flag_set line (length taken) (length taken) (length taken)
        (branches line (length taken) (taken ++ sort.Log ∷ []) (branch line e body (branch line' e' body' rest))
        (λ later. lowered_all later otherwise)).list
        (control.branch_acts unit scalls (branch line e body (branch line' e' body' rest)) (control.all_act unit scalls otherwise))
        (omega arith) (omega arith)
        (runs_branches depth line (length taken) (length taken) (branch line e body (branch line' e' body' rest))
        (λ later. lowered_all later otherwise)
        (control.all_act unit scalls otherwise) (omega arith) h.0 (λ later up. runs_all depth otherwise h.1 later)
        (taken ++ sort.Log ∷ [])
        (omega (arith, taken_more taken sort.Log)))
    runs_stmt depth (Select line e choices otherwise) h taken =
        let more : length ((lowered line taken e).scalars ++ sort_of_expr e ∷ []) ≡ suc (length (lowered line taken e).scalars) =
        taken_more (lowered line taken e).scalars (sort_of_expr e) in
        runs_select unit entities calls scalls line e taken (suc (length (lowered line taken e).scalars))
        (length ((lowered line taken e).scalars ++ sort_of_expr e ∷ []))
        (cases line (sort_of_expr e) (Fixed (length (lowered line taken e).scalars))
        (length ((lowered line taken e).scalars ++ sort_of_expr e ∷ []))
        (((lowered line taken e).scalars ++ sort_of_expr e ∷ []) ++ sort.Log ∷ []) choices
        (λ later. lowered_all later otherwise)).list
        (λ x. control.case_acts unit scalls x choices (control.all_act unit scalls otherwise)) h.0
        (omega (arith, taken_grow line e taken)) (omega (arith, more))
        (omega arith)
        (λ x typed. runs_cases depth line (suc (length (lowered line taken e).scalars))
        (length ((lowered line taken e).scalars ++ sort_of_expr e ∷ []))
        (length (lowered line taken e).scalars) x (sort_of_expr e) typed choices (λ later. lowered_all later otherwise)
        (control.all_act unit scalls otherwise) (omega (arith, more)) h.1 (λ later up. runs_all depth otherwise h.2 later)
        (((lowered line taken e).scalars ++ sort_of_expr e ∷ []) ++ sort.Log ∷ [])
        (omega (arith, taken_more ((lowered line taken e).scalars ++ sort_of_expr e ∷ []) sort.Log)))
    runs_stmt depth (Do line j first last step body) h taken =
        runs_do unit entities calls scalls line j first last step taken (λ more. lowered_all more body)
        (control.all_act unit scalls body)
        h.0 h.1 h.2 h.3 (λ more. runs_all (suc depth) body h.4 more)
    runs_stmt depth (While line e body) h taken =
        runs_while unit entities calls scalls line (length taken) (length (lowered line taken e).scalars)
        (taken_grow line e taken) (lowered line taken e).parts
        (lowered_all (lowered line taken e).scalars body).list (lowered line taken e).tree (source_truth unit scalls line [] e)
        (control.all_act unit scalls body)
        (tests_expr unit entities calls scalls line e taken h.0.1) (runs_all (suc depth) body h.1 (lowered line taken e).scalars)
    runs_stmt depth (Forever line body) h taken =
        runs_while unit entities calls scalls line (length taken) (length taken) (omega arith) no_statement
        (lowered_all taken body).list (Literal (scalar.Log true))
        (pure true) (control.all_act unit scalls body) (tests_always unit entities calls scalls line (length taken))
        (runs_all (suc depth) body h taken)
    runs_stmt depth (Exit line out) h taken = runs_exit unit entities calls (length taken) out
    runs_stmt depth (Cycle line out) h taken = runs_cycle unit entities calls (length taken) out
    runs_stmt depth (Return line) h taken = runs_return unit entities calls (length taken)
    runs_stmt depth (Stop line) h taken = runs_stop unit entities calls (length taken)

    pub runs_all : (depth : ℕ) (ss : Stmts) → AreStmts unit.constants entities depth ss → (taken : List Sort) → AllRun ss taken
    runs_all depth no_stmt h taken = runs_none unit entities calls (length taken)
    runs_all depth (stmt s more) h taken = runs_then unit entities calls (length taken) (length (lowered_stmt taken s).scalars)
        (lowered_stmt taken s).list (lowered_all (lowered_stmt taken s).scalars more).list (control.acts unit scalls s)
        (control.all_act unit scalls more)
        (stmt_grow s taken) (runs_stmt depth s h.0 taken) (runs_all depth more h.1 (lowered_stmt taken s).scalars)

    runs_branches : (depth around k flag : ℕ) (bs : Branches) (otherwise : List Sort → LoweredList) (q : source.Step Flow)
        → k ≤ flag
        → AreBranches unit.constants entities depth bs
        → ((later : List Sort) → flag < length later → Runs unit entities calls (length later) (otherwise later).list q)
        → (taken : List Sort) → flag < length taken
        → Flagged unit entities calls scalls k flag (branches around flag taken bs otherwise).list
        (control.branch_acts unit scalls bs q)
    runs_branches depth around k flag no_branch otherwise q up h other taken below =
        flagged_end unit entities calls scalls around k flag (length taken) (otherwise taken).list q (omega (arith, up, below))
        (other taken below)
    runs_branches depth around k flag (branch line e body rest) otherwise q up h other taken below =
        let later : Flagged unit entities calls scalls k flag
        (branches around flag (lowered_all (lowered line taken e).scalars body).scalars rest otherwise).list
        (control.branch_acts unit scalls rest q) =
        runs_branches depth around k flag rest otherwise q up h.2 other
        (lowered_all (lowered line taken e).scalars body).scalars
        (omega (arith, below, taken_grow line e taken, all_grow body (lowered line taken e).scalars)) in
        flagged_branch unit entities calls scalls k flag (length (lowered line taken e).scalars)
        (omega (arith, up, below, taken_grow line e taken))
        (omega (arith, below, taken_grow line e taken))
        (branches around flag (lowered_all (lowered line taken e).scalars body).scalars rest otherwise).list later.skips
        (control.branch_acts unit scalls rest q) later
        line e taken h.0.1 up below (lowered_all (lowered line taken e).scalars body).list (control.all_act unit scalls body)
        (runs_all depth body h.1 (lowered line taken e).scalars)

    runs_cases : (depth line k flag sel : ℕ) (x : Scalar) (s : Sort) → HasSort s x
        → (cs : Cases) (otherwise : List Sort → LoweredList) (q : source.Step Flow)
        → k ≤ flag → AreCases unit.constants entities depth s cs
        → ((later : List Sort) → flag < length later → Runs unit entities calls (length later) (otherwise later).list q)
        → (taken : List Sort) → flag < length taken
        → Chosen unit entities calls scalls k flag sel x (cases line s (Fixed sel) flag taken cs otherwise).list
        (control.case_acts unit scalls x cs q)
    runs_cases depth line k flag sel x s typed no_case otherwise q up h other taken below =
        chosen_end unit entities calls scalls line k flag sel (length taken) x (otherwise taken).list q (omega (arith, up, below))
        (other taken below)
    runs_cases depth line k flag sel x s typed (case ranges body rest) otherwise q up h other taken below =
        chosen_case unit entities calls scalls k flag sel (length taken) (omega (arith, up, below)) below up x
        (cases line s (Fixed sel) flag (lowered_all taken body).scalars rest otherwise).list
        (control.case_acts unit scalls x rest q)
        (runs_cases depth line k flag sel x s typed rest otherwise q up h.2 other (lowered_all taken body).scalars
        (omega (arith, below, all_grow body taken)))
        line s typed ranges h.0 (lowered_all taken body).list (control.all_act unit scalls body) (runs_all depth body h.1 taken)
