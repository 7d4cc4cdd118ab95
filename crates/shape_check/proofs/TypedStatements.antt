-- Statements that are made are well typed.
use Rattle.std.proofs.Common.{ℕ, ◌+◌, false, ◌++◌, List, [], ◌∷◌, length, Option, Some, None, slice_get, sym, subst}
use Rattle.a95_base.specs.Lists.{Every}
use Rattle.a95_base.specs.declared.scalar.Kind.{Kind}
use Rattle.f95_tree.specs.Forms.{Word}
use Rattle.names_types.specs.Plain as source
use Rattle.f95_unit.specs.Plain.{Expr, Where, Forall, Span, Allocation, Stmt, Assigns, Allocate, Deallocate, Print, Read, Stmts}
use Rattle.f95_unit.specs.Plain.{no_stmt, stmt, Branches, Cases}
use Rattle.shape_check.specs.Statements as statement
use Rattle.well_typed.specs.Known.{facts_of}
use Rattle.well_typed.specs.Questions.{Counts, Selects, Decides, Allocates, Frees, Takes}
use Rattle.shape_check.specs.Found.{Found, then_found}
use Rattle.shape_check.specs.Names.{Sense, IsVariable, IsConstant, IsProcedure, IsIntrinsic, IsIndex, IsNothing, Names, inside_do}
use Rattle.shape_check.specs.Names.{sense_of, number_in, variable_of}
use Rattle.shape_check.specs.Nodes.{Item, Single}
use Rattle.shape_check.specs.Expressions.{expr_of}
use Rattle.shape_check.specs.Told.{maybe_stmt}
use Rattle.shape_check.specs.Assignments.{storing, target_of, target, deciding}
use Rattle.shape_check.specs.Executable.{append, actual_of, call_to, call_of, number_or_first, variable_number, span, span_of}
use Rattle.shape_check.specs.Executable.{allocation, allocation_of, deallocation_of, item_of, where_stmt, forall_stmt, action_of}
use Rattle.shape_check.specs.Executable.{selector_of, ranges_of, range_counts}
use Rattle.shape_check.specs.Blocks.{values_in, values_in_one, values_in_branches, selector_kind, Chosen, Limits, limits_of}
use Rattle.shape_check.specs.Blocks.{counted_by, if_one, select_one, while_one, do_one, with_branch, stmts_of, stmt_of, branches_of}
use Rattle.shape_check.specs.Blocks.{cases_of}
use Rattle.well_typed.specs.WellTyped.{Settled}
use Rattle.well_typed.specs.WellTypedStatements.{TypedWhere, TypedForall, TypedSpan, TypedAllocation, CanFree, TypedItem}
use Rattle.well_typed.specs.WellTypedStatements.{TypedCondition, TypedStmt, TypedStmts, TypedBranches, TypedCases}
use Rattle.shape_check.specs.Laws.{StatementsAreTyped}
use Rattle.shape_check.proofs.Gives.{Holds, Gives, gives_asking, gives_then, gives_mapped, gives_both, gives_and_asking, gives_each}
use Rattle.shape_check.proofs.Parts.{actuals_typed}
use Rattle.shape_check.proofs.Typed.{Typed, TypedB, IsTypedItem, TypedBounded, gives_expr, gives_bound, gives_bounded}
use Rattle.shape_check.proofs.TypedAssignments.{gives_target, gives_assignment, where_is, forall_is}
use Rattle.well_typed.specs.declared.asked.Range.{Range}

module _ (c : Names) where
  abbrev pub StmtFor : Stmt → Type 0
  StmtFor = TypedStmt c.constants c.variables c.callees (length c.indices) c.dos

  abbrev pub StmtsFor : Stmts → Type 0
  StmtsFor = TypedStmts c.constants c.variables c.callees (length c.indices) c.dos

  abbrev pub BranchesFor : Branches → Type 0
  BranchesFor = TypedBranches c.constants c.variables c.callees (length c.indices) c.dos

  abbrev pub CasesFor : Cases → Type 0
  CasesFor = TypedCases c.constants c.variables c.callees (length c.indices) c.dos

  pub appended : (ss ts : Stmts) → StmtsFor ss → StmtsFor ts → StmtsFor (append ss ts)
  appended no_stmt ts h g = g
  appended (stmt s more) ts h g = (h.0, appended more ts h.1 g)

  maybe_is : (o : Option Stmt) → Holds StmtFor o → StmtsFor (maybe_stmt o)
  maybe_is None h = tt
  maybe_is (Some s) h = (h, tt)

  -- ---- calls

  gives_actual : (a : statement.Actual) → Gives (IsTypedItem c) (actual_of c a)
  gives_actual a = gives_mapped (Single a.keyword) _ (gives_expr c a.value) (λ e h. h)

  called_to : (s : Sense) (line : ℕ) (items : List Item) → Every (IsTypedItem c) items → StmtFor (call_to c s line items)
  called_to (IsVariable n) line items h = actuals_typed c.constants c.variables c.callees (length c.indices) [] 0 false items h
  called_to (IsConstant n) line items h = actuals_typed c.constants c.variables c.callees (length c.indices) [] 0 false items h
  called_to (IsProcedure n dummies) line items h =
      actuals_typed c.constants c.variables c.callees (length c.indices) dummies 0 false items h
  called_to (IsIntrinsic which) line items h = actuals_typed c.constants c.variables c.callees (length c.indices) [] 0 false items h
  called_to (IsIndex k) line items h = actuals_typed c.constants c.variables c.callees (length c.indices) [] 0 false items h
  called_to IsNothing line items h = actuals_typed c.constants c.variables c.callees (length c.indices) [] 0 false items h

  gives_call : (line : ℕ) (name : Word) (actuals : List statement.Actual) → Gives StmtFor (call_of c line name actuals)
  gives_call line name actuals = gives_mapped (call_to c (sense_of c name) line) _ (gives_each (actual_of c) gives_actual actuals)
      (λ items h. called_to (sense_of c name) line items h.0)

  -- ---- ALLOCATE, DEALLOCATE, READ

  allocates_it : (s : Sense) (k : ℕ) → Settled (Allocates (variable_of c s) k)
      → Settled (Allocates (slice_get c.variables (number_or_first (number_in s))) k)
  allocates_it (IsVariable n) k h = h
  allocates_it (IsConstant n) k h = cc
  allocates_it (IsProcedure n dummies) k h = cc
  allocates_it (IsIntrinsic which) k h = cc
  allocates_it (IsIndex i) k h = cc
  allocates_it IsNothing k h = cc

  frees_it : (s : Sense) → Settled (Frees (variable_of c s))
      → Settled (Frees (slice_get c.variables (number_or_first (number_in s))))
  frees_it (IsVariable n) h = h
  frees_it (IsConstant n) h = cc
  frees_it (IsProcedure n dummies) h = cc
  frees_it (IsIntrinsic which) h = cc
  frees_it (IsIndex i) h = cc
  frees_it IsNothing h = cc

  abbrev SpanFor : Span → Type 0
  SpanFor = TypedSpan c.constants c.variables c.callees (length c.indices)

  pub gives_span_of : (lower : source.Bound) (upper : source.Expr) → Gives SpanFor (span_of c lower upper)
  gives_span_of lower upper =
      gives_mapped span _ (gives_both _ _ (gives_bound c lower) (gives_bounded c _ (gives_expr c upper))) (λ p h. h)

  abbrev AllocationFor : Allocation → Type 0
  AllocationFor = TypedAllocation c.constants c.variables c.callees (length c.indices)

  gives_allocation : (a : statement.Allocation) → Gives AllocationFor (allocation_of c a)
  gives_allocation a = gives_and_asking (Allocates (variable_of c (sense_of c a.name)) (length a.spans)) _
      (λ ok. gives_mapped (allocation (variable_number c a.name)) _
      (gives_each (λ (s : statement.Span). span_of c s.lower s.upper) (λ s. gives_span_of s.lower s.upper) a.spans)
      (λ spans h. (
        h.0,
        subst (λ k. Settled (Allocates (slice_get c.variables (variable_number c a.name)) k)) (sym h.1)
            (allocates_it (sense_of c a.name) (length a.spans) ok),
      )))

  gives_deallocation : (name : Word) → Gives (CanFree c.constants c.variables c.callees) (deallocation_of c name)
  gives_deallocation name = gives_asking (Frees (variable_of c (sense_of c name))) _ (frees_it (sense_of c name))

  gives_item : (r : source.Reference) → Gives (TypedItem c.constants c.variables c.callees (length c.indices) c.dos) (item_of c r)
  gives_item r = gives_then (target_of c r) _ (gives_target c r) (λ p h. gives_asking (Takes p.0) (target p) (λ ok. (h, ok)))

  -- ---- actions

  where_is_stmt : (o : Option Where) → Holds (TypedWhere c.constants c.variables c.callees (length c.indices) c.dos None) o
      → StmtsFor (where_stmt o)
  where_is_stmt None h = tt
  where_is_stmt (Some w) h = (h, tt)

  forall_is_stmt : (o : Option Forall) → Holds (TypedForall c.constants c.variables c.callees c.dos) o → StmtsFor (forall_stmt o)
  forall_is_stmt None h = tt
  forall_is_stmt (Some f) h = (h, tt)

  made_is : (m : Found Stmt) → Gives StmtFor m → StmtsFor (maybe_stmt m.made)
  made_is m g = maybe_is m.made g.made

  action_is : (loops : List (Option Word)) (line : ℕ) (a : statement.Action) → StmtsFor (action_of c loops line a).is
  action_is loops line (statement.Assign a) = made_is _ (gives_mapped Assigns _ (gives_assignment c line a) (λ x h. h))
  action_is loops line (statement.CallOf name actuals) = made_is _ (gives_call line name actuals)
  action_is loops line (statement.Allocate objects) =
      made_is _ (gives_mapped (Allocate line) _ (gives_each (allocation_of c) gives_allocation objects) (λ xs h. h.0))
  action_is loops line (statement.Deallocate names) =
      made_is _ (gives_mapped (Deallocate line) _ (gives_each (deallocation_of c) gives_deallocation names) (λ xs h. h.0))
  action_is loops line (statement.Print es) =
      made_is _ (gives_mapped (Print line) _ (gives_each (expr_of c) (gives_expr c) es) (λ xs h. h.0))
  action_is loops line (statement.Read rs) =
      made_is _ (gives_mapped (Read line) _ (gives_each (item_of c) gives_item rs) (λ xs h. h.0))
  action_is loops line statement.Stop = (tt, tt)
  action_is loops line statement.Return = (tt, tt)
  action_is loops line statement.Continue = tt
  action_is loops line (statement.Exit name) = (tt, tt)
  action_is loops line (statement.Cycle name) = (tt, tt)
  action_is loops line (statement.WhereOne mask a) = where_is_stmt _ (where_is c None
      (statement.where_block line mask (statement.assigning
      (record { line = line; of = a }) statement.no_masked) statement.no_other))
  action_is loops line (statement.ForallOne h a) = forall_is_stmt _ (forall_is c line h (record { line = line; of = a } ∷ []))

  -- ---- conditions, selectors, DO

  abbrev ConditionFor : Expr → Type 0
  ConditionFor = TypedCondition c.constants c.variables c.callees (length c.indices)

  gives_condition : (e : source.Expr) → Gives ConditionFor (then_found (expr_of c e) deciding)
  gives_condition e = gives_then (expr_of c e) _ (gives_expr c e) (λ x h. gives_asking (Decides (facts_of x)) x (λ ok. (h, ok)))

  abbrev SelectorFor : Expr → Type 0
  SelectorFor e = Typed c e × Settled (Selects (facts_of e))

  gives_selector : (e : source.Expr) → Gives SelectorFor (selector_of c e)
  gives_selector e = gives_then (expr_of c e) _ (gives_expr c e) (λ x h. gives_asking (Selects (facts_of x)) x (λ ok. (h, ok)))

  abbrev LimitsFor : Limits → Type 0
  LimitsFor l = TypedBounded c l.0 × (TypedBounded c l.1.0 × TypedB c l.1.1)

  gives_limits : (first last : source.Expr) (step : source.Bound) → Gives LimitsFor (limits_of c first last step)
  gives_limits first last step = gives_both _ _ (gives_bounded c _ (gives_expr c first))
      (gives_both _ _ (gives_bounded c _ (gives_expr c last)) (gives_bound c step))

  -- a name that counts
  abbrev Countable : Sense → Type 0
  Countable s = Settled (Counts (variable_of c s)) × Settled (storing c s)

  counted_beside : (s : Sense) (o : Option Limits) → Holds LimitsFor o → Countable s → Holds (λ l. LimitsFor l × Countable s) o
  counted_beside s None h k = tt
  counted_beside s (Some l) h k = (h, k)

  gives_counted : (s : Sense) (m : Found Limits) → Gives LimitsFor m → Gives (λ l. LimitsFor l × Countable s) (counted_by c s m)
  gives_counted s m g = gives_and_asking (Counts (variable_of c s)) _
      (λ counts. gives_and_asking (storing c s) m (λ stores.
      record { made = counted_beside s m.made g.made (counts, stores); settled = g.settled }))

  if_made : (line : ℕ) (body : Stmts) (o : Option Expr) → Holds ConditionFor o → StmtsFor body → Holds StmtFor (if_one line body o)
  if_made line body None h g = tt
  if_made line body (Some e) h g = ((h, (g, tt)), tt)

  select_made : (line : ℕ) (chosen : Chosen) (o : Option Expr) → Holds SelectorFor o → CasesFor chosen.0 → StmtsFor chosen.1
      → Holds StmtFor (select_one line chosen o)
  select_made line chosen None h g k = tt
  select_made line chosen (Some e) h g k = (h, (g, k))

  while_made : (line : ℕ) (body : Stmts) (o : Option Expr) → Holds ConditionFor o → StmtsFor body
      → Holds StmtFor (while_one line body o)
  while_made line body None h g = tt
  while_made line body (Some e) h g = (h, g)

  branch_made : (line : ℕ) (o : Option Expr) (body : Stmts) (more : Branches) → Holds ConditionFor o → StmtsFor body
      → BranchesFor more
      → BranchesFor (with_branch line o body more)
  branch_made line None body more h g k = k
  branch_made line (Some e) body more h g k = (h, (g, k))

none_counts : Settled (Counts None) → ⊥
none_counts h = cc

do_made : (c : Names) (s : Sense) (line : ℕ) (body : Stmts) (o : Option Limits) → Holds (λ l. LimitsFor c l × Countable c s) o
    → StmtsFor (inside_do (number_in s) c) body → Holds (StmtFor c) (do_one line (number_or_first (number_in s)) body o)
do_made c s line body None h g = tt
do_made c (IsVariable n) line body (Some l) h g = (h.1, (h.0.0, (h.0.1.0, (h.0.1.1, g))))
do_made c (IsConstant n) line body (Some l) h g = absurd (none_counts h.1.0)
do_made c (IsProcedure n dummies) line body (Some l) h g = absurd (none_counts h.1.0)
do_made c (IsIntrinsic which) line body (Some l) h g = absurd (none_counts h.1.0)
do_made c (IsIndex k) line body (Some l) h g = absurd (none_counts h.1.0)
do_made c IsNothing line body (Some l) h g = absurd (none_counts h.1.0)

-- ---- all statements

mutual
  pub stmts_are : (c : Names) (loops : List (Option Word)) (next : ℕ) (ss : statement.Stmts)
      → StmtsFor c (stmts_of c loops next ss).is
  stmts_are c loops next statement.no_stmt = tt
  stmts_are c loops next (statement.stmt s more) =
      appended c _ _ (stmt_is c loops next s) (stmts_are c loops (next + values_in_one s) more)

  stmt_is : (c : Names) (loops : List (Option Word)) (next : ℕ) (s : statement.Stmt) → StmtsFor c (stmt_of c loops next s).is
  stmt_is c loops next (statement.Act line a) = action_is c loops line a
  stmt_is c loops next (statement.IfOne line e a) = maybe_is c _
      (if_made c line _ (then_found (expr_of c e) deciding).made (gives_condition c e).made (action_is c loops line a))
  stmt_is c loops next (statement.If branches otherwise) =
      ((branches_are c loops next branches, stmts_are c loops (next + values_in_branches branches) otherwise), tt)
  stmt_is c loops next (statement.Select line e cases) =
      let chosen = cases_are c loops (selector_kind c e) [] next cases in
      maybe_is c _ (select_made c line _ (selector_of c e).made (gives_selector c e).made chosen.0 chosen.1)
  stmt_is c loops next (statement.Do line name statement.Forever body) = (stmts_are c (name ∷ loops) next body, tt)
  stmt_is c loops next (statement.Do line name (statement.While e) body) = maybe_is c _
      (while_made c line _ (then_found (expr_of c e) deciding).made (gives_condition c e).made
      (stmts_are c (name ∷ loops) next body))
  stmt_is c loops next (statement.Do line name (statement.Counted variable first last step) body) = maybe_is c _
      (do_made c (sense_of c variable) line _ (counted_by c (sense_of c variable) (limits_of c first last step)).made
      (gives_counted c (sense_of c variable) _ (gives_limits c first last step)).made
      (stmts_are (inside_do (number_in (sense_of c variable)) c) (name ∷ loops) next body))
  stmt_is c loops next (statement.Where b) = where_is_stmt c _ (where_is c None b)
  stmt_is c loops next (statement.Forall line h body) = forall_is_stmt c _ (forall_is c line h body)

  branches_are : (c : Names) (loops : List (Option Word)) (next : ℕ) (b : statement.Branches)
      → BranchesFor c (branches_of c loops next b).is
  branches_are c loops next statement.no_branch = tt
  branches_are c loops next (statement.branch line e body more) =
      branch_made c line (then_found (expr_of c e) deciding).made _ _ (gives_condition c e).made (stmts_are c loops next body)
      (branches_are c loops (next + values_in body) more)

  cases_are : (c : Names) (loops : List (Option Word)) (k : Option Kind) (earlier : List Range) (next : ℕ) (cs : statement.Cases)
      → CasesFor c (cases_of c loops k earlier next cs).is.0 × StmtsFor c (cases_of c loops k earlier next cs).is.1
  cases_are c loops k earlier next statement.no_case = (tt, tt)
  cases_are c loops k earlier next (statement.case line None body more) =
      ((cases_are c loops k earlier (next + values_in body) more).0, stmts_are c loops next body)
  cases_are c loops k earlier next (statement.case line (Some ranges) body more) =
      let rest = cases_are c loops k (earlier ++ (ranges_of c k next ranges).known)
      (next + (range_counts ranges + values_in body)) more in
      ((stmts_are c loops (next + range_counts ranges) body, rest.0), rest.1)

pub statements_are_typed : StatementsAreTyped
statements_are_typed c loops next ss = stmts_are c loops next ss
