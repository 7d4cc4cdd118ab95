-- One more turn, for statements, calls and whole runs.
use Rattle.std.proofs.Common.{◌≡◌, refl, subst, ℕ, ℤ, zero, suc, ◌+◌, ◌-◌, ◌+ℤ◌, arith, Bool, true, false, List, [], ◌∷◌}
use Rattle.std.specs.Prelude.{map, Option, Some, None, Result, Ok, Err}
use Rattle.a95_base.specs.declared.scalar.Scalar.{Scalar}
use Rattle.a95_base.specs.Input.{Reading, Integer, NoMore, NoInteger}
use Rattle.a95_base.specs.Outcome.{Stop as Ending, Outcome, Finished, Going, Run, IsPrefix}
use Rattle.a95_base.proofs.Turns.{prefix_refl, prefix_trans, grows_then, grows_next, steady_pure}
use Rattle.array_meaning.proofs.TurnsOfFlow.{grows_behind_turn, steady_behind}
use Rattle.f95_unit.specs.declared.unit.DeclaredType.{DeclaredType}
use Rattle.f95_unit.specs.declared.unit.Role.{Role}
use Rattle.f95_unit.specs.declared.unit.Role.TheVariants as role
use Rattle.f95_unit.specs.Plain.{Expr, Bound, Span, Allocation, Target, Assign, Where, masked, MaskedBody, no_masked, assigning}
use Rattle.f95_unit.specs.Plain.{narrowed, Others, no_other, elsewhere, Triplet, Forall, call, Stmt, Assigns, Masks, ForAll, Calls}
use Rattle.f95_unit.specs.Plain.{Allocate, Deallocate, Print, Read, If, Select, Do, While, Forever, Exit, Cycle, Return, Stop}
use Rattle.f95_unit.specs.Plain.{Stmts, no_stmt, stmt, Branches, no_branch, branch, Cases, no_case, case, Bounds, Scalars, Explicit}
use Rattle.f95_unit.specs.Plain.{Assumed, Deferred, Entity, Procedure, Program}
use Rattle.array_meaning.specs.Values.{Value}
use Rattle.array_meaning.specs.State.{State, Halt, Stopped, Faults, OutOfTurns, Step, Substring, Variable}
use Rattle.array_meaning.specs.Sections.{Section}
use Rattle.array_meaning.specs.Trees.{Tree, Caller}
use Rattle.array_meaning.specs.Expressions.{procedure_at}
use Rattle.array_meaning.specs.Assignments.{Control, with_truths, both, but_not, assigned, control_of, mask_truths, where_acts}
use Rattle.array_meaning.specs.Assignments.{masked_act, others_act, index_lists, active_of, active, one_combination}
use Rattle.array_meaning.specs.Assignments.{each_combination, indexed, forall_acts}
use Rattle.array_meaning.specs.InputOutput.{taken, next_integer, read_places, skip_record, printed, prints, read_items, reads}
use Rattle.array_meaning.specs.Control.{Flow, behind, one_turn, counted, while_true}
use Rattle.array_meaning.specs.Control.{dimensions, allocates, deallocates, ends, acts, all_act, branch_acts, case_acts}
use Rattle.array_meaning.specs.Calls.{Actuals, passed_at, lower_bounds, bounds_act, own_acts, declaration_acts, declarations_act}
use Rattle.array_meaning.specs.Calls.{initial_of, initial_acts, initials_act, body_acts, copy_back, copies_back, entered, called}
use Rattle.array_meaning.specs.Run.{most_calls, start, outcome_of, run_of, main_acts, source_run}
use Rattle.array_meaning.specs.RunLaws.{StaysBy, Stays, MoreTurns}
use Rattle.array_meaning.proofs.Turns.{SameBy, Steady, Grows}
use Rattle.array_meaning.proofs.Turns.{steady_fault, steady_stopped, steady_unless, steady_given, steady_allocated, steady_variable}
use Rattle.array_meaning.proofs.Turns.{steady_set, steady_store, steady_put, steady_unread, steady_pass, grows_choose, steady_turn}
use Rattle.array_meaning.proofs.Turns.{grows_waits, tells_waits, steady_turns_left, grows_inside}
use Rattle.array_meaning.proofs.TurnsOfExpressions.{SteadyCalls, steady_all, steady_masked, steady_prepare, steady_actuals}
use Rattle.array_meaning.proofs.TurnsOfExpressions.{steady_designate, steady_bound_or, steady_evaluate, steady_integer}
use Rattle.array_meaning.proofs.TurnsOfExpressions.{steady_truth}

module _ (unit : Program) (calls : Caller) (same : SteadyCalls calls) where
  -- ---- assignments

  pub steady_assigned : (control : Option Control) (a : Assign) → Steady (assigned unit calls control a)
  steady_assigned control a = grows_then (steady_prepare unit calls _ same [] _)
      (λ t. grows_then (steady_designate unit calls _ same [] _)
      (λ s. grows_next (steady_given _ _)
      (grows_next (steady_unless _ _ _)
      (grows_next (steady_unless _ _ _) (grows_then (steady_masked calls _ same _ _ t) (λ xs. steady_store _ _ _))))))

  steady_control : (line : ℕ) (around : Option Control) (t : Tree) → Steady (control_of unit calls line around t)
  steady_control line None t = grows_then (steady_given _ _) (λ extents. steady_pure _)
  steady_control line (Some c) t = grows_then (steady_given _ _) (λ extents. grows_next (steady_unless _ _ _) (steady_pure _))

  steady_mask : (line : ℕ) (c : Control) (t : Tree) → Steady (mask_truths unit calls line c t)
  steady_mask line c t = grows_then (steady_masked calls _ same _ _ t) (λ xs. steady_pure _)

  mutual
    pub steady_where : (around : Option Control) (w : Where) → Steady (where_acts unit calls around w)
    steady_where around (masked line mask body others) = grows_then (steady_prepare unit calls _ same [] _)
        (λ t. grows_then (steady_control line around t)
        (λ c. grows_then (steady_mask line c t)
        (λ truths. grows_next (steady_masked_act (with_truths c (both c.truths truths)) body)
        (steady_others (with_truths c (but_not c.truths truths)) others))))

    steady_masked_act : (c : Control) (body : MaskedBody) → Steady (masked_act unit calls c body)
    steady_masked_act c no_masked = steady_pure _
    steady_masked_act c (assigning a more) = grows_next (steady_assigned (Some c) a) (steady_masked_act c more)
    steady_masked_act c (narrowed w more) = grows_next (steady_where (Some c) w) (steady_masked_act c more)

    steady_others : (pending : Control) (others : Others) → Steady (others_act unit calls pending others)
    steady_others pending no_other = steady_pure _
    steady_others pending (elsewhere line None body more) = grows_next (steady_masked_act pending body)
        (steady_others (with_truths pending (map (λ b. false) pending.truths)) more)
    steady_others pending (elsewhere line (Some mask) body more) = grows_then (steady_prepare unit calls _ same [] _)
        (λ t. grows_then (steady_control line (Some pending) t)
        (λ c. grows_then (steady_mask line c t)
        (λ truths. grows_next (steady_masked_act (with_truths c (both c.truths truths)) body)
        (steady_others (with_truths c (but_not c.truths truths)) more))))

  steady_lists : (line : ℕ) (triplets : List Triplet) → Steady (index_lists unit calls line triplets)
  unfolding index_lists
  steady_lists line [] = steady_pure _
  steady_lists line (t ∷ more) = grows_then (steady_integer unit calls _ same [] _)
      (λ f. grows_then (steady_integer unit calls _ same [] _)
      (λ l. grows_then (steady_bound_or unit calls _ same [] _ _)
      (λ s. grows_next (steady_unless _ _ _) (grows_then (steady_lists line more) (λ lists. steady_pure _)))))

  steady_active_of : (line : ℕ) (mask : Expr) (combinations : List (List ℤ)) → Steady (active_of unit calls line mask combinations)
  unfolding active_of
  steady_active_of line mask [] = steady_pure _
  steady_active_of line mask (ix ∷ more) = grows_then (steady_truth unit calls _ same ix mask)
      (λ b. grows_then (steady_active_of line mask more) (λ active. steady_pure _))

  steady_active : (line : ℕ) (mask : Option Expr) (combinations : List (List ℤ)) → Steady (active unit calls line mask combinations)
  steady_active line None combinations = steady_pure _
  steady_active line (Some mask) combinations = steady_active_of line mask combinations

  steady_combination : (all : ℕ) (a : Assign) (ix : List ℤ) → Steady (one_combination unit calls all a ix)
  steady_combination all a ix = grows_then (steady_prepare unit calls _ same ix _)
      (λ t. grows_then (steady_designate unit calls _ same ix _)
      (λ s. grows_next (steady_given _ _)
      (grows_next (steady_unless _ _ _) (grows_then (steady_all calls _ same _ _ t) (λ xs. steady_pure _)))))

  steady_combinations : (all : ℕ) (a : Assign) (combinations : List (List ℤ)) → Steady
      (each_combination unit calls all a combinations)
  unfolding each_combination
  steady_combinations all a [] = steady_pure _
  steady_combinations all a (ix ∷ more) = grows_then (steady_combination all a ix)
      (λ stores. grows_then (steady_combinations all a more) (λ rest. steady_pure _))

  steady_indexed : (all : ℕ) (combinations : List (List ℤ)) (body : List Assign) → Steady (indexed unit calls all combinations body)
  unfolding indexed
  steady_indexed all combinations [] = steady_pure _
  steady_indexed all combinations (a ∷ more) = grows_then (steady_combinations all a combinations)
      (λ stores. grows_next (steady_unless _ _ _) (grows_next (steady_store _ _ _) (steady_indexed all combinations more)))

  pub steady_forall : (f : Forall) → Steady (forall_acts unit calls f)
  steady_forall f = grows_then (steady_lists _ _)
      (λ lists. grows_next (steady_unless _ _ _)
      (grows_then (steady_active _ _ _) (λ combinations. steady_indexed _ combinations _)))

-- ---- input and output

steady_taken : (line : ℕ) (reading : Reading) → Steady (taken line reading)
steady_taken line (Integer z used) = grows_next (steady_pass _) (steady_pure _)
steady_taken line NoMore = steady_fault _ _
steady_taken line NoInteger = steady_fault _ _

steady_next_integer : (line : ℕ) (behind : Bool) → Steady (next_integer line behind)
steady_next_integer line behind = grows_then steady_unread (λ rest. steady_taken line _)

steady_read_places : (line n : ℕ) (bytes : Substring) (behind : Bool) (places : List ℕ) → Steady
    (read_places line n bytes behind places)
unfolding read_places
steady_read_places line n bytes behind [] = steady_pure _
steady_read_places line n bytes behind (k ∷ ks) = grows_then (steady_next_integer line behind)
    (λ z. grows_next (steady_store _ _ _) (steady_read_places line n bytes true ks))

steady_skip : (line : ℕ) (behind : Bool) → Steady (skip_record line behind)
steady_skip line behind = grows_then steady_unread (λ rest. grows_next (steady_unless _ _ _) (steady_pass _))

module _ (unit : Program) (calls : Caller) (line : ℕ) (same : SteadyCalls calls) where
  steady_printed : (es : List Expr) → Steady (printed unit calls line es)
  unfolding printed
  steady_printed [] = steady_pure _
  steady_printed (e ∷ more) = grows_then (steady_evaluate unit calls line same [] e)
      (λ v. grows_then (steady_printed more) (λ xs. steady_pure _))

  pub steady_prints : (es : List Expr) → Steady (prints unit calls line es)
  steady_prints es = grows_then (steady_printed es) (λ values. steady_put _)

  steady_read_items : (behind : Bool) (targets : List Target) → Steady (read_items unit calls line behind targets)
  unfolding read_items
  steady_read_items behind [] = steady_pure _
  steady_read_items behind (t ∷ more) = grows_then (steady_designate unit calls line same [] _)
      (λ s. grows_next (steady_unless _ _ _)
      (grows_then (steady_read_places line _ _ behind _) (λ now. steady_read_items now more)))

  pub steady_reads : (targets : List Target) → Steady (reads unit calls line targets)
  steady_reads targets = grows_then (steady_read_items false targets) (λ behind. steady_skip line behind)

-- ---- loops

grows_turn : {body more more' : Step Flow} → Steady body → Grows more more' → Grows (one_turn body more) (one_turn body more')
grows_turn h g = grows_next steady_turn (grows_then h (λ flow. grows_behind_turn flow g))

steady_counted : (n turns : ℕ) (i step : ℤ) {body : Step Flow} → Steady body → Steady (counted n turns i step body)
unfolding counted
steady_counted n zero i step h = grows_next (steady_store _ _ _) (steady_pure _)
steady_counted n (suc turns) i step h = grows_next (steady_store _ _ _) (grows_turn h (steady_counted n turns (i +ℤ step) step h))

-- without a turn left it ends, faults or waits
steady_last : {test : Step Bool} (body : Step Flow) → Steady test → Steady (while_true zero test body)
unfolding while_true
steady_last body h = grows_then h (λ go. grows_choose go (grows_waits tells_waits) (steady_pure _))

-- with one round more, too, since a round takes a turn
grows_while : (k : ℕ) {test : Step Bool} {body : Step Flow} → Steady test → Steady body → Grows (while_true k test body)
    (while_true (suc k) test body)
unfolding while_true
grows_while zero {body = body} h g = grows_then h
    (λ go. grows_choose go (grows_waits (grows_turn g (steady_last body h)).first) (steady_pure _))
grows_while (suc k) h g = grows_then h (λ go. grows_choose go (grows_turn g (grows_while k h g)) (steady_pure _))

-- ---- statements

module _ (unit : Program) (calls : Caller) (same : SteadyCalls calls) where
  steady_dimensions : (line : ℕ) (spans : List Span) → Steady (dimensions unit calls line spans)
  unfolding dimensions
  steady_dimensions line [] = steady_pure _
  steady_dimensions line (s ∷ more) = grows_then (steady_bound_or unit calls line same [] _ _)
      (λ lower. grows_then (steady_integer unit calls line same [] _)
      (λ upper. grows_then (steady_dimensions line more) (λ rest. steady_pure _)))

  steady_allocates : (line : ℕ) (objects : List Allocation) → Steady (allocates unit calls line objects)
  unfolding allocates
  steady_allocates line [] = steady_pure _
  steady_allocates line (a ∷ more) = grows_then (steady_dimensions line _)
      (λ bounds. grows_next (steady_unless _ _ _) (grows_then (steady_variable _)
      (λ v. grows_next (steady_unless _ _ _) (grows_next (steady_set _ _) (steady_allocates line more)))))

  steady_deallocates : (line : ℕ) (names : List ℕ) → Steady (deallocates unit calls line names)
  unfolding deallocates
  steady_deallocates line [] = steady_pure _
  steady_deallocates line (n ∷ more) = grows_then (steady_variable n)
      (λ v. grows_next (steady_allocated _ _) (grows_next (steady_set _ _) (steady_deallocates line more)))

  steady_ends : {m : Step (Unit {0})} → Steady m → Steady (ends unit calls m)
  steady_ends h = grows_next h (steady_pure _)

  mutual
    pub steady_acts : (s : Stmt) → Steady (acts unit calls s)
    steady_acts (Assigns a) = steady_ends (steady_assigned unit calls same None a)
    steady_acts (Masks w) = steady_ends (steady_where unit calls same None w)
    steady_acts (ForAll f) = steady_ends (steady_forall unit calls same f)
    steady_acts (Calls line (call p es)) = grows_then (steady_actuals unit calls line same [] es)
        (λ vs. grows_next (same _ _ _) (steady_pure _))
    steady_acts (Allocate line objects) = steady_ends (steady_allocates line objects)
    steady_acts (Deallocate line names) = steady_ends (steady_deallocates line names)
    steady_acts (Print line es) = steady_ends (steady_prints unit calls line same es)
    steady_acts (Read line targets) = steady_ends (steady_reads unit calls line same targets)
    steady_acts (If branches otherwise) = steady_branches branches (steady_all_act otherwise)
    steady_acts (Select line e cases otherwise) = grows_then (steady_evaluate unit calls line same [] e)
        (λ v. steady_cases _ cases (steady_all_act otherwise))
    steady_acts (Do line n first last step body) = grows_then (steady_integer unit calls line same [] first)
        (λ f. grows_then (steady_integer unit calls line same [] last)
        (λ l. grows_then (steady_bound_or unit calls line same [] _ step)
        (λ s. grows_next (steady_unless _ _ _) (steady_counted n _ f s (steady_all_act body)))))
    steady_acts (While line e body) = steady_turns_left
        (λ k. grows_while k (steady_truth unit calls line same [] e) (steady_all_act body))
    steady_acts (Forever line body) = steady_turns_left (λ k. grows_while k (steady_pure true) (steady_all_act body))
    steady_acts (Exit line out) = steady_pure _
    steady_acts (Cycle line out) = steady_pure _
    steady_acts (Return line) = steady_pure _
    steady_acts (Stop line) = steady_stopped

    pub steady_all_act : (body : Stmts) → Steady (all_act unit calls body)
    steady_all_act no_stmt = steady_pure _
    steady_all_act (stmt s more) = grows_then (steady_acts s) (λ flow. steady_behind flow (steady_all_act more))

    steady_branches : (branches : Branches) {otherwise : Step Flow} → Steady otherwise → Steady
        (branch_acts unit calls branches otherwise)
    steady_branches no_branch h = h
    steady_branches (branch line e body more) h = grows_then (steady_truth unit calls line same [] e)
        (λ b. grows_choose b (steady_all_act body) (steady_branches more h))

    steady_cases : (x : Scalar) (cases : Cases) {otherwise : Step Flow} → Steady otherwise → Steady
        (case_acts unit calls x cases otherwise)
    steady_cases x no_case h = h
    steady_cases x (case ranges body more) h = grows_choose _ (steady_all_act body) (steady_cases x more h)

  -- ---- declarations

  steady_lowers : (line : ℕ) (lowers : List Bound) → Steady (lower_bounds unit calls line lowers)
  unfolding lower_bounds
  steady_lowers line [] = steady_pure _
  steady_lowers line (b ∷ more) = grows_then (steady_bound_or unit calls line same [] _ _)
      (λ l. grows_then (steady_lowers line more) (λ rest. steady_pure _))

  steady_bounds : (call_line line n : ℕ) (actual : Value) (bounds : Bounds) → Steady
      (bounds_act unit calls call_line line n actual bounds)
  steady_bounds call_line line n actual (Explicit spans) = grows_then (steady_dimensions line spans)
      (λ bounds. grows_next (steady_unless _ _ _) (grows_then (steady_variable n) (λ v. steady_set _ _)))
  steady_bounds call_line line n actual (Assumed lowers) = grows_then (steady_lowers line lowers)
      (λ ls. grows_then (steady_variable n) (λ v. steady_set _ _))
  steady_bounds call_line line n actual Scalars = steady_pure _
  steady_bounds call_line line n actual (Deferred rank) = steady_pure _

  steady_own : (line n : ℕ) (of : DeclaredType) (bounds : Bounds) → Steady (own_acts unit calls line n of bounds)
  steady_own line n of (Explicit spans) = grows_then (steady_dimensions line spans)
      (λ bounds. grows_next (steady_unless _ _ _) (steady_set _ _))
  steady_own line n of (Assumed lowers) = steady_pure _
  steady_own line n of Scalars = steady_pure _
  steady_own line n of (Deferred rank) = steady_pure _

  steady_declaration : (call_line : ℕ) (actuals : Actuals) (n : ℕ) (r : Role) (of : DeclaredType) (bounds : Bounds) (line : ℕ)
      → Steady (declaration_acts unit calls call_line actuals n r of bounds line)
  steady_declaration call_line actuals n (role.Dummy place i) of bounds line = grows_next (steady_unless _ _ _)
      (steady_bounds call_line line n (passed_at actuals place).value bounds)
  steady_declaration call_line actuals n role.Own of bounds line = steady_own line n of bounds

  steady_declarations : (call_line : ℕ) (actuals : Actuals) (n : ℕ) (entities : List Entity) → Steady
      (declarations_act unit calls call_line actuals n entities)
  unfolding declarations_act
  steady_declarations call_line actuals n [] = steady_pure _
  steady_declarations call_line actuals n (e ∷ more) = grows_next (steady_declaration _ _ _ e.role e.of e.bounds e.line)
      (steady_declarations call_line actuals (suc n) more)

  steady_initial : (line n : ℕ) (e : Option Expr) → Steady (initial_acts unit calls line n e)
  steady_initial line n None = steady_pure _
  steady_initial line n (Some e) = steady_assigned unit calls same None (initial_of unit calls line n e)

  steady_initials : (n : ℕ) (entities : List Entity) → Steady (initials_act unit calls n entities)
  unfolding initials_act
  steady_initials n [] = steady_pure _
  steady_initials n (e ∷ more) = grows_next (steady_initial e.line n e.initial) (steady_initials (suc n) more)

  pub steady_body : (call_line : ℕ) (actuals : Actuals) (q : Procedure) → Steady (body_acts unit calls call_line actuals q)
  steady_body call_line actuals q = grows_next (steady_declarations _ _ _ _)
      (grows_next (steady_initials _ _) (grows_next (steady_all_act _) (steady_pure _)))

-- ---- calls

steady_copy : (modified : Bool) (xs : List Scalar) (section : Option Section) → Steady (copy_back modified xs section)
steady_copy true xs (Some s) = steady_store _ _ _
steady_copy true xs None = steady_pure _
steady_copy false xs section = steady_pure _

steady_copies : (own : List Variable) (entities : List Entity) (actuals : Actuals) → Steady (copies_back own entities actuals)
unfolding copies_back
steady_copies (v ∷ own) (e ∷ entities) actuals = grows_next (steady_copy _ _ _) (steady_copies own entities actuals)
steady_copies [] entities actuals = steady_pure _
steady_copies (v ∷ own) [] actuals = steady_pure _

steady_entered : (unit : Program) (calls : Caller) → SteadyCalls calls → (q : Procedure) (line : ℕ) (actuals : Actuals)
    → Steady (entered unit calls q line actuals)
steady_entered unit calls same q line actuals = grows_next steady_turn
    (grows_then (grows_inside _ (steady_body unit calls same line actuals q))
    (λ own. grows_next (steady_copies own _ actuals) (steady_pure _)))

pub steady_called : (unit : Program) (depth : ℕ) → SteadyCalls (called unit depth)
steady_called unit zero p line actuals = grows_next (steady_unless _ _ _) (steady_fault _ _)
steady_called unit (suc depth) p line actuals = grows_next (steady_unless _ _ _)
    (steady_entered unit (called unit depth) (steady_called unit depth) (procedure_at unit p) line actuals)

-- ---- runs

stays_refl_by : (outcome : Outcome Ending) (run : Run Ending) → StaysBy outcome run run
stays_refl_by (Finished how) run = refl
stays_refl_by Going run = prefix_refl run.written

stays_refl : (run : Run Ending) → Stays run run
stays_refl run = stays_refl_by run.outcome run

-- with more turns no less is written
written_by : (outcome : Outcome Ending) (run longer : Run Ending) → StaysBy outcome run longer → IsPrefix run.written longer.written
written_by (Finished how) run longer h = rw h (prefix_refl run.written)
written_by Going run longer h = h

stays_trans_by : (outcome : Outcome Ending) (run longer longest : Run Ending) → StaysBy outcome run longer
    → StaysBy longer.outcome longer longest
    → run.outcome ≡ outcome → StaysBy outcome run longest
stays_trans_by (Finished how) run longer longest h g e = subst (λ o. StaysBy o run longest) e
    (subst (λ r. StaysBy r.outcome r longest) h g)
stays_trans_by Going run longer longest h g e = prefix_trans h (written_by longer.outcome longer longest g)

stays_trans : (run longer longest : Run Ending) → Stays run longer → Stays longer longest → Stays run longest
stays_trans run longer longest h g = stays_trans_by run.outcome run longer longest h g refl

same_stays : (came : Result (Unit {0}) Halt) (s : State) (came' : Result (Unit {0}) Halt) (s' : State) → SameBy came s came' s'
    → StaysBy (outcome_of came) (run_of (record { came = came; after = s })) (run_of (record { came = came'; after = s' }))
same_stays (Ok done) s came' s' h = rw (h.0, h.1)
same_stays (Err Stopped) s came' s' h = rw (h.0, h.1)
same_stays (Err (Faults kind line)) s came' s' h = rw (h.0, h.1)
same_stays (Err OutOfTurns) s came' s' h = h

steady_main : (unit : Program) → Steady (main_acts unit)
steady_main unit = steady_body unit (called unit most_calls) (steady_called unit most_calls) 0 [] unit.main

one_turn_more : (unit : Program) (input : List ℕ) (turns : ℕ) → Stays (source_run unit input turns)
    (source_run unit input (suc turns))
one_turn_more unit input turns = same_stays (main_acts unit (start unit input turns)).came
    (main_acts unit (start unit input turns)).after
    (main_acts unit (start unit input (suc turns))).came (main_acts unit (start unit input (suc turns))).after
    ((steady_main unit).grows (start unit input turns))

turns_more : (unit : Program) (input : List ℕ) (turns k : ℕ) → Stays (source_run unit input turns)
    (source_run unit input (k + turns))
turns_more unit input turns zero = let e : 0 + turns ≡ turns = omega arith in rw e (stays_refl (source_run unit input turns))
turns_more unit input turns (suc k) = let e : suc k + turns ≡ suc (k + turns) = omega arith in
    rw e (stays_trans (source_run unit input turns) (source_run unit input (k + turns)) (source_run unit input (suc (k + turns)))
    (turns_more unit input turns k) (one_turn_more unit input (k + turns)))

pub more_turns : MoreTurns
more_turns unit input turns longer h = let e : (longer - turns) + turns ≡ longer = omega arith in rw e at
    (turns_more unit input turns (longer - turns))
