-- A pure procedure reads and writes nothing, whatever it calls; a call of a pure function takes turns alone.
use Rattle.std.proofs.Common.{◌≡◌, refl, ap, ◌∙◌, ℕ, ℤ, zero, suc, ◌+ℤ◌, Bool, true, false, List, [], ◌∷◌, arith}
use Rattle.std.specs.Prelude.{map, Option, Some, None}
use Rattle.std.proofs.Math.Nat.{le_refl, le_trans}
use Rattle.a95_base.specs.Lists.{Every}
use Rattle.a95_base.specs.declared.scalar.Scalar.{Scalar}
use Rattle.a95_base.specs.Steps.{pure}
use Rattle.f95_unit.specs.declared.unit.DeclaredType.{DeclaredType}
use Rattle.f95_unit.specs.declared.unit.Role.{Role}
use Rattle.f95_unit.specs.declared.unit.Role.TheVariants as role
use Rattle.f95_unit.specs.Plain.{Expr, Bound, Span, Allocation, Assign, Where, masked, MaskedBody, no_masked, assigning, narrowed}
use Rattle.f95_unit.specs.Plain.{Others, no_other, elsewhere, Triplet, Forall, call, Stmt, Assigns, Masks, ForAll, Calls, Allocate}
use Rattle.f95_unit.specs.Plain.{Deallocate, Print, Read, If, Select, Do, While, Forever, Exit, Cycle, Return, Stop, Stmts, no_stmt}
use Rattle.f95_unit.specs.Plain.{stmt, Branches, no_branch, branch, Cases, no_case, case, Bounds, Scalars, Explicit, Assumed}
use Rattle.f95_unit.specs.Plain.{Deferred, Entity, Procedure, Program}
use Rattle.array_meaning.specs.Values.{Value}
use Rattle.array_meaning.specs.State.{State, Step, Substring, Variable, set_variable, store_all, turns_left, inside}
use Rattle.array_meaning.specs.Sections.{Section}
use Rattle.array_meaning.specs.Trees.{Tree, Passed, Caller}
use Rattle.array_meaning.specs.Expressions.{procedure_at}
use Rattle.array_meaning.specs.Assignments.{Control, with_truths, both, but_not, assigned, control_of, mask_truths, where_acts}
use Rattle.array_meaning.specs.Assignments.{masked_act, others_act, index_lists, active_of, active, one_combination}
use Rattle.array_meaning.specs.Assignments.{each_combination, indexed, forall_acts}
use Rattle.array_meaning.specs.Control.{Flow, Next, Exits, Cycles, Returns, behind, behind_turn, one_turn, counted, while_true}
use Rattle.array_meaning.specs.Control.{dimensions, allocates, deallocates, ends, acts, all_act, branch_acts, case_acts}
use Rattle.array_meaning.specs.Calls.{Actuals, passed_at, is_out, lower_bounds, bounds_act, own_acts, declaration_acts}
use Rattle.array_meaning.specs.Calls.{declarations_act, initial_of, initial_acts, initials_act, body_acts, copy_back, copies_back}
use Rattle.array_meaning.specs.Calls.{called}
use Rattle.array_meaning.specs.Purity.{RefersBound, RefersMaybe, IsPure, IsPureFunction, PureAssign, PureWhere, PureMasked}
use Rattle.array_meaning.specs.Purity.{PureOthers, PureTriplet, PureForall, PureSpan, PureAllocation, PureStmt, PureStmts}
use Rattle.array_meaning.specs.Purity.{PureBranches, PureCases, PureBounds, PureEntity, KeepsPure, Still, TurnsAlone, Changes}
use Rattle.array_meaning.specs.Purity.{PureCallsAreStill, PureFunctionsTakeTurns}
use Rattle.array_meaning.proofs.Kept.{Preorder, Keeps, Any, CallsIn, keeps_then, keeps_next, keeps_choose, kept, keeps_fault}
use Rattle.array_meaning.proofs.Kept.{keeps_stop, keeps_unless, keeps_given, keeps_allocated, keeps_variable, keeps_turn}
use Rattle.array_meaning.proofs.Kept.{keeps_call, keeps_all, keeps_masked, keeps_prepare, keeps_actuals, keeps_designate}
use Rattle.array_meaning.proofs.Kept.{keeps_bound_or, keeps_evaluate, keeps_integer, keeps_truth}

-- ---- the two relations

abbrev still : Preorder
still = record {
  relation = Still;
  same = λ s. (refl, refl, le_refl s.left);
  join = λ a b c h g. (g.0 ∙ h.0, g.1 ∙ h.1, le_trans g.2 h.2);
  turns = λ s n e. (refl, refl, omega arith);
}

abbrev pub turns_alone : Preorder
turns_alone = record {
  relation = TurnsAlone;
  same = λ s. (refl, le_refl s.left);
  join = λ a b c h g. (g.0 ∙ ap (λ (x : State). record x { left = c.left }) h.0, le_trans g.1 h.1);
  turns = λ s n e. (refl, omega arith);
}

-- ---- steps on variables

keeps_set : (n : ℕ) (v : Variable) → Keeps still Any (set_variable n v)
unfolding set_variable pure
keeps_set n v = record { goes = λ s. (refl, refl, le_refl s.left); gives = λ s b e. tt }

keeps_store : (n : ℕ) (bytes : Substring) (stores : List (ℕ × Scalar)) → Keeps still Any (store_all n bytes stores)
unfolding store_all set_variable pure
keeps_store n bytes stores = record { goes = λ s. (refl, refl, le_refl s.left); gives = λ s b e. tt }

keeps_turns_left : {A : Type 0} {f : ℕ → Step A} → ((k : ℕ) → Keeps still Any (f k)) → Keeps still Any (turns_left f)
unfolding turns_left
keeps_turns_left h = record { goes = λ s. (h s.left).goes s; gives = λ s b e. tt }

-- ---- loops

keeps_behind : (flow : Flow) {more : Step Flow} → Keeps still Any more → Keeps still Any (behind flow more)
keeps_behind Next h = h
keeps_behind (Exits out) h = kept still _
keeps_behind (Cycles out) h = kept still _
keeps_behind Returns h = kept still _

keeps_behind_turn : (flow : Flow) {more : Step Flow} → Keeps still Any more → Keeps still Any (behind_turn flow more)
keeps_behind_turn Next h = h
keeps_behind_turn (Cycles zero) h = h
keeps_behind_turn (Cycles (suc out)) h = kept still _
keeps_behind_turn (Exits zero) h = kept still _
keeps_behind_turn (Exits (suc out)) h = kept still _
keeps_behind_turn Returns h = kept still _

keeps_one_turn : {body more : Step Flow} → Keeps still Any body → Keeps still Any more → Keeps still Any (one_turn body more)
keeps_one_turn h g = keeps_next still (keeps_turn still) (keeps_then still h (λ flow p. keeps_behind_turn flow g))

keeps_counted : (n turns : ℕ) (i step : ℤ) {body : Step Flow} → Keeps still Any body → Keeps still Any (counted n turns i step body)
unfolding counted
keeps_counted n zero i step h = keeps_next still (keeps_store _ _ _) (kept still _)
keeps_counted n (suc turns) i step h = keeps_next still (keeps_store _ _ _)
    (keeps_one_turn h (keeps_counted n turns (i +ℤ step) step h))

keeps_while : (k : ℕ) {test : Step Bool} {body : Step Flow} → Keeps still Any test → Keeps still Any body → Keeps still Any
    (while_true k test body)
unfolding while_true
keeps_while zero h g = keeps_then still h (λ go p. keeps_choose still go (keeps_stop still _) (kept still _))
keeps_while (suc k) h g = keeps_then still h (λ go p. keeps_choose still go (keeps_one_turn g (keeps_while k h g)) (kept still _))

-- ---- statements, where calls of pure procedures are still

module _ (unit : Program) (calls : Caller)
    (goes : (p : ℕ) → IsPure unit p → (line : ℕ) (actuals : List (ℕ × Passed)) → Changes Still (calls p line actuals)) where
  goes_function : (p : ℕ) → IsPureFunction unit p → (line : ℕ) (actuals : List (ℕ × Passed)) → Changes Still (calls p line actuals)
  goes_function p h = goes p h.0

  abbrev F : ℕ → Type 0
  F = IsPureFunction unit

  keeps_assigned : (control : Option Control) (a : Assign) → PureAssign unit a → Keeps still Any (assigned unit calls control a)
  keeps_assigned control a h = keeps_then still (keeps_prepare still F calls goes_function a.line unit [] a.value h.0)
      (λ t p. keeps_then still (keeps_designate still F calls goes_function a.line unit [] _ h.1)
      (λ s q. keeps_next still (keeps_given still _ _)
      (keeps_next still (keeps_unless still _ _ _) (keeps_next still (keeps_unless still _ _ _)
      (keeps_then still (keeps_masked still F calls goes_function a.line _ _ t p) (λ xs q. keeps_store _ _ _))))))

  keeps_control : (line : ℕ) (around : Option Control) (t : Tree) → Keeps still Any (control_of unit calls line around t)
  keeps_control line None t = keeps_then still (keeps_given still _ _) (λ extents p. kept still _)
  keeps_control line (Some c) t = keeps_then still (keeps_given still _ _)
      (λ extents p. keeps_next still (keeps_unless still _ _ _) (kept still _))

  keeps_mask : (line : ℕ) (c : Control) (t : Tree) → CallsIn F t → Keeps still Any (mask_truths unit calls line c t)
  keeps_mask line c t h = keeps_then still (keeps_masked still F calls goes_function line _ _ t h) (λ xs p. kept still _)

  mutual
    keeps_where : (around : Option Control) (w : Where) → PureWhere unit w → Keeps still Any (where_acts unit calls around w)
    keeps_where around (masked line mask body others) h = keeps_then still
        (keeps_prepare still F calls goes_function line unit [] mask h.0) (λ t p. keeps_then still (keeps_control line around t)
        (λ c q. keeps_then still (keeps_mask line c t p)
        (λ truths q. keeps_next still (keeps_masked_act (with_truths c (both c.truths truths)) body h.1)
        (keeps_others (with_truths c (but_not c.truths truths)) others h.2))))

    keeps_masked_act : (c : Control) (body : MaskedBody) → PureMasked unit body → Keeps still Any (masked_act unit calls c body)
    keeps_masked_act c no_masked h = kept still _
    keeps_masked_act c (assigning a more) h = keeps_next still (keeps_assigned (Some c) a h.0) (keeps_masked_act c more h.1)
    keeps_masked_act c (narrowed w more) h = keeps_next still (keeps_where (Some c) w h.0) (keeps_masked_act c more h.1)

    keeps_others : (pending : Control) (others : Others) → PureOthers unit others → Keeps still Any
        (others_act unit calls pending others)
    keeps_others pending no_other h = kept still _
    keeps_others pending (elsewhere line None body more) h = keeps_next still (keeps_masked_act pending body h.1)
        (keeps_others (with_truths pending (map (λ b. false) pending.truths)) more h.2)
    keeps_others pending (elsewhere line (Some mask) body more) h = keeps_then still
        (keeps_prepare still F calls goes_function line unit [] mask h.0)
        (λ t p. keeps_then still (keeps_control line (Some pending) t)
        (λ c q. keeps_then still (keeps_mask line c t p)
        (λ truths q. keeps_next still (keeps_masked_act (with_truths c (both c.truths truths)) body h.1)
        (keeps_others (with_truths c (but_not c.truths truths)) more h.2))))

  keeps_lists : (line : ℕ) (triplets : List Triplet) → Every (PureTriplet unit) triplets → Keeps still Any
      (index_lists unit calls line triplets)
  unfolding index_lists
  keeps_lists line [] h = kept still _
  keeps_lists line (t ∷ more) h = keeps_then still (keeps_integer still F calls goes_function line unit [] _ h.0.0)
      (λ f p. keeps_then still (keeps_integer still F calls goes_function line unit [] _ h.0.1)
      (λ l p. keeps_then still (keeps_bound_or still F calls goes_function line unit [] _ _ h.0.2)
      (λ s p. keeps_next still (keeps_unless still _ _ _)
      (keeps_then still (keeps_lists line more h.1) (λ lists p. kept still _)))))

  keeps_active_of : (line : ℕ) (mask : Expr) → RefersMaybe F (Some mask) → (combinations : List (List ℤ)) → Keeps still Any
      (active_of unit calls line mask combinations)
  unfolding active_of
  keeps_active_of line mask h [] = kept still _
  keeps_active_of line mask h (ix ∷ more) = keeps_then still (keeps_truth still F calls goes_function line unit ix mask h)
      (λ b p. keeps_then still (keeps_active_of line mask h more) (λ active p. kept still _))

  keeps_active : (line : ℕ) (mask : Option Expr) → RefersMaybe F mask → (combinations : List (List ℤ)) → Keeps still Any
      (active unit calls line mask combinations)
  keeps_active line None h combinations = kept still _
  keeps_active line (Some mask) h combinations = keeps_active_of line mask h combinations

  keeps_combination : (all : ℕ) (a : Assign) → PureAssign unit a → (ix : List ℤ) → Keeps still Any
      (one_combination unit calls all a ix)
  keeps_combination all a h ix = keeps_then still (keeps_prepare still F calls goes_function a.line unit ix a.value h.0)
      (λ t p. keeps_then still (keeps_designate still F calls goes_function a.line unit ix _ h.1)
      (λ s q. keeps_next still (keeps_given still _ _)
      (keeps_next still (keeps_unless still _ _ _)
      (keeps_then still (keeps_all still F calls goes_function a.line _ _ t p) (λ xs q. kept still _)))))

  keeps_combinations : (all : ℕ) (a : Assign) → PureAssign unit a → (combinations : List (List ℤ)) → Keeps still Any
      (each_combination unit calls all a combinations)
  unfolding each_combination
  keeps_combinations all a h [] = kept still _
  keeps_combinations all a h (ix ∷ more) = keeps_then still (keeps_combination all a h ix)
      (λ stores p. keeps_then still (keeps_combinations all a h more) (λ rest p. kept still _))

  keeps_indexed : (all : ℕ) (combinations : List (List ℤ)) (body : List Assign) → Every (PureAssign unit) body
      → Keeps still Any (indexed unit calls all combinations body)
  unfolding indexed
  keeps_indexed all combinations [] h = kept still _
  keeps_indexed all combinations (a ∷ more) h = keeps_then still (keeps_combinations all a h.0 combinations)
      (λ stores p. keeps_next still (keeps_unless still _ _ _)
      (keeps_next still (keeps_store _ _ _) (keeps_indexed all combinations more h.1)))

  keeps_forall : (f : Forall) → PureForall unit f → Keeps still Any (forall_acts unit calls f)
  keeps_forall f h = keeps_then still (keeps_lists _ _ h.0)
      (λ lists p. keeps_next still (keeps_unless still _ _ _)
      (keeps_then still (keeps_active _ f.mask h.1 _) (λ combinations p. keeps_indexed _ combinations _ h.2)))

  keeps_dimensions : (line : ℕ) (spans : List Span) → Every (PureSpan unit) spans → Keeps still Any
      (dimensions unit calls line spans)
  unfolding dimensions
  keeps_dimensions line [] h = kept still _
  keeps_dimensions line (s ∷ more) h = keeps_then still (keeps_bound_or still F calls goes_function line unit [] _ _ h.0.0)
      (λ lower p. keeps_then still (keeps_integer still F calls goes_function line unit [] _ h.0.1)
      (λ upper p. keeps_then still (keeps_dimensions line more h.1) (λ rest p. kept still _)))

  keeps_allocates : (line : ℕ) (objects : List Allocation) → Every (PureAllocation unit) objects → Keeps still Any
      (allocates unit calls line objects)
  unfolding allocates
  keeps_allocates line [] h = kept still _
  keeps_allocates line (a ∷ more) h = keeps_then still (keeps_dimensions line _ h.0)
      (λ bounds p. keeps_next still (keeps_unless still _ _ _) (keeps_then still (keeps_variable still _)
      (λ v p. keeps_next still (keeps_unless still _ _ _) (keeps_next still (keeps_set _ _) (keeps_allocates line more h.1)))))

  keeps_deallocates : (line : ℕ) (names : List ℕ) → Keeps still Any (deallocates unit calls line names)
  unfolding deallocates
  keeps_deallocates line [] = kept still _
  keeps_deallocates line (n ∷ more) = keeps_then still (keeps_variable still n)
      (λ v p. keeps_next still (keeps_allocated still _ _) (keeps_next still (keeps_set _ _) (keeps_deallocates line more)))

  keeps_ends : {m : Step (Unit {0})} → Keeps still Any m → Keeps still Any (ends unit calls m)
  keeps_ends h = keeps_next still h (kept still _)

  mutual
    keeps_acts : (s : Stmt) → PureStmt unit s → Keeps still Any (acts unit calls s)
    keeps_acts (Assigns a) h = keeps_ends (keeps_assigned None a h)
    keeps_acts (Masks w) h = keeps_ends (keeps_where None w h)
    keeps_acts (ForAll f) h = keeps_ends (keeps_forall f h)
    keeps_acts (Calls line (call p es)) h = keeps_then still (keeps_actuals still F calls goes_function line unit [] es h.1)
        (λ vs q. keeps_next still (keeps_call still (goes p h.0 _ _)) (kept still _))
    keeps_acts (Allocate line objects) h = keeps_ends (keeps_allocates line objects h)
    keeps_acts (Deallocate line names) h = keeps_ends (keeps_deallocates line names)
    keeps_acts (Print line es) h = absurd h
    keeps_acts (Read line targets) h = absurd h
    keeps_acts (If branches otherwise) h = keeps_branches branches h.0 (keeps_all_act otherwise h.1)
    keeps_acts (Select line e cases otherwise) h = keeps_then still
        (keeps_evaluate still F calls goes_function line unit [] e h.0)
        (λ v p. keeps_cases _ cases h.1 (keeps_all_act otherwise h.2))
    keeps_acts (Do line n first last step body) h = keeps_then still
        (keeps_integer still F calls goes_function line unit [] first h.0)
        (λ f p. keeps_then still (keeps_integer still F calls goes_function line unit [] last h.1)
        (λ l p. keeps_then still (keeps_bound_or still F calls goes_function line unit [] _ step h.2)
        (λ s p. keeps_next still (keeps_unless still _ _ _) (keeps_counted n _ f s (keeps_all_act body h.3)))))
    keeps_acts (While line e body) h = keeps_turns_left
        (λ k. keeps_while k (keeps_truth still F calls goes_function line unit [] e h.0) (keeps_all_act body h.1))
    keeps_acts (Forever line body) h = keeps_turns_left (λ k. keeps_while k (kept still true) (keeps_all_act body h))
    keeps_acts (Exit line out) h = kept still _
    keeps_acts (Cycle line out) h = kept still _
    keeps_acts (Return line) h = kept still _
    keeps_acts (Stop line) h = absurd h

    keeps_all_act : (body : Stmts) → PureStmts unit body → Keeps still Any (all_act unit calls body)
    keeps_all_act no_stmt h = kept still _
    keeps_all_act (stmt s more) h = keeps_then still (keeps_acts s h.0) (λ flow p. keeps_behind flow (keeps_all_act more h.1))

    keeps_branches : (branches : Branches) {otherwise : Step Flow} → PureBranches unit branches → Keeps still Any otherwise
        → Keeps still Any (branch_acts unit calls branches otherwise)
    keeps_branches no_branch h g = g
    keeps_branches (branch line e body more) h g = keeps_then still
        (keeps_truth still F calls goes_function line unit [] e h.0)
        (λ b p. keeps_choose still b (keeps_all_act body h.1) (keeps_branches more h.2 g))

    keeps_cases : (x : Scalar) (cases : Cases) {otherwise : Step Flow} → PureCases unit cases → Keeps still Any otherwise
        → Keeps still Any (case_acts unit calls x cases otherwise)
    keeps_cases x no_case h g = g
    keeps_cases x (case ranges body more) h g = keeps_choose still _ (keeps_all_act body h.0) (keeps_cases x more h.1 g)

  -- ---- declarations

  keeps_lowers : (line : ℕ) (lowers : List Bound) → Every (RefersBound F) lowers → Keeps still Any
      (lower_bounds unit calls line lowers)
  unfolding lower_bounds
  keeps_lowers line [] h = kept still _
  keeps_lowers line (b ∷ more) h = keeps_then still (keeps_bound_or still F calls goes_function line unit [] _ _ h.0)
      (λ l p. keeps_then still (keeps_lowers line more h.1) (λ rest p. kept still _))

  keeps_bounds : (call_line line n : ℕ) (actual : Value) (bounds : Bounds) → PureBounds unit bounds → Keeps still Any
      (bounds_act unit calls call_line line n actual bounds)
  keeps_bounds call_line line n actual (Explicit spans) h = keeps_then still (keeps_dimensions line spans h)
      (λ bounds p. keeps_next still (keeps_unless still _ _ _) (keeps_then still (keeps_variable still n) (λ v p. keeps_set _ _)))
  keeps_bounds call_line line n actual (Assumed lowers) h = keeps_then still (keeps_lowers line lowers h)
      (λ ls p. keeps_then still (keeps_variable still n) (λ v p. keeps_set _ _))
  keeps_bounds call_line line n actual Scalars h = kept still _
  keeps_bounds call_line line n actual (Deferred rank) h = kept still _

  keeps_own : (line n : ℕ) (of : DeclaredType) (bounds : Bounds) → PureBounds unit bounds → Keeps still Any
      (own_acts unit calls line n of bounds)
  keeps_own line n of (Explicit spans) h = keeps_then still (keeps_dimensions line spans h)
      (λ bounds p. keeps_next still (keeps_unless still _ _ _) (keeps_set _ _))
  keeps_own line n of (Assumed lowers) h = kept still _
  keeps_own line n of Scalars h = kept still _
  keeps_own line n of (Deferred rank) h = kept still _

  keeps_declaration : (call_line : ℕ) (actuals : Actuals) (n : ℕ) (r : Role) (of : DeclaredType) (bounds : Bounds) (line : ℕ)
      → PureBounds unit bounds
      → Keeps still Any (declaration_acts unit calls call_line actuals n r of bounds line)
  keeps_declaration call_line actuals n (role.Dummy place i) of bounds line h = keeps_next still (keeps_unless still _ _ _)
      (keeps_bounds call_line line n (passed_at actuals place).value bounds h)
  keeps_declaration call_line actuals n role.Own of bounds line h = keeps_own line n of bounds h

  keeps_declarations : (call_line : ℕ) (actuals : Actuals) (n : ℕ) (entities : List Entity) → Every (PureEntity unit) entities
      → Keeps still Any (declarations_act unit calls call_line actuals n entities)
  unfolding declarations_act
  keeps_declarations call_line actuals n [] h = kept still _
  keeps_declarations call_line actuals n (e ∷ more) h = keeps_next still
      (keeps_declaration call_line actuals n e.role e.of e.bounds e.line h.0.0)
      (keeps_declarations call_line actuals (suc n) more h.1)

  keeps_initial : (line n : ℕ) (e : Option Expr) → RefersMaybe F e → Keeps still Any (initial_acts unit calls line n e)
  keeps_initial line n None h = kept still _
  keeps_initial line n (Some e) h = keeps_assigned None (initial_of unit calls line n e) (h, (tt, tt))

  keeps_initials : (n : ℕ) (entities : List Entity) → Every (PureEntity unit) entities → Keeps still Any
      (initials_act unit calls n entities)
  unfolding initials_act
  keeps_initials n [] h = kept still _
  keeps_initials n (e ∷ more) h = keeps_next still (keeps_initial e.line n e.initial h.0.1) (keeps_initials (suc n) more h.1)

  keeps_body : (call_line : ℕ) (actuals : Actuals) (q : Procedure) → Every (PureEntity unit) q.entities
      → PureStmts unit q.body → Keeps still Any (body_acts unit calls call_line actuals q)
  keeps_body call_line actuals q h g = keeps_next still (keeps_declarations call_line actuals 0 q.entities h)
      (keeps_next still (keeps_initials 0 q.entities h) (keeps_next still (keeps_all_act q.body g) (kept still _)))

-- ---- calls

keeps_inside : (own : List Variable) (body : Step (Unit {0})) → Changes Still body → Keeps still Any (inside own body)
unfolding inside
keeps_inside own body h = record { goes = λ s. h (record s { variables = own }); gives = λ s b e. tt }

-- what is still inside takes turns alone outside
turns_inside : (own : List Variable) (body : Step (Unit {0})) → Changes Still body → Keeps turns_alone Any (inside own body)
unfolding inside
turns_inside own body h = record {
  goes = λ s. turns_of s (body (record s { variables = own })).after (h (record s { variables = own }));
  gives = λ s b e. tt;
}
  where
    turns_of : (s after : State) → Still (record s { variables = own }) after → TurnsAlone s
        (record after { variables = s.variables })
    turns_of s after k = (λ i. record { variables = s.variables; input = k.0 i; written = k.1 i; left = after.left }, k.2)

keeps_copy : (modified : Bool) (xs : List Scalar) (section : Option Section) → Keeps still Any (copy_back modified xs section)
keeps_copy true xs (Some s) = keeps_store _ _ _
keeps_copy true xs None = kept still _
keeps_copy false xs section = kept still _

keeps_copies : (own : List Variable) (entities : List Entity) (actuals : Actuals) → Keeps still Any
    (copies_back own entities actuals)
unfolding copies_back
keeps_copies (v ∷ own) (e ∷ entities) actuals = keeps_next still (keeps_copy _ _ _) (keeps_copies own entities actuals)
keeps_copies [] entities actuals = kept still _
keeps_copies (v ∷ own) [] actuals = kept still _

-- where no dummy is modified nothing is copied back
no_copy : (modified : Bool) (xs : List Scalar) (section : Option Section) → modified ≡ false → Keeps turns_alone Any
    (copy_back modified xs section)
no_copy false xs section h = kept turns_alone _
no_copy true xs section h = cc

no_copies : (own : List Variable) (entities : List Entity) (actuals : Actuals) → Every
    (λ (e : Entity). is_out e.role ≡ false) entities
    → Keeps turns_alone Any (copies_back own entities actuals)
unfolding copies_back
no_copies (v ∷ own) (e ∷ entities) actuals h = keeps_next turns_alone (no_copy _ _ _ h.0) (no_copies own entities actuals h.1)
no_copies [] entities actuals h = kept turns_alone _
no_copies (v ∷ own) [] actuals h = kept turns_alone _

still_called : (unit : Program) → KeepsPure unit → (depth p : ℕ) → IsPure unit p → (line : ℕ) (actuals : Actuals)
    → Keeps still Any (called unit depth p line actuals)
still_called unit h zero p is line actuals = keeps_next still (keeps_unless still _ _ _) (keeps_fault still _ _)
still_called unit h (suc depth) p is line actuals = keeps_next still (keeps_unless still _ _ _) (keeps_next still (keeps_turn still)
    (keeps_then still (keeps_inside _ (body_acts unit (called unit depth) line actuals (procedure_at unit p))
    (keeps_body unit (called unit depth) (λ r pure l vs. (still_called unit h depth r pure l vs).goes) line actuals
    (procedure_at unit p) (h p is).0 (h p is).1).goes)
    (λ own q. keeps_next still (keeps_copies own _ actuals) (kept still _))))

turns_called : (unit : Program) → KeepsPure unit → (depth p : ℕ) → IsPureFunction unit p → (line : ℕ) (actuals : Actuals)
    → Keeps turns_alone Any (called unit depth p line actuals)
turns_called unit h zero p is line actuals = keeps_next turns_alone (keeps_unless turns_alone _ _ _) (keeps_fault turns_alone _ _)
turns_called unit h (suc depth) p is line actuals = keeps_next turns_alone (keeps_unless turns_alone _ _ _)
    (keeps_next turns_alone (keeps_turn turns_alone)
    (keeps_then turns_alone
    (turns_inside _ (body_acts unit (called unit depth) line actuals (procedure_at unit p))
    (keeps_body unit (called unit depth) (λ r pure l vs. (still_called unit h depth r pure l vs).goes) line actuals
    (procedure_at unit p) (h p is.0).0 (h p is.0).1).goes)
    (λ own q. keeps_next turns_alone (no_copies own _ actuals is.1) (kept turns_alone _))))

pub pure_calls_are_still : PureCallsAreStill
pure_calls_are_still unit h depth p line actuals is = (still_called unit h depth p is line actuals).goes

pub pure_functions_take_turns : PureFunctionsTakeTurns
pure_functions_take_turns unit h depth p line actuals is = (turns_called unit h depth p is line actuals).goes
