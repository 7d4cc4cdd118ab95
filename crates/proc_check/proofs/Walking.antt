-- The walk through a unit keeps the first break of its list.
use Rattle.std.proofs.Common.{ℕ, Bool, true, false, ◌&&◌, List, [], ◌∷◌, ◌++◌, refl, sym, ap, ◌∙◌, ◌≡◌, Option, Some, None, fold}
use Rattle.std.proofs.Common.{flat_map, cond}
use Rattle.std.proofs.lemmas.List.Sums.{fold-append}
use Rattle.std.proofs.lemmas.List.Folds.{fold-map}
use Rattle.a95_base.specs.declared.breaks.Break.{Break}
use Rattle.a95_base.specs.Breaks.{comes_first, first_from, first_of}
use Rattle.a95_base.specs.Rules.{wrong_arguments, wrong_out_argument, not_pure, not_elemental, not_recursive, lengths_differ}
use Rattle.f95_unit.specs.Plain.{Expr, typed, Node, Literal, Constant, Index, Named, Brackets, Unary, Binary, Constructor}
use Rattle.f95_unit.specs.Plain.{Elementwise, Trim, Asked, Reduced, Rearranged, Called, Designator, at, Access, Whole, Subscripted}
use Rattle.f95_unit.specs.Plain.{Subscripts, no_subscript, subscript, Subscript, One, Vector, SubscriptTriplet, Bound, Absent}
use Rattle.f95_unit.specs.Plain.{Given, Part, AllOf, BytesOf, Items, no_item, value, loop, Arguments, no_argument, argument}
use Rattle.f95_unit.specs.Plain.{Subject, Name, Of, Call, call, Target, Assign, Where, masked, MaskedBody, no_masked, assigning}
use Rattle.f95_unit.specs.Plain.{narrowed, Others, no_other, elsewhere, Triplet, Forall, Span, Allocation, Stmt, Assigns, Masks}
use Rattle.f95_unit.specs.Plain.{ForAll, Calls, Allocate, Deallocate, Print, Read, If, Select, Do, While, Forever, Exit, Cycle}
use Rattle.f95_unit.specs.Plain.{Return, Stop, Stmts, no_stmt, stmt, Branches, no_branch, branch, Cases, no_case, case, Entity}
use Rattle.f95_unit.specs.Plain.{Procedure, Program}
use Rattle.proc_calls.specs.declared.caller.Caller.{Caller}
use Rattle.proc_calls.specs.Interfaces.{interfaces_of}
use Rattle.proc_calls.specs.Acts.{Reference, References, Act, Transfers, reference}
use Rattle.proc_check.specs.References.{calls_in, node_calls, designator_calls, access_calls, subscript_calls, one_subscript_calls}
use Rattle.proc_check.specs.References.{bound_calls, part_calls, item_calls, argument_calls, subject_calls, call_calls, on_line}
use Rattle.proc_check.specs.References.{option_calls, assign_acts, where_acts, masked_acts, other_acts, triplet_calls, forall_acts}
use Rattle.proc_check.specs.References.{span_calls, allocation_calls, target_calls, stmt_acts, stmts_acts, branch_acts, case_acts}
use Rattle.proc_calls.specs.Rules.{is_mismatch, has_wrong_out, is_impure_call, has_array_actual, is_unmarked_recursion}
use Rattle.proc_calls.specs.Rules.{has_other_length, Home, callee}
use Rattle.proc_check.specs.Rules.{is_impure_function, changes_dummy, is_recursive_elemental, is_array, has_array_dummy, result_of}
use Rattle.proc_check.specs.Rules.{homes, caller_in, acts}
use Rattle.proc_check.specs.Listed.{broken_if, argument_breaks, out_breaks, purity_breaks, actual_breaks, breaks_from_42}
use Rattle.proc_check.specs.Listed.{breaks_from_43, breaks_from_44, breaks_from_45, reference_breaks, act_breaks, heading_breaks}
use Rattle.proc_check.specs.Listed.{entity_breaks, declaration_breaks, array_breaks, result_breaks, statement_breaks}
use Rattle.proc_check.specs.Listed.{breaks_behind_declarations, breaks_behind_heading, home_breaks, breaks_of}
use Rattle.proc_check.specs.Laws.{WalkKeepsFirst}
use Rattle.proc_calls.specs.Found.{Found, earlier, noted, told_reference, told}
use Rattle.proc_check.specs.Walk.{Telling, telling, through_expr, through_node, through_designator, through_access}
use Rattle.proc_check.specs.Walk.{through_subscripts, through_subscript, through_bound, through_part, through_items}
use Rattle.proc_check.specs.Walk.{through_arguments, through_subject, through_call, through_option, through_triplet, through_span}
use Rattle.proc_check.specs.Walk.{through_allocation, through_target, through_assign, through_where, through_masked, through_others}
use Rattle.proc_check.specs.Walk.{through_forall, through_stmt, through_stmts, through_branches, through_cases, through_heading}
use Rattle.proc_check.specs.Walk.{through_entity, through_result, through_home}

-- ---- one list behind another

after : {A : Type 0} (f : Found → A → Found) (found a b : Found) (xs ys : List A) → a ≡ fold f found xs → b ≡ fold f a ys
    → b ≡ fold f found (xs ++ ys)
after f found a b xs ys e g = (g ∙ ap (λ z. fold f z ys) e) ∙ sym (fold-append f found xs ys)

folded : {A B : Type 0} (f : Found → B → Found) (g : Found → A → Found) (h : A → List B)
    → ((found : Found) (x : A) → g found x ≡ fold f found (h x)) → (found : Found) (xs : List A)
    → fold g found xs ≡ fold f found (flat_map h xs)
folded f g h each found [] = refl
folded f g h each found (x ∷ xs) =
    after f found (g found x) (fold g (g found x) xs) (h x) (flat_map h xs) (each found x) (folded f g h each (g found x) xs)

-- ---- expressions

module _ (tell : Telling) where
  mutual
    pub expr_is : (found : Found) (e : Expr) → through_expr tell found e ≡ fold tell found (calls_in e)
    expr_is found (typed facts node) = node_is found node

    node_is : (found : Found) (n : Node) → through_node tell found n ≡ fold tell found (node_calls n)
    node_is found (Literal x) = refl
    node_is found (Constant n) = refl
    node_is found (Index k) = refl
    node_is found (Named d) = designator_is found d
    node_is found (Brackets e) = expr_is found e
    node_is found (Unary op e) = expr_is found e
    node_is found (Binary op e f) =
        after tell found (through_expr tell found e) _ (calls_in e) (calls_in f) (expr_is found e)
        (expr_is (through_expr tell found e) f)
    node_is found (Constructor items) = items_are found items
    node_is found (Elementwise which es) = arguments_are found es
    node_is found (Trim e) = expr_is found e
    node_is found (Asked which dim subject) = subject_is found subject
    node_is found (Reduced which dim es) = arguments_are found es
    node_is found (Rearranged which dim es) = arguments_are found es
    node_is found (Called c) = call_is found c

    pub designator_is : (found : Found) (d : Designator) → through_designator tell found d ≡ fold tell found (designator_calls d)
    designator_is found (at n access part) =
        after tell found (through_access tell found access) _ (access_calls access) (part_calls part) (access_is found access)
        (part_is (through_access tell found access) part)

    access_is : (found : Found) (a : Access) → through_access tell found a ≡ fold tell found (access_calls a)
    access_is found Whole = refl
    access_is found (Subscripted ss) = subscripts_are found ss

    subscripts_are : (found : Found) (ss : Subscripts) → through_subscripts tell found ss ≡ fold tell found (subscript_calls ss)
    subscripts_are found no_subscript = refl
    subscripts_are found (subscript s more) =
        after tell found (through_subscript tell found s) _ (one_subscript_calls s) (subscript_calls more) (subscript_is found s)
        (subscripts_are (through_subscript tell found s) more)

    subscript_is : (found : Found) (s : Subscript) → through_subscript tell found s ≡ fold tell found (one_subscript_calls s)
    subscript_is found (One e) = expr_is found e
    subscript_is found (Vector e) = expr_is found e
    subscript_is found (SubscriptTriplet first last stride) =
        after tell found (through_bound tell found first) _ (bound_calls first) (bound_calls last ++ bound_calls stride)
        (bound_is found first)
        (after tell (through_bound tell found first) (through_bound tell (through_bound tell found first) last) _
        (bound_calls last) (bound_calls stride) (bound_is (through_bound tell found first) last)
        (bound_is (through_bound tell (through_bound tell found first) last) stride))

    pub bound_is : (found : Found) (b : Bound) → through_bound tell found b ≡ fold tell found (bound_calls b)
    bound_is found Absent = refl
    bound_is found (Given e) = expr_is found e

    part_is : (found : Found) (p : Part) → through_part tell found p ≡ fold tell found (part_calls p)
    part_is found AllOf = refl
    part_is found (BytesOf first last) =
        after tell found (through_bound tell found first) _ (bound_calls first) (bound_calls last) (bound_is found first)
        (bound_is (through_bound tell found first) last)

    items_are : (found : Found) (items : Items) → through_items tell found items ≡ fold tell found (item_calls items)
    items_are found no_item = refl
    items_are found (value e more) =
        after tell found (through_expr tell found e) _ (calls_in e) (item_calls more) (expr_is found e)
        (items_are (through_expr tell found e) more)
    items_are found (loop body first last step more) =
        after tell found (through_items tell found body) _ (item_calls body)
        (calls_in first ++ (calls_in last ++ (bound_calls step ++ item_calls more))) (items_are found body)
        (after tell (through_items tell found body) (through_expr tell (through_items tell found body) first) _ (calls_in first)
        (calls_in last ++ (bound_calls step ++ item_calls more)) (expr_is (through_items tell found body) first)
        (after tell (through_expr tell (through_items tell found body) first)
        (through_expr tell (through_expr tell (through_items tell found body) first) last) _ (calls_in last)
        (bound_calls step ++ item_calls more) (expr_is (through_expr tell (through_items tell found body) first) last)
        (after tell (through_expr tell (through_expr tell (through_items tell found body) first) last)
        (through_bound tell (through_expr tell (through_expr tell (through_items tell found body) first) last) step) _
        (bound_calls step) (item_calls more)
        (bound_is (through_expr tell (through_expr tell (through_items tell found body) first) last) step)
        (items_are (through_bound tell (through_expr tell (through_expr tell (through_items tell found body) first) last) step)
        more))))

    pub arguments_are : (found : Found) (es : Arguments) → through_arguments tell found es ≡ fold tell found (argument_calls es)
    arguments_are found no_argument = refl
    arguments_are found (argument place e more) =
        after tell found (through_expr tell found e) _ (calls_in e) (argument_calls more) (expr_is found e)
        (arguments_are (through_expr tell found e) more)

    subject_is : (found : Found) (s : Subject) → through_subject tell found s ≡ fold tell found (subject_calls s)
    subject_is found (Name n) = refl
    subject_is found (Of e) = expr_is found e

    call_is : (found : Found) (c : Call) → through_call tell found c ≡ fold tell found (call_calls c)
    call_is found (call p es) = arguments_are (tell found (call p es)) es

  pub option_is : (found : Found) (o : Option Expr) → through_option tell found o ≡ fold tell found (option_calls o)
  option_is found None = refl
  option_is found (Some e) = expr_is found e

  pub triplet_is : (found : Found) (t : Triplet) → through_triplet tell found t ≡ fold tell found (triplet_calls t)
  triplet_is found t =
      after tell found (through_expr tell found t.first) _ (calls_in t.first) (calls_in t.last ++ bound_calls t.stride)
      (expr_is found t.first)
      (after tell (through_expr tell found t.first) (through_expr tell (through_expr tell found t.first) t.last) _
      (calls_in t.last) (bound_calls t.stride) (expr_is (through_expr tell found t.first) t.last)
      (bound_is (through_expr tell (through_expr tell found t.first) t.last) t.stride))

  pub span_is : (found : Found) (s : Span) → through_span tell found s ≡ fold tell found (span_calls s)
  span_is found s =
      after tell found (through_bound tell found s.lower) _ (bound_calls s.lower) (calls_in s.upper) (bound_is found s.lower)
      (expr_is (through_bound tell found s.lower) s.upper)

  pub allocation_is : (found : Found) (a : Allocation) → through_allocation tell found a ≡ fold tell found (allocation_calls a)
  allocation_is found a = folded tell (through_span tell) span_calls span_is found a.spans

  pub target_is : (found : Found) (t : Target) → through_target tell found t ≡ fold tell found (target_calls t)
  target_is found t = designator_is found t.designator

-- ---- statements

module _ (c : Caller) where
  on_line_is : (line : ℕ) (dos : List ℕ) (found a : Found) (calls : List Call) → a ≡ fold (telling c line dos) found calls
      → a ≡ fold (told c) found (on_line line dos calls)
  on_line_is line dos found a calls e = e ∙ sym (fold-map (told c) (reference line dos true) found calls)

  line_expr : (line : ℕ) (dos : List ℕ) (found : Found) (e : Expr)
      → through_expr (telling c line dos) found e ≡ fold (told c) found (on_line line dos (calls_in e))
  line_expr line dos found e = on_line_is line dos found _ (calls_in e) (expr_is (telling c line dos) found e)

  line_bound : (line : ℕ) (dos : List ℕ) (found : Found) (b : Bound)
      → through_bound (telling c line dos) found b ≡ fold (told c) found (on_line line dos (bound_calls b))
  line_bound line dos found b = on_line_is line dos found _ (bound_calls b) (bound_is (telling c line dos) found b)

  line_option : (line : ℕ) (dos : List ℕ) (found : Found) (o : Option Expr)
      → through_option (telling c line dos) found o ≡ fold (told c) found (on_line line dos (option_calls o))
  line_option line dos found o = on_line_is line dos found _ (option_calls o) (option_is (telling c line dos) found o)

  line_all : {A : Type 0} (line : ℕ) (dos : List ℕ) (g : Telling → Found → A → Found) (h : A → List Call)
      → ((tell : Telling) (found : Found) (x : A) → g tell found x ≡ fold tell found (h x)) → (found : Found) (xs : List A)
      → fold (g (telling c line dos)) found xs ≡ fold (told c) found (on_line line dos (flat_map h xs))
  line_all line dos g h each found xs =
      on_line_is line dos found _ (flat_map h xs)
      (folded (telling c line dos) (g (telling c line dos)) h (each (telling c line dos)) found xs)

  assign_is : (dos : List ℕ) (found : Found) (a : Assign) → through_assign c dos found a ≡ fold (told c) found (assign_acts dos a)
  assign_is dos found a =
      after (told c) found (through_designator (telling c a.line dos) found a.target.designator) _
      (on_line a.line dos (designator_calls a.target.designator)) (on_line a.line dos (calls_in a.value))
      (on_line_is a.line dos found _ (designator_calls a.target.designator)
      (designator_is (telling c a.line dos) found a.target.designator))
      (line_expr a.line dos (through_designator (telling c a.line dos) found a.target.designator) a.value)

  mutual
    where_is : (dos : List ℕ) (found : Found) (w : Where) → through_where c dos found w ≡ fold (told c) found (where_acts dos w)
    where_is dos found (masked line mask body others) =
        after (told c) found (through_expr (telling c line dos) found mask) _ (on_line line dos (calls_in mask))
        (masked_acts dos body ++ other_acts dos others) (line_expr line dos found mask)
        (after (told c) (through_expr (telling c line dos) found mask)
        (through_masked c dos (through_expr (telling c line dos) found mask) body) _ (masked_acts dos body) (other_acts dos others)
        (masked_are dos (through_expr (telling c line dos) found mask) body)
        (others_are dos (through_masked c dos (through_expr (telling c line dos) found mask) body) others))

    masked_are : (dos : List ℕ) (found : Found) (b : MaskedBody)
        → through_masked c dos found b ≡ fold (told c) found (masked_acts dos b)
    masked_are dos found no_masked = refl
    masked_are dos found (assigning a more) =
        after (told c) found (through_assign c dos found a) _ (assign_acts dos a) (masked_acts dos more) (assign_is dos found a)
        (masked_are dos (through_assign c dos found a) more)
    masked_are dos found (narrowed w more) =
        after (told c) found (through_where c dos found w) _ (where_acts dos w) (masked_acts dos more) (where_is dos found w)
        (masked_are dos (through_where c dos found w) more)

    others_are : (dos : List ℕ) (found : Found) (o : Others) → through_others c dos found o ≡ fold (told c) found (other_acts dos o)
    others_are dos found no_other = refl
    others_are dos found (elsewhere line mask body more) =
        after (told c) found (through_option (telling c line dos) found mask) _ (on_line line dos (option_calls mask))
        (masked_acts dos body ++ other_acts dos more) (line_option line dos found mask)
        (after (told c) (through_option (telling c line dos) found mask)
        (through_masked c dos (through_option (telling c line dos) found mask) body) _ (masked_acts dos body) (other_acts dos more)
        (masked_are dos (through_option (telling c line dos) found mask) body)
        (others_are dos (through_masked c dos (through_option (telling c line dos) found mask) body) more))

  forall_is : (dos : List ℕ) (found : Found) (f : Forall) → through_forall c dos found f ≡ fold (told c) found (forall_acts dos f)
  forall_is dos found f =
      let tell : Telling = telling c f.line dos in
      let one : Found = fold (through_triplet tell) found f.triplets in
      let two : Found = through_option tell one f.mask in
      after (told c) found one _ (on_line f.line dos (flat_map triplet_calls f.triplets))
      (on_line f.line dos (option_calls f.mask) ++ flat_map (assign_acts dos) f.body)
      (line_all f.line dos through_triplet triplet_calls triplet_is found f.triplets)
      (after (told c) one two _ (on_line f.line dos (option_calls f.mask)) (flat_map (assign_acts dos) f.body)
      (line_option f.line dos one f.mask) (folded (told c) (through_assign c dos) (assign_acts dos) (assign_is dos) two f.body))

  mutual
    stmt_is : (dos : List ℕ) (found : Found) (s : Stmt) → through_stmt c dos found s ≡ fold (told c) found (stmt_acts dos s)
    stmt_is dos found (Assigns a) = assign_is dos found a
    stmt_is dos found (Masks w) = where_is dos found w
    stmt_is dos found (ForAll f) = forall_is dos found f
    stmt_is dos found (Calls line (call p es)) =
        on_line_is line dos (told c found (reference line dos false (call p es))) _ (argument_calls es)
        (arguments_are (telling c line dos) (told c found (reference line dos false (call p es))) es)
    stmt_is dos found (Allocate line objects) =
        line_all line dos through_allocation allocation_calls allocation_is found objects
    stmt_is dos found (Deallocate line names) = refl
    stmt_is dos found (Print line es) = line_all line dos through_expr calls_in expr_is (told c found (Transfers line)) es
    stmt_is dos found (Read line targets) =
        line_all line dos through_target target_calls target_is (told c found (Transfers line)) targets
    stmt_is dos found (If branches otherwise) =
        after (told c) found (through_branches c dos found branches) _ (branch_acts dos branches) (stmts_acts dos otherwise)
        (branches_are dos found branches) (stmts_are dos (through_branches c dos found branches) otherwise)
    stmt_is dos found (Select line e cases otherwise) =
        let one : Found = through_expr (telling c line dos) found e in
        let two : Found = through_cases c dos one cases in
        after (told c) found one _ (on_line line dos (calls_in e)) (case_acts dos cases ++ stmts_acts dos otherwise)
        (line_expr line dos found e)
        (after (told c) one two _ (case_acts dos cases) (stmts_acts dos otherwise) (cases_are dos one cases)
        (stmts_are dos two otherwise))
    stmt_is dos found (Do line n first last step body) =
        let one : Found = through_expr (telling c line dos) found first in
        let two : Found = through_expr (telling c line dos) one last in
        let three : Found = through_bound (telling c line dos) two step in
        after (told c) found one _ (on_line line dos (calls_in first))
        (on_line line dos (calls_in last) ++ (on_line line dos (bound_calls step) ++ stmts_acts (dos ++ n ∷ []) body))
        (line_expr line dos found first)
        (after (told c) one two _ (on_line line dos (calls_in last))
        (on_line line dos (bound_calls step) ++ stmts_acts (dos ++ n ∷ []) body) (line_expr line dos one last)
        (after (told c) two three _ (on_line line dos (bound_calls step)) (stmts_acts (dos ++ n ∷ []) body)
        (line_bound line dos two step) (stmts_are (dos ++ n ∷ []) three body)))
    stmt_is dos found (While line e body) =
        after (told c) found (through_expr (telling c line dos) found e) _ (on_line line dos (calls_in e)) (stmts_acts dos body)
        (line_expr line dos found e) (stmts_are dos (through_expr (telling c line dos) found e) body)
    stmt_is dos found (Forever line body) = stmts_are dos found body
    stmt_is dos found (Exit line out) = refl
    stmt_is dos found (Cycle line out) = refl
    stmt_is dos found (Return line) = refl
    stmt_is dos found (Stop line) = refl

    pub stmts_are : (dos : List ℕ) (found : Found) (body : Stmts)
        → through_stmts c dos found body ≡ fold (told c) found (stmts_acts dos body)
    stmts_are dos found no_stmt = refl
    stmts_are dos found (stmt s more) =
        after (told c) found (through_stmt c dos found s) _ (stmt_acts dos s) (stmts_acts dos more) (stmt_is dos found s)
        (stmts_are dos (through_stmt c dos found s) more)

    branches_are : (dos : List ℕ) (found : Found) (bs : Branches)
        → through_branches c dos found bs ≡ fold (told c) found (branch_acts dos bs)
    branches_are dos found no_branch = refl
    branches_are dos found (branch line e body more) =
        let one : Found = through_expr (telling c line dos) found e in
        let two : Found = through_stmts c dos one body in
        after (told c) found one _ (on_line line dos (calls_in e)) (stmts_acts dos body ++ branch_acts dos more)
        (line_expr line dos found e)
        (after (told c) one two _ (stmts_acts dos body) (branch_acts dos more) (stmts_are dos one body) (branches_are dos two more))

    cases_are : (dos : List ℕ) (found : Found) (cs : Cases) → through_cases c dos found cs ≡ fold (told c) found (case_acts dos cs)
    cases_are dos found no_case = refl
    cases_are dos found (case ranges body more) =
        after (told c) found (through_stmts c dos found body) _ (stmts_acts dos body) (case_acts dos more)
        (stmts_are dos found body) (cases_are dos (through_stmts c dos found body) more)

-- ---- breaks

noted_is : (found : Found) (t : Bool) (line rule : ℕ) → noted found t line rule ≡ fold earlier found (broken_if t line rule)
noted_is found true line rule = refl
noted_is found false line rule = refl

also_noted : (found a : Found) (bs : List Break) (t : Bool) (line rule : ℕ) → a ≡ fold earlier found bs
    → noted a t line rule ≡ fold earlier found (bs ++ broken_if t line rule)
also_noted found a bs t line rule e =
    after earlier found a (noted a t line rule) bs (broken_if t line rule) e (noted_is a t line rule)

two_noted : (found : Found) (s t : Bool) (line rule other_line other_rule : ℕ)
    → noted (noted found s line rule) t other_line other_rule
    ≡ fold earlier found (broken_if s line rule ++ broken_if t other_line other_rule)
two_noted found s t line rule other_line other_rule =
    also_noted found (noted found s line rule) (broken_if s line rule) t other_line other_rule (noted_is found s line rule)

reference_is : (c : Caller) (found : Found) (r : Reference)
    → told_reference c (callee c r) found r ≡ fold earlier found (reference_breaks c r)
reference_is c found r =
    let one : Found = noted found (is_mismatch (callee c r) r) r.line wrong_arguments in
    let two : Found = noted one (has_wrong_out c (callee c r) r) r.line wrong_out_argument in
    let three : Found = noted two (is_impure_call c (callee c r)) r.line not_pure in
    let four : Found = noted three (has_array_actual (callee c r) r) r.line not_elemental in
    after earlier found one _ (argument_breaks c r) (breaks_from_42 c r)
    (noted_is found (is_mismatch (callee c r) r) r.line wrong_arguments)
    (after earlier one two _ (out_breaks c r) (breaks_from_43 c r)
    (noted_is one (has_wrong_out c (callee c r) r) r.line wrong_out_argument)
    (after earlier two three _ (purity_breaks c r) (breaks_from_44 c r)
    (noted_is two (is_impure_call c (callee c r)) r.line not_pure)
    (after earlier three four _ (actual_breaks c r) (breaks_from_45 c r)
    (noted_is three (has_array_actual (callee c r) r) r.line not_elemental)
    (two_noted four (is_unmarked_recursion c r) (has_other_length (callee c r) r) r.line not_recursive r.line lengths_differ))))

told_is : (c : Caller) (found : Found) (a : Act) → told c found a ≡ fold earlier found (act_breaks c a)
unfolding told
told_is c found (References r) = reference_is c found r
told_is c found (Transfers line) = noted_is found c.pure line not_pure

heading_is : (p : Procedure) (found : Found) → through_heading p found ≡ fold earlier found (heading_breaks p)
heading_is p found = two_noted found (is_impure_function p) (is_recursive_elemental p) p.line not_pure p.line not_elemental

entity_is : (p : Procedure) (found : Found) (e : Entity) → through_entity p found e ≡ fold earlier found (entity_breaks p e)
entity_is p found e = two_noted found (changes_dummy p e) (has_array_dummy p e) e.line not_pure e.line not_elemental

result_is : (elemental : Bool) (found : Found) (o : Option Entity)
    → through_result elemental found o ≡ fold earlier found (array_breaks elemental o)
result_is elemental found None = refl
result_is elemental found (Some e) = noted_is found (elemental && is_array e) e.line not_elemental

home_is : (u : Program) (found : Found) (h : Home) → through_home (interfaces_of u) found h ≡ fold earlier found (home_breaks u h)
home_is u found h =
    let one : Found = through_heading h.of found in
    let two : Found = fold (through_entity h.of) one h.of.entities in
    let three : Found = through_result h.of.elemental two (result_of h.of) in
    after earlier found one _ (heading_breaks h.of) (breaks_behind_heading u h) (heading_is h.of found)
    (after earlier one two _ (declaration_breaks h.of) (breaks_behind_declarations u h)
    (folded earlier (through_entity h.of) (entity_breaks h.of) (entity_is h.of) one h.of.entities)
    (after earlier two three _ (result_breaks h.of) (statement_breaks u h) (result_is h.of.elemental two (result_of h.of))
    (stmts_are (caller_in u h) [] three h.of.body
    ∙ folded earlier (told (caller_in u h)) (act_breaks (caller_in u h)) (told_is (caller_in u h)) three (acts h))))

from_is : (b : Break) (bs : List Break) → fold earlier (Some b) bs ≡ Some (first_from b bs)
from_is b [] = refl
from_is b (c ∷ cs) = from_is (cond (comes_first b c) b c) cs

first_is : (bs : List Break) → fold earlier None bs ≡ first_of bs
first_is [] = refl
first_is (b ∷ bs) = from_is b bs

pub unit_is : WalkKeepsFirst
unit_is u = folded earlier (through_home (interfaces_of u)) (home_breaks u) (home_is u) None (homes u) ∙ first_is (breaks_of u)
