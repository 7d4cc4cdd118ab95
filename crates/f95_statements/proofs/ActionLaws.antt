-- Statements that may stand behind IF ( e ): what is read is spelled as the terminals and well formed, and what is
-- spelled so is read.
use Rattle.std.proofs.Common.{◌≡◌, Bool, true, ◌&&◌, [], ◌∷◌, ◌++◌, map, Option, Some, None, sym, ◌∙◌, ap, subst, refl}
use Rattle.std.specs.Prelude.{option_map, option_and_then, if◌then◌else◌}
use Rattle.std.proofs.Math.Bool.{and-true}
use Rattle.std.proofs.lemmas.Bool.{and_parts, and_from}
use Rattle.a95_base.proofs.Tests.{by_test}
use Rattle.f95_tree.specs.declared.expression.Reference.{Reference}
use Rattle.f95_tree.specs.declared.expression.Literal.{Literal}
use Rattle.f95_tree.specs.declared.expression.Literal.TheVariants as literal
use Rattle.f95_tree.specs.declared.terminal.Terminal.TheVariants as terminal
use Rattle.f95_tree.specs.declared.terminal.Punctuation.TheVariants as mark
use Rattle.f95_tree.specs.declared.terminal.Keyword.{Keyword}
use Rattle.f95_tree.specs.declared.terminal.Keyword.TheVariants as keyword
use Rattle.f95_tree.specs.declared.terminal.BlockWord.{BlockWord}
use Rattle.f95_tree.specs.declared.terminal.BlockWord.TheVariants as block
use Rattle.f95_tree.specs.declared.terminal.ActionWord.{ActionWord}
use Rattle.f95_tree.specs.declared.terminal.ActionWord.TheVariants as word
use Rattle.f95_tree.specs.declared.action.Action.{Action}
use Rattle.f95_tree.specs.declared.action.Action.TheVariants as act
use Rattle.f95_tree.specs.declared.action.Assignment.{Assignment}
use Rattle.f95_tree.specs.Spelling.{Text, punctuated, behind_commas, commas, in_brackets, expression, reference}
use Rattle.f95_tree.specs.Grades.{all, some, well, well_reference}
use Rattle.f95_tree.specs.Forms.{Word, named, maybe_named, star, action_word, block_word, any_unit, argument_text, allocation_text}
use Rattle.f95_tree.specs.Forms.{header_text, assignment_text, maybe_literal, action_text}
use Rattle.f95_tree.specs.WellFormed.{well_allocation, well_assignment, well_header, well_stop, well_action}
use Rattle.f95_tree.proofs.Nodes.{reference-Whole, reference-Items, reference-Substring}
use Rattle.f95_tree.proofs.Induction.{reference_cases}
use Rattle.f95_expressions.specs.Machine.{collected, expression_of}
use Rattle.f95_expressions.proofs.Read.{mapped, chained}
use Rattle.f95_parts.specs.Views.{is_nil, behind_star, behind_name, behind_keyword, behind_literal, at_end, nothing_more}
use Rattle.f95_parts.specs.Views.{name_at_end}
use Rattle.f95_parts.specs.Parts.{reference_of, name_of, allocation_of}
use Rattle.f95_parts.proofs.ViewLaws.{nil, star_sound, name_sound, literal_sound, keyword_sound, end_sound, more_sound}
use Rattle.f95_parts.proofs.ViewLaws.{name_end_sound, name_end_again}
use Rattle.f95_parts.proofs.ListLaws.{Is}
use Rattle.f95_parts.proofs.Instances.{expressions, references, names, always, all_names, well_argument, arguments, allocations}
use Rattle.f95_statements.specs.Actions.{whole_bracket, listed, listed_behind, conditioned, headed, assigned, behind_unit}
use Rattle.f95_statements.specs.Actions.{arguments_of, call_named, call_of, allocate_of, deallocate_of, print_of, write_of}
use Rattle.f95_statements.specs.Actions.{read_unit, read_by, stop_code, stop_of, action_by, where_of, forall_of, blocked}
use Rattle.f95_statements.specs.Actions.{action_worded, action_keyed, action_of}
use Rattle.f95_statements.proofs.ConditionLaws.{assigned_sound, assigned_again, conditioned_sound, conditioned_again, headed_sound}
use Rattle.f95_statements.proofs.ConditionLaws.{headed_again, whole_list_sound, whole_list_again, within_sound, within_again}
use Rattle.f95_statements.proofs.ConditionLaws.{listed_sound, listed_again, listed_behind_sound, listed_behind_again, unit_sound}

-- an action that is spelled so and well formed
abbrev pub ActionIs : Text → Action → Type 0
ActionIs ts a = Is action_text well_action ts a

-- an action that is made of one part, behind what leads it
part_sound : {A : Type 0} (make : A → Action) (spell : A → Text) (w : A → Bool) (lead : Text → Text)
    (o : Option A) (ts : Text) (a : Action) → ((x : A) → o ≡ Some x → Is spell w ts x) →
    ((x : A) → action_text (make x) ≡ lead (spell x)) → ((x : A) → well_action (make x) ≡ w x) →
    option_map make o ≡ Some a → ActionIs (lead ts) a
part_sound make spell w lead o ts a sound text wells h = mapped make o a h (λ x hx is. let s = sound x hx in record {
  spelled = ap action_text (sym is) ∙ text x ∙ ap lead s.spelled;
  kept = ap well_action (sym is) ∙ wells x ∙ s.kept;
})

abbrev behind_word : ActionWord → Text → Text
behind_word w ts = action_word w ∷ ts

-- ---- calls

arguments_sound : (n : Word) (ts : Text) (a : Action) → option_map (λ xs. act.Call n (Some xs)) (arguments_of ts) ≡ Some a →
    ActionIs (behind_word word.Call (terminal.Name n ∷ ts)) a
arguments_sound n ts a h =
    part_sound (λ xs. act.Call n (Some xs)) (λ xs. in_brackets (commas (map argument_text xs))) (λ xs. all (map well_argument xs))
    (λ t. behind_word word.Call (terminal.Name n ∷ t)) (arguments_of ts) ts a (λ xs hx. within_sound arguments ts xs hx)
    (λ xs. refl) (λ xs. refl) h

call_named_sound : (p : Word × Text) (a : Action) → call_named p ≡ Some a →
    ActionIs (behind_word word.Call (terminal.Name p.0 ∷ p.1)) a
call_named_sound p a h = by_test
    (λ b. (if b then Some (act.Call p.0 None) else option_map (λ xs. act.Call p.0 (Some xs)) (arguments_of p.1)) ≡ Some a
    → ActionIs (behind_word word.Call (terminal.Name p.0 ∷ p.1)) a)
    (is_nil p.1)
    (λ e h. let is : act.Call p.0 None ≡ a = cc in record {
      spelled = ap action_text (sym is) ∙ ap (λ t. behind_word word.Call (terminal.Name p.0 ∷ t)) (sym (nil p.1 e));
      kept = ap well_action (sym is);
    })
    (λ _ h. arguments_sound p.0 p.1 a h) h

pub call_sound : (ts : Text) (a : Action) → call_of ts ≡ Some a → ActionIs (behind_word word.Call ts) a
call_sound ts a h = chained call_named (behind_name ts) a h (λ p hp ha.
    subst (λ t. ActionIs (behind_word word.Call t) a) (sym (name_sound ts p hp)) (call_named_sound p a ha))

-- ---- lists

allocate_sound : (ts : Text) (a : Action) → allocate_of ts ≡ Some a → ActionIs (behind_word word.Allocate ts) a
allocate_sound ts a h =
    part_sound act.Allocate (λ xs. in_brackets (commas (map allocation_text xs))) (λ xs. some xs && all (map well_allocation xs))
    (behind_word word.Allocate) (option_and_then (collected allocation_of []) (whole_bracket ts)) ts a
    (λ xs hx. whole_list_sound allocations ts xs hx) (λ xs. refl) (λ xs. refl) h

deallocate_sound : (ts : Text) (a : Action) → deallocate_of ts ≡ Some a → ActionIs (behind_word word.Deallocate ts) a
deallocate_sound ts a h =
    part_sound act.Deallocate (λ ns. in_brackets (commas (map named ns))) (λ ns. some ns && all (map always ns))
    (behind_word word.Deallocate) (option_and_then (collected name_of []) (whole_bracket ts)) ts a
    (λ ns hn. whole_list_sound names ts ns hn) (λ ns. refl)
    (λ ns. sym (and-true (some ns)) ∙ ap (λ b. some ns && b) (sym (all_names ns))) h

print_sound : (ts : Text) (a : Action) → print_of ts ≡ Some a → ActionIs (behind_word word.Print ts) a
print_sound ts a h = chained (λ rest. option_map act.Print (listed_behind expression_of rest)) (behind_star ts) a h (λ rest hr ha.
    subst (λ t. ActionIs (behind_word word.Print t) a) (sym (star_sound ts rest hr))
    (part_sound act.Print (λ xs. behind_commas (map expression xs)) (λ xs. all (map well xs))
    (λ t. behind_word word.Print (star ∷ t))
    (listed_behind expression_of rest) rest a (λ xs hx. listed_behind_sound expressions rest xs hx) (λ xs. refl) (λ xs. refl) ha))

write_sound : (ts : Text) (a : Action) → write_of ts ≡ Some a → ActionIs (behind_word word.Write ts) a
write_sound ts a h = chained (λ rest. option_map act.Write (listed expression_of rest)) (behind_unit ts) a h (λ rest hr ha.
    subst (λ t. ActionIs (behind_word word.Write t) a) (unit_sound ts rest hr)
    (part_sound act.Write (λ xs. commas (map expression xs)) (λ xs. all (map well xs)) (λ t. behind_word word.Write (any_unit ++ t))
    (listed expression_of rest) rest a (λ xs hx. listed_sound expressions rest xs hx) (λ xs. refl) (λ xs. refl) ha))

read_unit_sound : (ts : Text) (a : Action) → read_unit ts ≡ Some a → ActionIs (behind_word word.Read ts) a
read_unit_sound ts a h = chained (λ rest. option_map act.ReadUnit (listed reference_of rest)) (behind_unit ts) a h (λ rest hr ha.
    subst (λ t. ActionIs (behind_word word.Read t) a) (unit_sound ts rest hr)
    (part_sound act.ReadUnit (λ xs. commas (map reference xs)) (λ xs. all (map well_reference xs))
    (λ t. behind_word word.Read (any_unit ++ t))
    (listed reference_of rest) rest a (λ xs hx. listed_sound references rest xs hx) (λ xs. refl) (λ xs. refl) ha))

read_by_sound : (o : Option Text) (ts : Text) (a : Action) → behind_star ts ≡ o → read_by o ts ≡ Some a →
    ActionIs (behind_word word.Read ts) a
read_by_sound None ts a hr h = read_unit_sound ts a h
read_by_sound (Some rest) ts a hr h =
    subst (λ t. ActionIs (behind_word word.Read t) a) (sym (star_sound ts rest hr))
    (part_sound act.Read (λ xs. behind_commas (map reference xs)) (λ xs. all (map well_reference xs))
    (λ t. behind_word word.Read (star ∷ t))
    (listed_behind reference_of rest) rest a (λ xs hx. listed_behind_sound references rest xs hx) (λ xs. refl) (λ xs. refl) h)

-- ---- what stands at the end

stop_code_sound : (l c : Literal) → stop_code l ≡ Some c → (l ≡ c) × (well_stop (Some c) ≡ true)
stop_code_sound (literal.Number n) c h = let is : literal.Number n ≡ c = cc in (is, ap (λ c. well_stop (Some c)) (sym is))
stop_code_sound (literal.Text t) c h = let is : literal.Text t ≡ c = cc in (is, ap (λ c. well_stop (Some c)) (sym is))
stop_code_sound (literal.Logical b) c h = absurd (cc)

code_sound : (ts : Text) (c : Literal) → option_and_then stop_code (option_and_then at_end (behind_literal ts)) ≡ Some c →
    Is (λ c. maybe_literal (Some c)) (λ c. well_stop (Some c)) ts c
code_sound ts c h = chained stop_code (option_and_then at_end (behind_literal ts)) c h (λ l hl hc.
    chained at_end (behind_literal ts) l hl (λ p hp he.
    let s = stop_code_sound l c hc in
    let end = end_sound p l he in record {
      spelled = sym (literal_sound ts p hp ∙ ap (λ t. terminal.Literal p.0 ∷ t) end.1
          ∙ ap (λ l. terminal.Literal l ∷ []) (end.0 ∙ s.0));
      kept = s.1;
    }))

stop_sound : (ts : Text) (a : Action) → stop_of ts ≡ Some a → ActionIs (behind_word word.Stop ts) a
stop_sound ts a h = by_test
    (λ b. (if b then Some (act.Stop None)
    else option_map (λ code. act.Stop (Some code))
    (option_and_then stop_code (option_and_then at_end (behind_literal ts)))) ≡ Some a
    → ActionIs (behind_word word.Stop ts) a)
    (is_nil ts)
    (λ e h. let is : act.Stop None ≡ a = cc in record {
      spelled = ap action_text (sym is) ∙ ap (behind_word word.Stop) (sym (nil ts e));
      kept = ap well_action (sym is);
    })
    (λ _ h. part_sound (λ code. act.Stop (Some code)) (λ c. maybe_literal (Some c))
    (λ c. well_stop (Some c)) (behind_word word.Stop)
    (option_and_then stop_code (option_and_then at_end (behind_literal ts))) ts a (code_sound ts) (λ c. refl) (λ c. refl) h)
    h

alone_sound : (w : ActionWord) (b : Action) (ts : Text) (a : Action) → action_text b ≡ behind_word w [] → well_action b ≡ true →
    nothing_more b ts ≡ Some a →
    ActionIs (behind_word w ts) a
alone_sound w b ts a text wells h =
    let s = more_sound b a ts h in record {
      spelled = ap action_text (sym s.0) ∙ text ∙ ap (behind_word w) (sym s.1);
      kept = ap well_action (sym s.0) ∙ wells;
    }

name_end_is : (ts : Text) (n : Option Word) → name_at_end ts ≡ Some n → Is maybe_named (λ _. true) ts n
name_end_is ts n h = record { spelled = sym (name_end_sound ts n h); kept = refl }

exit_sound : (ts : Text) (a : Action) → option_map act.Exit (name_at_end ts) ≡ Some a → ActionIs (behind_word word.Exit ts) a
exit_sound ts a h =
    part_sound act.Exit maybe_named (λ _. true) (behind_word word.Exit) (name_at_end ts) ts a (name_end_is ts) (λ n. refl)
    (λ n. refl) h

cycle_sound : (ts : Text) (a : Action) → option_map act.Cycle (name_at_end ts) ≡ Some a → ActionIs (behind_word word.Cycle ts) a
cycle_sound ts a h =
    part_sound act.Cycle maybe_named (λ _. true) (behind_word word.Cycle) (name_at_end ts) ts a (name_end_is ts) (λ n. refl)
    (λ n. refl) h

action_by_sound : (w : ActionWord) (ts : Text) (a : Action) → action_by w ts ≡ Some a → ActionIs (behind_word w ts) a
action_by_sound word.Call ts a h = call_sound ts a h
action_by_sound word.Allocate ts a h = allocate_sound ts a h
action_by_sound word.Deallocate ts a h = deallocate_sound ts a h
action_by_sound word.Print ts a h = print_sound ts a h
action_by_sound word.Write ts a h = write_sound ts a h
action_by_sound word.Read ts a h = read_by_sound (behind_star ts) ts a refl h
action_by_sound word.Stop ts a h = stop_sound ts a h
action_by_sound word.Return ts a h = alone_sound word.Return act.Return ts a refl refl h
action_by_sound word.Continue ts a h = alone_sound word.Continue act.Continue ts a refl refl h
action_by_sound word.Exit ts a h = exit_sound ts a h
action_by_sound word.Cycle ts a h = cycle_sound ts a h

-- ---- WHERE and FORALL

where_sound : (ts : Text) (a : Action) → where_of ts ≡ Some a → ActionIs (block_word block.Where ∷ ts) a
where_sound ts a h = chained (λ p. option_map (act.Where p.0) (assigned p.1)) (conditioned ts) a h (λ p hp ha.
    let c = conditioned_sound ts p hp in
    mapped (act.Where p.0) (assigned p.1) a ha (λ x hx is.
    let s = assigned_sound p.1 x hx in record {
      spelled = ap action_text (sym is) ∙ ap (λ t. block_word block.Where ∷ (in_brackets (expression p.0) ++ t)) s.spelled
          ∙ ap (λ t. block_word block.Where ∷ t) c.spelled;
      kept = ap well_action (sym is) ∙ and_from (well p.0) (well_assignment x) c.kept s.kept;
    }))

forall_sound : (ts : Text) (a : Action) → forall_of ts ≡ Some a → ActionIs (block_word block.Forall ∷ ts) a
forall_sound ts a h = chained (λ p. option_map (act.Forall p.0) (assigned p.1)) (headed ts) a h (λ p hp ha.
    let c = headed_sound ts p hp in
    mapped (act.Forall p.0) (assigned p.1) a ha (λ x hx is.
    let s = assigned_sound p.1 x hx in record {
      spelled = ap action_text (sym is) ∙ ap (λ t. block_word block.Forall ∷ (header_text p.0 ++ t)) s.spelled
          ∙ ap (λ t. block_word block.Forall ∷ t) c.spelled;
      kept = ap well_action (sym is) ∙ and_from (well_header p.0) (well_assignment x) c.kept s.kept;
    }))

blocked_sound : (w : BlockWord) (ts : Text) (a : Action) → blocked w ts ≡ Some a → ActionIs (block_word w ∷ ts) a
blocked_sound block.Where ts a h = where_sound ts a h
blocked_sound block.Forall ts a h = forall_sound ts a h
blocked_sound w ts a h = absurd (cc)

-- ---- all actions

worded_sound : (k : Keyword) (ts : Text) (a : Action) → action_worded (k, ts) ≡ Some a → ActionIs (terminal.Keyword k ∷ ts) a
worded_sound (keyword.Action w) ts a h = action_by_sound w ts a h
worded_sound (keyword.Block w) ts a h = blocked_sound w ts a h
worded_sound k ts a h = absurd (cc)

keyed_sound : (o : Option (Keyword × Text)) (ts : Text) (a : Action) → behind_keyword ts ≡ o → action_keyed o ts ≡ Some a →
    ActionIs ts a
keyed_sound None ts a hk h =
    part_sound act.Assignment assignment_text well_assignment (λ t. t) (assigned ts) ts a (assigned_sound ts) (λ x. refl)
    (λ x. refl) h
keyed_sound (Some p) ts a hk h = subst (λ t. ActionIs t a) (sym (keyword_sound ts p hk)) (worded_sound p.0 p.1 a h)

pub action_sound : (ts : Text) (a : Action) → action_of ts ≡ Some a → ActionIs ts a
action_sound ts a h = keyed_sound (behind_keyword ts) ts a refl h

-- no keyword stands first in a reference
no_keyword : (x : Reference) (t : Text) → behind_keyword (reference x ++ t) ≡ None
no_keyword = reference_cases (λ x. (t : Text) → behind_keyword (reference x ++ t) ≡ None)
    (λ n t. ap (λ r. behind_keyword (r ++ t)) (reference-Whole n))
    (λ n xs t. ap (λ r. behind_keyword (r ++ t)) (reference-Items n xs))
    (λ n xs b c t. ap (λ r. behind_keyword (r ++ t)) (reference-Substring n xs b c))

pub action_again : (a : Action) → well_action a ≡ true → action_of (action_text a) ≡ Some a
action_again (act.Assignment a) w =
    ap (λ o. action_keyed o (assignment_text a)) (no_keyword a.to (punctuated mark.Assign (expression a.value)))
    ∙ ap (option_map act.Assignment) (assigned_again a w)
action_again (act.Call n None) w = refl
action_again (act.Call n (Some xs)) w = ap (option_map (λ xs. act.Call n (Some xs))) (within_again arguments xs w)
action_again (act.Allocate xs) w = ap (option_map act.Allocate) (whole_list_again allocations xs w)
action_again (act.Deallocate ns) w =
    ap (option_map act.Deallocate) (whole_list_again names ns (and_from (some ns) (all (map always ns)) w (all_names ns)))
action_again (act.Print xs) w = ap (option_map act.Print) (listed_behind_again expressions xs w)
action_again (act.Write xs) w = ap (option_map act.Write) (listed_again expressions xs w)
action_again (act.Read xs) w = ap (option_map act.Read) (listed_behind_again references xs w)
action_again (act.ReadUnit xs) w = ap (option_map act.ReadUnit) (listed_again references xs w)
action_again (act.Stop None) w = refl
action_again (act.Stop (Some (literal.Number n))) w = refl
action_again (act.Stop (Some (literal.Text t))) w = refl
action_again (act.Stop (Some (literal.Logical b))) w = absurd (cc)
action_again act.Return w = refl
action_again act.Continue w = refl
action_again (act.Exit n) w = ap (option_map act.Exit) (name_end_again n)
action_again (act.Cycle n) w = ap (option_map act.Cycle) (name_end_again n)
action_again (act.Where mask a) w =
    let ws = and_parts (well mask) (well_assignment a) w in
    ap (option_and_then (λ p. option_map (act.Where p.0) (assigned p.1))) (conditioned_again mask (assignment_text a) ws.0)
    ∙ ap (option_map (act.Where mask)) (assigned_again a ws.1)
action_again (act.Forall header a) w =
    let ws = and_parts (well_header header) (well_assignment a) w in
    ap (option_and_then (λ p. option_map (act.Forall p.0) (assigned p.1))) (headed_again header (assignment_text a) ws.0)
    ∙ ap (option_map (act.Forall header)) (assigned_again a ws.1)
