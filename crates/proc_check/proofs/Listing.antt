-- The list of a unit's breaks has all that it breaks, and nothing else.
use Rattle.std.proofs.Common.{ℕ, Bool, true, false, ◌&&◌, List, ◌++◌, refl, sym, subst, inl, inr, ◌≡◌, Option, Some, None}
use Rattle.a95_base.specs.declared.breaks.Break.{Break}
use Rattle.a95_base.specs.Breaks.{broken_at}
use Rattle.a95_base.specs.Lists.{Member}
use Rattle.a95_base.specs.Rules.{wrong_arguments, wrong_out_argument, not_pure, not_elemental, not_recursive, lengths_differ}
use Rattle.a95_base.proofs.First.{first_is_least, none_among}
use Rattle.a95_base.proofs.Lists.{Member-append_left, Member-append_right, Member-append_cases, Member-flat_map}
use Rattle.a95_base.proofs.Lists.{Member-from_flat_map}
use Rattle.f95_unit.specs.Plain.{Entity, Program}
use Rattle.proc_calls.specs.declared.caller.Caller.{Caller}
use Rattle.proc_calls.specs.Interfaces.{is_pure}
use Rattle.proc_calls.specs.Acts.{Reference, References, Act, Transfers}
use Rattle.proc_calls.specs.Rules.{is_mismatch, has_wrong_out, is_impure_call, has_array_actual, is_unmarked_recursion}
use Rattle.proc_calls.specs.Rules.{has_other_length, Home, callee}
use Rattle.proc_check.specs.Rules.{is_impure_function, changes_dummy, is_recursive_elemental, is_array, has_array_dummy, result_of}
use Rattle.proc_check.specs.Rules.{homes, caller_in, acts, Breaks, has_wrong_arguments, changes_no_variable, function_is_not_pure}
use Rattle.proc_check.specs.Rules.{function_changes_dummy, transfers_in_pure, references_impure, elemental_is_recursive}
use Rattle.proc_check.specs.Rules.{elemental_has_array_dummy, elemental_has_array_result, elemental_takes_array, references_itself}
use Rattle.proc_check.specs.Rules.{has_other_lengths}
use Rattle.proc_check.specs.Listed.{broken_if, argument_breaks, out_breaks, purity_breaks, actual_breaks, recursion_breaks}
use Rattle.proc_check.specs.Listed.{length_breaks, breaks_from_42, breaks_from_43, breaks_from_44, breaks_from_45, reference_breaks}
use Rattle.proc_check.specs.Listed.{act_breaks, heading_breaks, entity_breaks, declaration_breaks, array_breaks, result_breaks}
use Rattle.proc_check.specs.Listed.{statement_breaks, breaks_behind_declarations, breaks_behind_heading, home_breaks, breaks_of}
use Rattle.proc_check.specs.Laws.{ListedAreBroken, FirstIsLeast, NoneIsUnbroken}

-- ---- members of lists that are joined

is_listed : (b : Bool) (line rule : ℕ) → b ≡ true → Member (broken_if b line rule) (broken_at line rule)
is_listed true line rule e = inl refl
is_listed false line rule e = cc

-- what such a list has is the one break, where the test holds
from_listed : (P : ℕ → ℕ → Type 0) (t : Bool) (line rule : ℕ) → (t ≡ true → P line rule) → (b : Break)
    → Member (broken_if t line rule) b → P b.line b.rule
from_listed P true line rule holds b (inl e) = subst (λ (d : Break). P d.line d.rule) e (holds refl)
from_listed P true line rule holds b (inr h) = absurd h
from_listed P false line rule holds b h = absurd h

both : (P : ℕ → ℕ → Type 0) (xs ys : List Break) → ((b : Break) → Member xs b → P b.line b.rule)
    → ((b : Break) → Member ys b → P b.line b.rule) → (b : Break) → Member (xs ++ ys) b → P b.line b.rule
both P xs ys f g b m = elim (Member-append_cases xs ys b m) [ inl here ↦ f b here | inr there ↦ g b there ]

-- two lists, each of one break under a test
pair : (P : ℕ → ℕ → Type 0) (s t : Bool) (line rule other_line other_rule : ℕ) → (s ≡ true → P line rule)
    → (t ≡ true → P other_line other_rule) → (b : Break)
    → Member (broken_if s line rule ++ broken_if t other_line other_rule) b → P b.line b.rule
pair P s t line rule other_line other_rule f g =
    both P (broken_if s line rule) (broken_if t other_line other_rule) (from_listed P s line rule f)
    (from_listed P t other_line other_rule g)

module _ (u : Program) (h : Home) (among : Member (homes u) h) where
  reference_sound : (r : Reference) → Member (acts h) (References r) → (b : Break) → Member (reference_breaks (caller_in u h) r) b
      → Breaks u b.line b.rule
  reference_sound r m =
      let c : Caller = caller_in u h in
      both (Breaks u) (argument_breaks c r) (breaks_from_42 c r)
      (from_listed (Breaks u) (is_mismatch (callee c r) r) r.line wrong_arguments (has_wrong_arguments h r among m))
      (both (Breaks u) (out_breaks c r) (breaks_from_43 c r)
      (from_listed (Breaks u) (has_wrong_out c (callee c r) r) r.line wrong_out_argument (changes_no_variable h r among m))
      (both (Breaks u) (purity_breaks c r) (breaks_from_44 c r)
      (from_listed (Breaks u) (is_impure_call c (callee c r)) r.line not_pure (references_impure h r among m))
      (both (Breaks u) (actual_breaks c r) (breaks_from_45 c r)
      (from_listed (Breaks u) (has_array_actual (callee c r) r) r.line not_elemental (elemental_takes_array h r among m))
      (pair (Breaks u) (is_unmarked_recursion c r) (has_other_length (callee c r) r) r.line not_recursive r.line lengths_differ
      (references_itself h r among m) (has_other_lengths h r among m)))))

  act_sound : (a : Act) → Member (acts h) a → (b : Break) → Member (act_breaks (caller_in u h) a) b → Breaks u b.line b.rule
  act_sound (References r) m = reference_sound r m
  act_sound (Transfers line) m = from_listed (Breaks u) (is_pure h.of) line not_pure (transfers_in_pure h line among m)

  heading_sound : (b : Break) → Member (heading_breaks h.of) b → Breaks u b.line b.rule
  heading_sound =
      pair (Breaks u) (is_impure_function h.of) (is_recursive_elemental h.of) h.of.line not_pure h.of.line not_elemental
      (function_is_not_pure h among) (elemental_is_recursive h among)

  entity_sound : (e : Entity) → Member h.of.entities e → (b : Break) → Member (entity_breaks h.of e) b → Breaks u b.line b.rule
  entity_sound e m =
      pair (Breaks u) (changes_dummy h.of e) (has_array_dummy h.of e) e.line not_pure e.line not_elemental
      (function_changes_dummy h e among m) (elemental_has_array_dummy h e among m)

  array_sound : (o : Option Entity) → result_of h.of ≡ o → (b : Break) → Member (array_breaks h.of.elemental o) b
      → Breaks u b.line b.rule
  array_sound None e b m = absurd m
  array_sound (Some x) e b m =
      from_listed (Breaks u) (h.of.elemental && is_array x) x.line not_elemental (elemental_has_array_result h x among e) b m

  declarations_sound : (b : Break) → Member (declaration_breaks h.of) b → Breaks u b.line b.rule
  declarations_sound b m =
      let found = Member-from_flat_map (entity_breaks h.of) h.of.entities b m in
      entity_sound found.0 found.1.0 b found.1.1

  statements_sound : (b : Break) → Member (statement_breaks u h) b → Breaks u b.line b.rule
  statements_sound b m =
      let found = Member-from_flat_map (act_breaks (caller_in u h)) (acts h) b m in
      act_sound found.0 found.1.0 b found.1.1

  home_sound : (b : Break) → Member (home_breaks u h) b → Breaks u b.line b.rule
  home_sound =
      both (Breaks u) (heading_breaks h.of) (breaks_behind_heading u h) heading_sound
      (both (Breaks u) (declaration_breaks h.of) (breaks_behind_declarations u h) declarations_sound
      (both (Breaks u) (result_breaks h.of) (statement_breaks u h) (array_sound (result_of h.of) refl) statements_sound))

sound : (u : Program) (b : Break) → Member (breaks_of u) b → Breaks u b.line b.rule
sound u b m =
    let found = Member-from_flat_map (home_breaks u) (homes u) b m in
    home_sound u found.0 found.1.0 b found.1.1

-- ---- all that is broken is listed

module _ (u : Program) (h : Home) (among : Member (homes u) h) where
  in_home : (b : Break) → Member (home_breaks u h) b → Member (breaks_of u) b
  in_home b m = Member-flat_map (home_breaks u) (homes u) h b among m

  in_heading : (b : Break) → Member (heading_breaks h.of) b → Member (breaks_of u) b
  in_heading b m = in_home b (Member-append_left (heading_breaks h.of) (breaks_behind_heading u h) b m)

  behind_heading : (b : Break) → Member (breaks_behind_heading u h) b → Member (breaks_of u) b
  behind_heading b m = in_home b (Member-append_right (heading_breaks h.of) (breaks_behind_heading u h) b m)

  in_entity : (e : Entity) → Member h.of.entities e → (b : Break) → Member (entity_breaks h.of e) b → Member (breaks_of u) b
  in_entity e is b m =
      behind_heading b (Member-append_left (declaration_breaks h.of) (breaks_behind_declarations u h) b
      (Member-flat_map (entity_breaks h.of) h.of.entities e b is m))

  behind_declarations : (b : Break) → Member (breaks_behind_declarations u h) b → Member (breaks_of u) b
  behind_declarations b m =
      behind_heading b (Member-append_right (declaration_breaks h.of) (breaks_behind_declarations u h) b m)

  in_result : (b : Break) → Member (result_breaks h.of) b → Member (breaks_of u) b
  in_result b m = behind_declarations b (Member-append_left (result_breaks h.of) (statement_breaks u h) b m)

  in_act : (a : Act) → Member (acts h) a → (b : Break) → Member (act_breaks (caller_in u h) a) b → Member (breaks_of u) b
  in_act a is b m =
      behind_declarations b (Member-append_right (result_breaks h.of) (statement_breaks u h) b
      (Member-flat_map (act_breaks (caller_in u h)) (acts h) a b is m))

  module _ (r : Reference) (made : Member (acts h) (References r)) where
    in_arguments : Member (argument_breaks (caller_in u h) r) (broken_at r.line wrong_arguments)
        → Member (breaks_of u) (broken_at r.line wrong_arguments)
    in_arguments m =
        in_act (References r) made (broken_at r.line wrong_arguments)
        (Member-append_left (argument_breaks (caller_in u h) r) (breaks_from_42 (caller_in u h) r)
        (broken_at r.line wrong_arguments) m)

    from_42 : (b : Break) → Member (breaks_from_42 (caller_in u h) r) b → Member (breaks_of u) b
    from_42 b m =
        in_act (References r) made b
        (Member-append_right (argument_breaks (caller_in u h) r) (breaks_from_42 (caller_in u h) r) b m)

    from_43 : (b : Break) → Member (breaks_from_43 (caller_in u h) r) b → Member (breaks_of u) b
    from_43 b m = from_42 b (Member-append_right (out_breaks (caller_in u h) r) (breaks_from_43 (caller_in u h) r) b m)

    from_44 : (b : Break) → Member (breaks_from_44 (caller_in u h) r) b → Member (breaks_of u) b
    from_44 b m = from_43 b (Member-append_right (purity_breaks (caller_in u h) r) (breaks_from_44 (caller_in u h) r) b m)

    from_45 : (b : Break) → Member (breaks_from_45 (caller_in u h) r) b → Member (breaks_of u) b
    from_45 b m = from_44 b (Member-append_right (actual_breaks (caller_in u h) r) (breaks_from_45 (caller_in u h) r) b m)

complete : (u : Program) (line rule : ℕ) → Breaks u line rule → Member (breaks_of u) (broken_at line rule)
complete u _ _ (has_wrong_arguments h r among m e) =
    in_arguments u h among r m (is_listed (is_mismatch (callee (caller_in u h) r) r) r.line wrong_arguments e)
complete u _ _ (changes_no_variable h r among m e) =
    from_42 u h among r m (broken_at r.line wrong_out_argument)
    (Member-append_left (out_breaks (caller_in u h) r) (breaks_from_43 (caller_in u h) r) (broken_at r.line wrong_out_argument)
    (is_listed (has_wrong_out (caller_in u h) (callee (caller_in u h) r) r) r.line wrong_out_argument e))
complete u _ _ (function_is_not_pure h among e) =
    in_heading u h among (broken_at h.of.line not_pure)
    (Member-append_left (broken_if (is_impure_function h.of) h.of.line not_pure)
    (broken_if (is_recursive_elemental h.of) h.of.line not_elemental) (broken_at h.of.line not_pure)
    (is_listed (is_impure_function h.of) h.of.line not_pure e))
complete u _ _ (function_changes_dummy h x among m e) =
    in_entity u h among x m (broken_at x.line not_pure)
    (Member-append_left (broken_if (changes_dummy h.of x) x.line not_pure) (broken_if (has_array_dummy h.of x) x.line not_elemental)
    (broken_at x.line not_pure) (is_listed (changes_dummy h.of x) x.line not_pure e))
complete u _ _ (transfers_in_pure h line among m e) =
    in_act u h among (Transfers line) m (broken_at line not_pure) (is_listed (is_pure h.of) line not_pure e)
complete u _ _ (references_impure h r among m e) =
    from_43 u h among r m (broken_at r.line not_pure)
    (Member-append_left (purity_breaks (caller_in u h) r) (breaks_from_44 (caller_in u h) r) (broken_at r.line not_pure)
    (is_listed (is_impure_call (caller_in u h) (callee (caller_in u h) r)) r.line not_pure e))
complete u _ _ (elemental_is_recursive h among e) =
    in_heading u h among (broken_at h.of.line not_elemental)
    (Member-append_right (broken_if (is_impure_function h.of) h.of.line not_pure)
    (broken_if (is_recursive_elemental h.of) h.of.line not_elemental) (broken_at h.of.line not_elemental)
    (is_listed (is_recursive_elemental h.of) h.of.line not_elemental e))
complete u _ _ (elemental_has_array_dummy h x among m e) =
    in_entity u h among x m (broken_at x.line not_elemental)
    (Member-append_right (broken_if (changes_dummy h.of x) x.line not_pure)
    (broken_if (has_array_dummy h.of x) x.line not_elemental)
    (broken_at x.line not_elemental) (is_listed (has_array_dummy h.of x) x.line not_elemental e))
complete u _ _ (elemental_has_array_result h x among is e) =
    in_result u h among (broken_at x.line not_elemental)
    (subst (λ o. Member (array_breaks h.of.elemental o) (broken_at x.line not_elemental)) (sym is)
    (is_listed (h.of.elemental && is_array x) x.line not_elemental e))
complete u _ _ (elemental_takes_array h r among m e) =
    from_44 u h among r m (broken_at r.line not_elemental)
    (Member-append_left (actual_breaks (caller_in u h) r) (breaks_from_45 (caller_in u h) r) (broken_at r.line not_elemental)
    (is_listed (has_array_actual (callee (caller_in u h) r) r) r.line not_elemental e))
complete u _ _ (references_itself h r among m e) =
    from_45 u h among r m (broken_at r.line not_recursive)
    (Member-append_left (recursion_breaks (caller_in u h) r) (length_breaks (caller_in u h) r) (broken_at r.line not_recursive)
    (is_listed (is_unmarked_recursion (caller_in u h) r) r.line not_recursive e))
complete u _ _ (has_other_lengths h r among m e) =
    from_45 u h among r m (broken_at r.line lengths_differ)
    (Member-append_right (recursion_breaks (caller_in u h) r) (length_breaks (caller_in u h) r) (broken_at r.line lengths_differ)
    (is_listed (has_other_length (callee (caller_in u h) r) r) r.line lengths_differ e))

pub listed_are_broken : ListedAreBroken
listed_are_broken u = record { sound = sound u; complete = complete u }

pub first_is_least_of : FirstIsLeast
first_is_least_of u b e = first_is_least (Breaks u) (breaks_of u) b (listed_are_broken u) e

pub none_is_unbroken : NoneIsUnbroken
none_is_unbroken u e line rule h = none_among (breaks_of u) e (broken_at line rule) ((listed_are_broken u).complete line rule h)
