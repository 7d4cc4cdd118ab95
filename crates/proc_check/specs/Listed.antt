-- All that a unit breaks, as one list: procedure by procedure, of each its prefixes, its declarations, its result, and what its
-- statements do.
use Rattle.std.specs.Prelude.{ℕ, Bool, true, false, ◌&&◌, List, [], ◌∷◌, ◌++◌, Option, Some, None}
use Rattle.std.specs.List.{flat_map}
use Rattle.a95_base.specs.declared.breaks.Break.{Break}
use Rattle.a95_base.specs.Breaks.{broken_at}
use Rattle.a95_base.specs.Rules.{wrong_arguments, wrong_out_argument, not_pure, not_elemental, not_recursive, lengths_differ}
use Rattle.f95_unit.specs.Plain.{Entity, Procedure, Program}
use Rattle.proc_calls.specs.declared.caller.Caller.{Caller}
use Rattle.proc_calls.specs.Acts.{Reference, References, Act, Transfers}
use Rattle.proc_calls.specs.Rules.{is_mismatch, has_wrong_out, is_impure_call, has_array_actual, is_unmarked_recursion}
use Rattle.proc_calls.specs.Rules.{has_other_length, Home, callee}
use Rattle.proc_check.specs.Rules.{is_impure_function, changes_dummy, is_recursive_elemental, is_array, has_array_dummy, result_of}
use Rattle.proc_check.specs.Rules.{homes, caller_in, acts}

-- where a test holds, the rule is broken on the line
abbrev pub broken_if : Bool → ℕ → ℕ → List Break
broken_if true line rule = broken_at line rule ∷ []
broken_if false line rule = []

-- what a reference breaks, by rule
abbrev pub argument_breaks : Caller → Reference → List Break
argument_breaks c r = broken_if (is_mismatch (callee c r) r) r.line wrong_arguments

abbrev pub out_breaks : Caller → Reference → List Break
out_breaks c r = broken_if (has_wrong_out c (callee c r) r) r.line wrong_out_argument

abbrev pub purity_breaks : Caller → Reference → List Break
purity_breaks c r = broken_if (is_impure_call c (callee c r)) r.line not_pure

abbrev pub actual_breaks : Caller → Reference → List Break
actual_breaks c r = broken_if (has_array_actual (callee c r) r) r.line not_elemental

abbrev pub recursion_breaks : Caller → Reference → List Break
recursion_breaks c r = broken_if (is_unmarked_recursion c r) r.line not_recursive

abbrev pub length_breaks : Caller → Reference → List Break
length_breaks c r = broken_if (has_other_length (callee c r) r) r.line lengths_differ

-- from rule 45 on, and so on down to rule 41
abbrev pub breaks_from_45 : Caller → Reference → List Break
breaks_from_45 c r = recursion_breaks c r ++ length_breaks c r

abbrev pub breaks_from_44 : Caller → Reference → List Break
breaks_from_44 c r = actual_breaks c r ++ breaks_from_45 c r

abbrev pub breaks_from_43 : Caller → Reference → List Break
breaks_from_43 c r = purity_breaks c r ++ breaks_from_44 c r

abbrev pub breaks_from_42 : Caller → Reference → List Break
breaks_from_42 c r = out_breaks c r ++ breaks_from_43 c r

abbrev pub reference_breaks : Caller → Reference → List Break
reference_breaks c r = argument_breaks c r ++ breaks_from_42 c r

abbrev pub act_breaks : Caller → Act → List Break
act_breaks c (References r) = reference_breaks c r
act_breaks c (Transfers line) = broken_if c.pure line not_pure

abbrev pub heading_breaks : Procedure → List Break
heading_breaks p = broken_if (is_impure_function p) p.line not_pure ++ broken_if (is_recursive_elemental p) p.line not_elemental

abbrev pub entity_breaks : Procedure → Entity → List Break
entity_breaks p e = broken_if (changes_dummy p e) e.line not_pure ++ broken_if (has_array_dummy p e) e.line not_elemental

abbrev pub declaration_breaks : Procedure → List Break
declaration_breaks p = flat_map (entity_breaks p) p.entities

abbrev pub array_breaks : Bool → Option Entity → List Break
array_breaks elemental None = []
array_breaks elemental (Some e) = broken_if (elemental && is_array e) e.line not_elemental

abbrev pub statement_breaks : Program → Home → List Break
statement_breaks u h = flat_map (act_breaks (caller_in u h)) (acts h)

abbrev pub result_breaks : Procedure → List Break
result_breaks p = array_breaks p.elemental (result_of p)

abbrev pub breaks_behind_declarations : Program → Home → List Break
breaks_behind_declarations u h = result_breaks h.of ++ statement_breaks u h

abbrev pub breaks_behind_heading : Program → Home → List Break
breaks_behind_heading u h = declaration_breaks h.of ++ breaks_behind_declarations u h

abbrev pub home_breaks : Program → Home → List Break
home_breaks u h = heading_breaks h.of ++ breaks_behind_heading u h

-- the breaks of a unit
abbrev pub breaks_of : Program → List Break
breaks_of u = flat_map (home_breaks u) (homes u)
