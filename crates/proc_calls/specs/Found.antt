-- The first break so far, and what one reference, or one statement that does input, output or STOP, makes of it.
use Rattle.std.specs.Prelude.{ℕ, Bool, true, false, if◌then◌else◌, Option, Some, None}
use Rattle.a95_base.specs.declared.breaks.Break.{Break}
use Rattle.a95_base.specs.Breaks.{broken_at, comes_first}
use Rattle.a95_base.specs.Rules.{wrong_arguments, wrong_out_argument, not_pure, not_elemental, not_recursive, lengths_differ}
use Rattle.proc_calls.specs.declared.interface.Interface.{Interface}
use Rattle.proc_calls.specs.declared.caller.Caller.{Caller}
use Rattle.proc_calls.specs.Acts.{Reference, References, Act, Transfers}
use Rattle.proc_calls.specs.Rules.{is_mismatch, has_wrong_out, is_impure_call, has_array_actual, is_itself, is_unmarked_recursion}
use Rattle.proc_calls.specs.Rules.{has_other_length, callee}

abbrev pub Found : Type 0
Found = Option Break

abbrev pub earlier : Found → Break → Found
earlier None b = Some b
earlier (Some a) b = Some (if comes_first a b then a else b)

abbrev pub noted : Found → Bool → ℕ → ℕ → Found
noted found true line rule = earlier found (broken_at line rule)
noted found false line rule = found

abbrev pub told_reference : Caller → Option Interface → Found → Reference → Found
told_reference c i found r =
    noted (noted (noted (noted (noted (noted found (is_mismatch i r) r.line wrong_arguments)
    (has_wrong_out c i r) r.line wrong_out_argument) (is_impure_call c i) r.line not_pure)
    (has_array_actual i r) r.line not_elemental) (is_unmarked_recursion c r) r.line not_recursive)
    (has_other_length i r) r.line lengths_differ

-- the same, where what is named is no procedure
abbrev pub told_of_none : Caller → Found → ℕ → ℕ → Found
told_of_none c found line number =
    noted (noted found true line wrong_arguments) (is_itself c number) line not_recursive

unfoldable pub told : Caller → Found → Act → Found
told c found (References r) = told_reference c (callee c r) found r
told c found (Transfers line) = noted found c.pure line not_pure
