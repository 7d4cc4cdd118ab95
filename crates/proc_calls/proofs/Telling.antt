-- What a reference makes of the first break, where it names a procedure and where it names none.
use Rattle.std.proofs.Common.{ℕ, Bool, ◌≡◌, refl, ap, ◌∙◌, Some, None}
use Rattle.a95_base.specs.Rules.{wrong_arguments, wrong_out_argument, not_pure, not_elemental, not_recursive, lengths_differ}
use Rattle.proc_calls.specs.declared.interface.Interface.{Interface}
use Rattle.proc_calls.specs.declared.caller.Caller.{Caller}
use Rattle.proc_calls.specs.Acts.{Reference, References}
use Rattle.proc_calls.specs.Rules.{is_mismatch, has_wrong_out, is_impure_call, has_array_actual, is_unmarked_recursion}
use Rattle.proc_calls.specs.Rules.{has_other_length, callee, procedure_number}
use Rattle.proc_calls.specs.Found.{Found, noted, told_reference, told_of_none, told}

pub told_none : (c : Caller) (found : Found) (r : Reference) → callee c r ≡ None
    → told c found (References r) ≡ told_of_none c found r.line (procedure_number r.of)
unfolding told
told_none c found r e = ap (λ i. told_reference c i found r) e

pub told_some : (c : Caller) (found : Found) (r : Reference) (i : Interface) → callee c r ≡ Some i
    → told c found (References r) ≡ told_reference c (Some i) found r
unfolding told
told_some c found r i e = ap (λ j. told_reference c j found r) e

noted_same : {a b : Found} {s t : Bool} (line rule : ℕ) → a ≡ b → s ≡ t → noted a s line rule ≡ noted b t line rule
noted_same line rule e f = cc

-- rule by rule, each behind the one before
pub told_in_turn : (c : Caller) (i : Interface) (r : Reference) (found : Found)
    {first second third fourth fifth sixth : Found}
    {mismatch out impure array itself length : Bool} → mismatch ≡ is_mismatch (Some i) r → out ≡ has_wrong_out c (Some i) r
    → impure ≡ is_impure_call c (Some i) → array ≡ has_array_actual (Some i) r → itself ≡ is_unmarked_recursion c r
    → length ≡ has_other_length (Some i) r → first ≡ noted found mismatch r.line wrong_arguments
    → second ≡ noted first out r.line wrong_out_argument → third ≡ noted second impure r.line not_pure
    → fourth ≡ noted third array r.line not_elemental → fifth ≡ noted fourth itself r.line not_recursive
    → sixth ≡ noted fifth length r.line lengths_differ → sixth ≡ told_reference c (Some i) found r
told_in_turn c i r found m o p a s l e1 e2 e3 e4 e5 e6 =
    e6 ∙ noted_same r.line lengths_differ (e5 ∙ noted_same r.line not_recursive (e4 ∙ noted_same r.line not_elemental (e3
    ∙ noted_same r.line not_pure (e2 ∙ noted_same r.line wrong_out_argument (e1 ∙ noted_same r.line wrong_arguments refl m) o) p)
    a) s) l
