-- What a command came to, with its note: the answer is that, or the failure of the note.
use Rattle.std.proofs.Common.{◌≡◌, ◌⊎◌, inl, inr, refl, sym, subst, ◌∙◌, ℕ, List, Option, Some}
use Rattle.std.specs.Prelude.{IfSome}
use Rattle.rank_one.specs.declared.unit.Unit.{Unit}
use Rattle.f95_source.specs.Source.{Reads, IsBroken}
use Rattle.f95a_core.specs.declared.status.Status.{Status}
use Rattle.f95a_core.specs.declared.status.Status.TheVariants as status
use Rattle.f95a_core.specs.Outside.{Files, Stream, IsTold}
use Rattle.f95a_core.specs.Answers.{Noted, Answers, IsFailure}
use Rattle.f95a_core.specs.Building.{BuildComesTo, BuildsUnbroken, BuildsNoOther}

pub answered : (result came : Status) (before after : Stream) (P : Status → Type 0) → Noted came result before after → P came →
    Answers result before after P
answered result came before after P noted holds = record { came = came; noted = noted; holds = holds }

-- what is told is one list of bytes
pub one_told : (told : Option (List ℕ)) (a b : List ℕ) → IsTold told a → told ≡ Some b → a ≡ b
one_told told a b h e = sym (subst (λ (t : Option (List ℕ)). IfSome t (λ x. x ≡ a)) e h)

-- an answer that was due a note may have become a failure
pub failure_stays : (came result : Status) (before after : Stream) → Noted came result before after → IsFailure came →
    IsFailure result
failure_stays came result before after (inl w) f = subst IsFailure (sym w.answer) f
failure_stays came result before after (inr (inl w)) f = inr (inl w.answer)
failure_stays came result before after (inr (inr w)) f = inr (inr w.answer)

pub same_or_failure : (came result : Status) (before after : Stream) → Noted came result before after →
    (result ≡ came) ⊎ IsFailure result
same_or_failure came result before after (inl w) = inl w.answer
same_or_failure came result before after (inr (inl w)) = inr (inr (inl w.answer))
same_or_failure came result before after (inr (inr w)) = inr (inr (inr w.answer))

done_by : (came result : Status) (before after : Stream) → Noted came result before after → result ≡ status.Done →
    came ≡ status.Done
done_by came result before after (inl w) e = sym w.answer ∙ e
done_by came result before after (inr (inl w)) e = let d = sym w.answer ∙ e in absurd cc
done_by came result before after (inr (inr w)) e = let d = sym w.answer ∙ e in absurd cc

pub builds_unbroken : (name : List ℕ) (files files' : Files) (out out' notes notes' : Stream) (same : Type 0) (came result : Status)
    →
    Noted came result notes notes' → BuildComesTo name files files' out out' same came → BuildsUnbroken (files.file name) result
builds_unbroken name files files' out out' notes notes' same status.Done result noted h bytes e unbroken =
    same_or_failure status.Done result notes notes' noted
builds_unbroken name files files' out out' notes notes' same (status.Refused phase line rule) result noted h bytes e unbroken =
    absurd (unbroken phase line.0 rule.0
    (subst (λ (b : List ℕ). IsBroken b phase line.0 rule.0) (one_told (files.file name) h.1.bytes bytes h.1.is e)
    h.1.holds.broken))
builds_unbroken name files files' out out' notes notes' same status.ReadFault result noted h bytes e unbroken =
    inr (failure_stays status.ReadFault result notes notes' noted (inl refl))
builds_unbroken name files files' out out' notes notes' same status.WriteFault result noted h bytes e unbroken =
    inr (failure_stays status.WriteFault result notes notes' noted (inr (inl refl)))
builds_unbroken name files files' out out' notes notes' same status.Memory result noted h bytes e unbroken =
    inr (failure_stays status.Memory result notes notes' noted (inr (inr refl)))
builds_unbroken name files files' out out' notes notes' same other result noted h bytes e unbroken = absurd h

-- bytes that read as a unit break no rule
abbrev pub BreaksNothing : Type 0
BreaksNothing = (bytes : List ℕ) (unit : Unit) (phase line rule : ℕ) → Reads bytes unit → IsBroken bytes phase line rule → ⊥

-- where the source was built, it reads as a unit, and so breaks nothing
not_built : BreaksNothing → (name : List ℕ) (files files' : Files) (out out' : Stream) (same : Type 0) (came : Status) →
    came ≡ status.Done → BuildComesTo name files files' out out' same came →
    (bytes : List ℕ) (phase line rule : ℕ) → files.file name ≡ Some bytes → IsBroken bytes phase line rule → ⊥
not_built nothing name files files' out out' same came is h bytes phase line rule e broken =
    let built = subst (λ (s : Status). BuildComesTo name files files' out out' same s) is h in
    nothing bytes built.1.holds.builds.compiles.unit phase line rule
    (subst (λ (b : List ℕ). Reads b built.1.holds.builds.compiles.unit)
    (one_told (files.file name) built.1.bytes bytes built.1.is e) built.1.holds.builds.compiles.reads) broken

pub builds_no_other : BreaksNothing → (name : List ℕ) (files files' : Files) (out out' notes notes' : Stream) (same : Type 0)
    (came result : Status) →
    Noted came result notes notes' → BuildComesTo name files files' out out' same came → BuildsNoOther (files.file name) result
builds_no_other nothing name files files' out out' notes notes' same came result noted h bytes phase line rule e broken done =
    not_built nothing name files files' out out' same came (done_by came result notes notes' noted done) h bytes phase line rule e
    broken
