-- The first of what is broken along the run is the least of all that the forms break; where nothing is, they nest.
use Rattle.std.proofs.Common.{◌≡◌, ℕ, List, [], ◌∷◌, ◌++◌, Some, sym, ◌∙◌, ap, refl}
use Rattle.f95_tree.specs.declared.source.Source.{Source}
use Rattle.f95_nesting.specs.declared.open.State.{State}
use Rattle.f95_nesting.specs.declared.open.State.TheVariants as state
use Rattle.f95_nesting.specs.Nesting.{Lined, Nests, IsBroken}
use Rattle.f95_nesting.specs.Machine.{move, run, start, mark}
use Rattle.f95_nesting.specs.Breaks.{then_breaks, step_breaks, passed, end_breaks, breaks}
use Rattle.f95_nesting.proofs.Exact.{read_nests}
use Rattle.f95_nesting.proofs.Judged.{broken_is, is_broken}
use Rattle.a95_base.specs.declared.breaks.Break.{Break}
use Rattle.a95_base.specs.Breaks.{IsLeast, AreBroken, first_of}
use Rattle.a95_base.proofs.First.{first_is_least}
use Rattle.a95_base.proofs.Lists.{no_member}

pub parts_empty : {A : Type 0} (xs ys : List A) → xs ++ ys ≡ [] → (xs ≡ []) × (ys ≡ [])
parts_empty [] ys h = (refl, h)
parts_empty (x ∷ xs) ys h = absurd (cc)

step_goes : (s r : State) (f : Lined) → move s f.0 f.1 ≡ r → (s ≡ state.Stops → ⊥) → step_breaks s f ≡ [] → r ≡ state.Stops → ⊥
step_goes (state.Goes ms p) r f moves goes none stops =
    let e : then_breaks (mark p f.0 f.1) state.Stops ≡ [] = ap (then_breaks (mark p f.0 f.1)) (sym (moves ∙ stops)) ∙ none in
    absurd (cc)
step_goes (state.Ended x) r f moves goes none stops = absurd (cc)
step_goes state.Stops r f moves goes none stops = goes refl

pub passed_goes : (fs : List Lined) (s : State) → (s ≡ state.Stops → ⊥) → passed s fs ≡ [] → run s fs ≡ state.Stops → ⊥
passed_goes [] s goes none stops = goes stops
passed_goes (f ∷ fs) s goes none stops =
    let e = parts_empty (step_breaks s f) (passed (move s f.0 f.1) fs) none in
    passed_goes fs (move s f.0 f.1) (step_goes s (move s f.0 f.1) f refl goes e.0) e.1 stops

pub record Nested (forms : List Lined) : Type 0 where
  pub source : Source
  pub nests : Nests forms source

nested_at : (forms : List Lined) (feeds : ℕ) (s : State) → run start forms ≡ s → (s ≡ state.Stops → ⊥) → end_breaks feeds s ≡ [] →
    Nested forms
nested_at forms feeds (state.Goes ms p) is goes none = absurd (cc)
nested_at forms feeds (state.Ended x) is goes none = record { source = x; nests = read_nests forms x is }
nested_at forms feeds state.Stops is goes none = absurd (goes refl)

-- forms that break no rule nest
pub unbroken_nests : (forms : List Lined) (feeds : ℕ) → ((line rule : ℕ) → IsBroken forms feeds line rule → ⊥) → Nested forms
unbroken_nests forms feeds h =
    let none = no_member (breaks forms feeds) (λ b m. h b.line b.rule (broken_is forms feeds b m)) in
    let e = parts_empty (passed start forms) (end_breaks feeds (run start forms)) none in
    nested_at forms feeds (run start forms) refl (passed_goes forms start (λ (z : start ≡ state.Stops). absurd (cc)) e.0) e.1

-- along the run exactly what the forms break is noted
are_noted : (forms : List Lined) (feeds : ℕ) → AreBroken (IsBroken forms feeds) (breaks forms feeds)
are_noted forms feeds = record {
  sound = λ b. broken_is forms feeds b;
  complete = λ line. λ rule. is_broken forms feeds line rule;
}

-- so the first that is noted is the least
pub first_noted : (forms : List Lined) (feeds : ℕ) (f : Break) → first_of (breaks forms feeds) ≡ Some f →
    IsLeast (IsBroken forms feeds) f.line f.rule
first_noted forms feeds f e = first_is_least (IsBroken forms feeds) (breaks forms feeds) f (are_noted forms feeds) e
