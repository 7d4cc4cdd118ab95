-- A value has as many elements as its extents say, and shapes that conform are one.
use Rattle.std.proofs.Common.{◌≡◌, refl, sym, ap, ◌∙◌, subst, ℕ, zero, suc, Bool, true, false, List, [], ◌∷◌, length, inl, inr}
use Rattle.std.specs.Prelude.{if◌then◌else◌, Result, Ok, Err}
use Rattle.std.specs.Cmp.Lexicographic.{same_text}
use Rattle.a95_base.specs.declared.fault.FaultKind.{FaultKind}
use Rattle.a95_base.specs.declared.fault.FaultKind.TheVariants as fault
use Rattle.a95_base.specs.Steps.{pure, behind, ◌>>=◌, ◌>>◌}
use Rattle.array_meaning.specs.Values.{Value, size_of, is_shape}
use Rattle.array_meaning.specs.State.{State, Halt, Step}
use Rattle.array_meaning.specs.Trees.{Tree, Caller, element, all_from, whole}
use Rattle.array_meaning.specs.Expressions.{prepare}
use Rattle.array_meaning.specs.RunLaws.{ValuesAreFull, ConformingIsOneShape}

-- where a step comes to a value, something holds of it
pub record Gives {A : Type 0} (P : A → Type 0) (m : Step A) : Type 0 where
  pub gives : (s : State) (a : A) → (m s).came ≡ Ok a → P a

pub value_or : {A E : Type 0} → A → Result A E → A
value_or d (Ok a) = a
value_or d (Err halt) = d

abbrev pub ok : {A E : Type 0} → A → Result A E
ok a = Ok a

pub ok_same : {A E : Type 0} (a b : A) → ok {E = E} a ≡ ok b → a ≡ b
unfolding value_or
ok_same a b e = ap (value_or a) e

pub gives_pure : {A : Type 0} (P : A → Type 0) (a : A) → P a → Gives P (pure a)
unfolding pure
gives_pure P a h = record { gives = λ s b e. subst P (ok_same {E = Halt} a b e) h }

gives_behind : {A B : Type 0} (Q : A → Type 0) (P : B → Type 0) (f : A → Step B) (came : Result A Halt) (s : State) →
    ((a : A) → came ≡ Ok a → Q a)
    → ((a : A) → Q a → Gives P (f a)) → (b : B) → (behind f came s).came ≡ Ok b → P b
unfolding behind
gives_behind Q P f (Ok a) s q g b e = (g a (q a refl)).gives s b e
gives_behind Q P f (Err halt) s q g b e = cc

pub gives_then : {A B : Type 0} (Q : A → Type 0) (P : B → Type 0) {m : Step A} {f : A → Step B} → Gives Q m →
    ((a : A) → Q a → Gives P (f a)) → Gives P (m >>= f)
unfolding ◌>>=◌
gives_then Q P {m = m} {f = f} h g = record { gives = λ s b e. gives_behind Q P f (m s).came (m s).after (h.gives s) g b e }

pub gives_any : {A : Type 0} (m : Step A) → Gives (λ a. Unit {0}) m
gives_any m = record { gives = λ s a e. tt }

pub gives_next : {A B : Type 0} (P : B → Type 0) (m : Step A) {n : Step B} → Gives P n → Gives P (m >> n)
unfolding ◌>>◌ ◌>>=◌
gives_next P m {n = n} g = record { gives = (gives_then (λ a. Unit {0}) P {f = λ a. n} (gives_any m) (λ a u. g)).gives }

module _ (calls : Caller) (line : ℕ) where
  pub all_length : (k n : ℕ) (t : Tree) → Gives (λ xs. length xs ≡ n) (all_from calls line k n t)
  unfolding all_from
  all_length k zero t = gives_pure (λ xs. length xs ≡ zero) [] refl
  all_length k (suc n) t = gives_then (λ x. Unit {0}) (λ xs. length xs ≡ suc n) (gives_any (element calls line t k))
      (λ x u. gives_then (λ xs. length xs ≡ n) (λ xs. length xs ≡ suc n) (all_length (suc k) n t)
      (λ xs h. gives_pure (λ ys. length ys ≡ suc n) (x ∷ xs) (ap suc h)))

  IsFull : Value → Type 0
  IsFull v = length v.elements ≡ size_of v.extents

  whole_full : (t : Tree) → Gives IsFull (whole calls line t)
  unfolding whole IsFull
  whole_full t = gives_then (λ extents. Unit {0}) IsFull (gives_any _)
      (λ extents u. gives_then (λ xs. length xs ≡ size_of extents) IsFull (all_length 0 (size_of extents) t)
      (λ xs h. gives_pure IsFull _ h))

pub values_full : ValuesAreFull
unfolding IsFull
values_full unit calls line ix e =
    (gives_then (λ t. Unit {0}) (IsFull calls line) (gives_any (prepare unit calls line ix e))
    (λ t u. whole_full calls line t)).gives

-- ---- shapes

pub both_by : (b : Bool) (first second both : List ℕ) → is_shape first second ≡ b →
    (if b then Ok first else Err fault.Shape) ≡ Ok both → (first ≡ both) × (second ≡ both)
both_by true first second both e h = let f : first ≡ both = ok_same {E = FaultKind} first both h in
    (f, sym (same_text first second (sym e)) ∙ f)
both_by false first second both e h = cc

pub one_shape : ConformingIsOneShape
one_shape [] second both h = (inl refl, inr (ok_same {E = FaultKind} second both h))
one_shape (n ∷ first) [] both h = (inr (ok_same {E = FaultKind} (n ∷ first) both h), inl refl)
one_shape (n ∷ first) (m ∷ second) both h =
    let p : ((n ∷ first) ≡ both) × ((m ∷ second) ≡ both) = both_by (is_shape (n ∷ first) (m ∷ second)) (n ∷ first)
    (m ∷ second) both refl h in (inr p.0, inr p.1)
