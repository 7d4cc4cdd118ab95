-- What is made of a piece of a source, and all questions that it asks. Nothing is made of what breaks a rule, or stands on such a
-- part; both parts of a pair are looked at.
use Rattle.std.specs.Prelude.{List, [], ◌∷◌, ◌++◌, Option, Some, None}
use Rattle.constant_operators.specs.Operators.{only_if}
use Rattle.well_typed.specs.Questions.{Question}
use Rattle.well_typed.specs.Rules.{is_settled}

pub record Found (A : Type 0) : Type 0 where
  pub made : Option A
  pub asked : List Question

abbrev pub found : {A : Type 0} → A → Found A
found a = record { made = Some a; asked = [] }

abbrev pub nothing : {A : Type 0} → Found A
nothing = record { made = None; asked = [] }

-- made where the question is answered well
abbrev pub asking : {A : Type 0} → Question → A → Found A
asking q a = record { made = only_if (is_settled q) a; asked = q ∷ [] }

abbrev pub asked_before : {A : Type 0} → List Question → Found A → Found A
asked_before qs m = record { made = m.made; asked = qs ++ m.asked }

abbrev pub continued : {A B : Type 0} → List Question → Option A → (A → Found B) → Found B
continued qs None f = record { made = None; asked = qs }
continued qs (Some a) f = asked_before qs (f a)

abbrev pub then_found : {A B : Type 0} → Found A → (A → Found B) → Found B
then_found m f = continued m.asked m.made f

abbrev pub mapped : {A B : Type 0} → (A → B) → Found A → Found B
mapped f m = then_found m (λ a. found (f a))

abbrev pub pair_made : {A B : Type 0} → Option A → Option B → Option (A × B)
pair_made None n = None
pair_made (Some a) None = None
pair_made (Some a) (Some b) = Some (a, b)

abbrev pub both : {A B : Type 0} → Found A → Found B → Found (A × B)
both m n = record { made = pair_made m.made n.made; asked = m.asked ++ n.asked }

-- what is made of each
abbrev pub each_found : {A B : Type 0} → (A → Found B) → List A → Found (List B)
each_found f [] = found []
each_found f (a ∷ more) = mapped (λ p. p.0 ∷ p.1) (both (f a) (each_found f more))

abbrev pub maybe_found : {A B : Type 0} → (A → Found B) → Option A → Found (Option B)
maybe_found f None = found None
maybe_found f (Some a) = mapped Some (f a)

-- made only where the question is answered well, which is asked beside
abbrev pub and_asking : {A : Type 0} → Question → Found A → Found A
and_asking q m = mapped (λ p. p.1) (both (asking q q) m)
