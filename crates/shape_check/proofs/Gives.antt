-- What holds of all that is made: one lemma for each way to make something.
use Rattle.std.proofs.Common.{◌≡◌, length, suc, ap, Bool, true, false, List, [], ◌∷◌, ◌++◌, Option, Some, None, refl}
use Rattle.a95_base.specs.Lists.{Every}
use Rattle.a95_base.proofs.Lists.{Every-append}
use Rattle.well_typed.specs.WellTypedStatements.{Maybe}
use Rattle.constant_operators.specs.Operators.{only_if}
use Rattle.well_typed.specs.Questions.{Question}
use Rattle.well_typed.specs.Rules.{is_settled}
use Rattle.shape_check.specs.Found.{Found, found, nothing, asking, continued, then_found, mapped, pair_made, both, each_found}
use Rattle.shape_check.specs.Found.{maybe_found, and_asking}

abbrev pub Holds : {A : Type 0} → (A → Type 0) → Option A → Type 0
Holds P None = Unit {0}
Holds P (Some a) = P a

abbrev pub AllSettled : List Question → Type 0
AllSettled qs = Every (λ (q : Question). is_settled q ≡ true) qs

-- what is made has the property, and then no question breaks a rule
pub record Gives {A : Type 0} (P : A → Type 0) (m : Found A) : Type 0 where
  pub made : Holds P m.made
  pub settled : Holds (λ (a : A). AllSettled m.asked) m.made

pub gives_found : {A : Type 0} {P : A → Type 0} (a : A) → P a → Gives P (found a)
gives_found a p = record { made = p; settled = tt }

pub gives_nothing : {A : Type 0} {P : A → Type 0} → Gives P nothing
gives_nothing = record { made = tt; settled = tt }

made_if : {A : Type 0} (P : A → Type 0) (t : Bool) (a : A) → (t ≡ true → P a) → Holds P (only_if t a)
made_if P true a h = h refl
made_if P false a h = tt

settled_if : {A : Type 0} (q : Question) (t : Bool) (a : A) → is_settled q ≡ t
    → Holds (λ (x : A). AllSettled (q ∷ [])) (only_if t a)
settled_if q true a e = (e, tt)
settled_if q false a e = tt

pub gives_asking : {A : Type 0} {P : A → Type 0} (q : Question) (a : A) → (is_settled q ≡ true → P a) → Gives P (asking q a)
gives_asking {P = P} q a h = record { made = made_if P (is_settled q) a h; settled = settled_if q (is_settled q) a refl }

by_made : {A B : Type 0} (P : A → Type 0) (Q : B → Type 0) (qs : List Question) (o : Option A) (f : A → Found B) → Holds P o
    → ((a : A) → P a → Gives Q (f a)) → Holds Q (continued qs o f).made
by_made P Q qs None f p h = tt
by_made P Q qs (Some a) f p h = (h a p).made

settled_before : {B : Type 0} (qs rs : List Question) (o : Option B) → AllSettled qs → Holds (λ (b : B). AllSettled rs) o
    → Holds (λ (b : B). AllSettled (qs ++ rs)) o
settled_before qs rs None h g = tt
settled_before qs rs (Some b) h g = Every-append (λ (q : Question). is_settled q ≡ true) qs rs h g

settled_then : {A B : Type 0} (P : A → Type 0) (Q : B → Type 0) (qs : List Question) (o : Option A) (f : A → Found B)
    → Holds P o → Holds (λ (a : A). AllSettled qs) o → ((a : A) → P a → Gives Q (f a))
    → Holds (λ (b : B). AllSettled (continued qs o f).asked) (continued qs o f).made
settled_then P Q qs None f p h g = tt
settled_then P Q qs (Some a) f p h g = settled_before qs (f a).asked (f a).made h (g a p).settled

pub gives_then : {A B : Type 0} {P : A → Type 0} {Q : B → Type 0} (m : Found A) (f : A → Found B) → Gives P m
    → ((a : A) → P a → Gives Q (f a)) → Gives Q (then_found m f)
gives_then {P = P} {Q = Q} m f g h = record {
  made = by_made P Q m.asked m.made f g.made h;
  settled = settled_then P Q m.asked m.made f g.made g.settled h;
}

pub gives_mapped : {A B : Type 0} {P : A → Type 0} {Q : B → Type 0} (f : A → B) (m : Found A) → Gives P m
    → ((a : A) → P a → Q (f a)) → Gives Q (mapped f m)
gives_mapped f m g h = gives_then m (λ a. found (f a)) g (λ a p. gives_found (f a) (h a p))

-- both parts
abbrev pub Of : {A B : Type 0} → (A → Type 0) → (B → Type 0) → A × B → Type 0
Of P Q p = P p.0 × Q p.1

paired : {A B : Type 0} (P : A → Type 0) (Q : B → Type 0) (o : Option A) (u : Option B) → Holds P o → Holds Q u
    → Holds (Of P Q) (pair_made o u)
paired P Q None u p q = tt
paired P Q (Some a) None p q = tt
paired P Q (Some a) (Some b) p q = (p, q)

settled_both : {A B : Type 0} (qs rs : List Question) (o : Option A) (u : Option B) → Holds (λ (a : A). AllSettled qs) o
    → Holds (λ (b : B). AllSettled rs) u → Holds (λ (p : A × B). AllSettled (qs ++ rs)) (pair_made o u)
settled_both qs rs None u h g = tt
settled_both qs rs (Some a) None h g = tt
settled_both qs rs (Some a) (Some b) h g = Every-append (λ (q : Question). is_settled q ≡ true) qs rs h g

pub gives_both : {A B : Type 0} {P : A → Type 0} {Q : B → Type 0} (m : Found A) (n : Found B) → Gives P m → Gives Q n
    → Gives (Of P Q) (both m n)
gives_both {P = P} {Q = Q} m n g h = record {
  made = paired P Q m.made n.made g.made h.made;
  settled = settled_both m.asked n.asked m.made n.made g.settled h.settled;
}

beside : {A : Type 0} (P : A → Type 0) (t : Bool) (q : Question) (o : Option A) → (t ≡ true → Holds P o)
    → Holds (Of (λ (x : Question). Unit {0}) P) (pair_made (only_if t q) o)
beside P true q None h = tt
beside P true q (Some a) h = (tt, h refl)
beside P false q o h = tt

settled_beside : {A : Type 0} (t : Bool) (q : Question) (rs : List Question) (o : Option A) → is_settled q ≡ t
    → (t ≡ true → Holds (λ (a : A). AllSettled rs) o)
    → Holds (λ (p : Question × A). AllSettled (q ∷ rs)) (pair_made (only_if t q) o)
settled_beside true q rs None e h = tt
settled_beside true q rs (Some a) e h = (e, h refl)
settled_beside false q rs o e h = tt

-- the question that is asked beside is settled
pub gives_and_asking : {A : Type 0} {P : A → Type 0} (q : Question) (m : Found A) → (is_settled q ≡ true → Gives P m)
    → Gives P (and_asking q m)
gives_and_asking {P = P} q m h = gives_mapped (λ p. p.1) (both (asking q q) m)
    (record {
      made = beside P (is_settled q) q m.made (λ e. (h e).made);
      settled = settled_beside (is_settled q) q m.asked m.made refl (λ e. (h e).settled);
    }) (λ p g. g.1)

-- of each its own, and as many
pub gives_each : {A B : Type 0} {P : B → Type 0} (f : A → Found B) → ((a : A) → Gives P (f a)) → (xs : List A)
    → Gives (λ ys. Every P ys × (length ys ≡ length xs)) (each_found f xs)
gives_each f g [] = gives_found [] (tt, refl)
gives_each f g (x ∷ xs) = gives_mapped (λ p. p.0 ∷ p.1) (both (f x) (each_found f xs)) (gives_both _ _ (g x) (gives_each f g xs))
    (λ p h. ((h.0, h.1.0), ap suc h.1.1))

pub gives_maybe : {A B : Type 0} {P : B → Type 0} (f : A → Found B) → ((a : A) → Gives P (f a)) → (o : Option A)
    → Gives (Maybe P) (maybe_found f o)
gives_maybe f g None = gives_found None tt
gives_maybe f g (Some a) = gives_mapped Some (f a) (g a) (λ b h. h)

two_hold : {A : Type 0} (P Q : A → Type 0) (o : Option A) → Holds P o → Holds Q o → Holds (λ a. P a × Q a) o
two_hold P Q None p q = tt
two_hold P Q (Some a) p q = (p, q)

pub gives_two : {A : Type 0} {P Q : A → Type 0} (m : Found A) → Gives P m → Gives Q m → Gives (λ a. P a × Q a) m
gives_two {P = P} {Q = Q} m g h = record { made = two_hold P Q m.made g.made h.made; settled = g.settled }

implied : {A : Type 0} (P Q : A → Type 0) (o : Option A) → Holds P o → ((a : A) → P a → Q a) → Holds Q o
implied P Q None h f = tt
implied P Q (Some a) h f = f a h

pub gives_implied : {A : Type 0} {P Q : A → Type 0} (m : Found A) → Gives P m → ((a : A) → P a → Q a) → Gives Q m
gives_implied {P = P} {Q = Q} m g f = record { made = implied P Q m.made g.made f; settled = g.settled }
