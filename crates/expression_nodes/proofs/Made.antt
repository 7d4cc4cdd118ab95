-- How answers compose: one after the other, side by side, and behind a question.
use Rattle.std.proofs.Common.{◌≡◌, ℕ, Bool, true, false, List, [], ◌∷◌, ◌++◌, Option, Some, None, is_none, refl, sym, ◌∙◌}
use Rattle.std.proofs.Common.{subst, ap, ap₂, arith}
use Rattle.constant_operators.specs.Operators.{only_if}
use Rattle.well_typed.specs.Questions.{Question}
use Rattle.well_typed.specs.Rules.{is_settled, rule_of}
use Rattle.well_typed.proofs.Settled.{settled_breaks_none}
use Rattle.shape_check.specs.Asked.{lesser_rule, asked_rule}
use Rattle.shape_check.specs.Found.{Found, found, asking, asked_before, continued, then_found, mapped, pair_made, both}
use Rattle.expression_nodes.specs.declared.missing.Missing.{Missing}
use Rattle.expression_nodes.specs.declared.missing.Missing.TheVariants.{Broken, Untyped, Memory}
use Rattle.expression_nodes.specs.Made.{Comes, IsMissing}

-- ---- the least rule of all

lesser_none : (r : Option ℕ) → lesser_rule r None ≡ r
lesser_none None = refl
lesser_none (Some r) = refl

lesser_assoc : (p q r : Option ℕ) → lesser_rule (lesser_rule p q) r ≡ lesser_rule p (lesser_rule q r)
lesser_assoc None q r = refl
lesser_assoc (Some p) None r = refl
lesser_assoc (Some p) (Some q) None = refl
lesser_assoc (Some p) (Some q) (Some r) = ap Some (omega arith)

pub asked_append : (qs rs : List Question) → asked_rule (qs ++ rs) ≡ lesser_rule (asked_rule qs) (asked_rule rs)
asked_append [] rs = refl
asked_append (q ∷ qs) rs = ap (lesser_rule (rule_of q)) (asked_append qs rs)
    ∙ sym (lesser_assoc (rule_of q) (asked_rule qs) (asked_rule rs))

-- ---- one after the other

after_none : {A : Type 0} (qs : List Question) (m : Found A) (made : Option A) (rule : Option ℕ) → asked_rule qs ≡ None
    → Comes made rule m → Comes made rule (asked_before qs m)
after_none qs m made rule none h = (h.0, asked_append qs m.asked ∙ (ap (λ r. lesser_rule r (asked_rule m.asked)) none ∙ h.1))

pub then_made : {A B : Type 0} (m : Found A) (f : A → Found B) (a : A) (made : Option B) (rule : Option ℕ) → Comes (Some a) None m
    → Comes made rule (f a) → Comes made rule (then_found m f)
then_made m f a made rule h g =
    subst (λ o. Comes made rule (continued m.asked o f)) (sym h.0) (after_none m.asked (f a) made rule h.1 g)

pub then_none : {A B : Type 0} (m : Found A) (f : A → Found B) (rule : Option ℕ) → Comes None rule m
    → Comes None rule (then_found m f)
then_none m f rule h = subst (λ o. Comes None rule (continued m.asked o f)) (sym h.0) (refl, h.1)

pub then_missing : {A B : Type 0} (m : Found A) (f : A → Found B) (e : Missing) → IsMissing e m → IsMissing e (then_found m f)
then_missing m f (Broken rule) h = then_none m f (Some rule.0) h
then_missing m f Untyped h = then_none m f None h
then_missing m f Memory h = tt

pub mapped_made : {A B : Type 0} (f : A → B) (m : Found A) (a : A) → Comes (Some a) None m → Comes (Some (f a)) None (mapped f m)
mapped_made f m a h = then_made m (λ x. found (f x)) a (Some (f a)) None h (refl, refl)

pub mapped_missing : {A B : Type 0} (f : A → B) (m : Found A) (e : Missing) → IsMissing e m → IsMissing e (mapped f m)
mapped_missing f m e h = then_missing m (λ x. found (f x)) e h

-- ---- side by side

pub both_come : {A B : Type 0} (m : Found A) (n : Found B) (a : Option A) (b : Option B) (q r : Option ℕ) → Comes a q m
    → Comes b r n → Comes (pair_made a b) (lesser_rule q r) (both m n)
both_come m n a b q r h g = (ap₂ pair_made h.0 g.0, asked_append m.asked n.asked ∙ ap₂ lesser_rule h.1 g.1)

-- ---- behind a question

only_made : {A : Type 0} (t : Bool) (a : A) → t ≡ true → only_if t a ≡ Some a
only_made true a e = refl
only_made false a e = cc

only_none : {A : Type 0} (t : Bool) (a : A) → t ≡ false → only_if t a ≡ None
only_none true a e = cc
only_none false a e = refl

pub asking_made : {A : Type 0} (q : Question) (a : A) → rule_of q ≡ None → Comes (Some a) None (asking q a)
asking_made q a h = (only_made (is_settled q) a (settled_breaks_none q ∙ ap is_none h), ap (λ r. lesser_rule r None) h)

pub asking_broken : {A : Type 0} (q : Question) (a : A) (rule : ℕ) → rule_of q ≡ Some rule → Comes None (Some rule) (asking q a)
asking_broken q a rule h = (only_none (is_settled q) a (settled_breaks_none q ∙ ap is_none h), ap (λ r. lesser_rule r None) h)
