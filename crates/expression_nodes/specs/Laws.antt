-- How answers compose: one after the other, side by side, and behind a question.
use Rattle.std.specs.Prelude.{◌≡◌, ℕ, Option, Some, None}
use Rattle.well_typed.specs.Questions.{Question}
use Rattle.well_typed.specs.Rules.{rule_of}
use Rattle.shape_check.specs.Asked.{lesser_rule}
use Rattle.shape_check.specs.Found.{Found, asking, then_found, mapped, pair_made, both}
use Rattle.expression_nodes.specs.declared.missing.Missing.{Missing}
use Rattle.expression_nodes.specs.Made.{Comes, IsMissing}

abbrev pub ThenMade : (A B : Type 0) → Type 0
ThenMade A B = (m : Found A) (f : A → Found B) (a : A) (made : Option B) (rule : Option ℕ) → Comes (Some a) None m
    → Comes made rule (f a) → Comes made rule (then_found m f)

abbrev pub ThenMissing : (A B : Type 0) → Type 0
ThenMissing A B = (m : Found A) (f : A → Found B) (e : Missing) → IsMissing e m → IsMissing e (then_found m f)

abbrev pub MappedMade : (A B : Type 0) → Type 0
MappedMade A B = (f : A → B) (m : Found A) (a : A) → Comes (Some a) None m → Comes (Some (f a)) None (mapped f m)

abbrev pub BothCome : (A B : Type 0) → Type 0
BothCome A B = (m : Found A) (n : Found B) (a : Option A) (b : Option B) (q r : Option ℕ) → Comes a q m
    → Comes b r n → Comes (pair_made a b) (lesser_rule q r) (both m n)

-- a question that breaks no rule, and one that breaks that rule
abbrev pub AskingMade : (A : Type 0) → Type 0
AskingMade A = (q : Question) (a : A) → rule_of q ≡ None → Comes (Some a) None (asking q a)

abbrev pub AskingBroken : (A : Type 0) → Type 0
AskingBroken A = (q : Question) (a : A) (rule : ℕ) → rule_of q ≡ Some rule → Comes None (Some rule) (asking q a)
