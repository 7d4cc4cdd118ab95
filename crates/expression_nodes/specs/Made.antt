-- When an answer of the code is what is made of a piece of a source: the piece, or the least rule that its questions break, or that
-- nothing is made though no rule is broken.
use Rattle.std.specs.Prelude.{◌≡◌, ℕ, Option, Some, None, Result, Ok, Err}
use Rattle.expression_nodes.specs.declared.missing.Missing.{Missing}
use Rattle.expression_nodes.specs.declared.missing.Missing.TheVariants.{Broken, Untyped, Memory}
use Rattle.shape_check.specs.Asked.{asked_rule}
use Rattle.shape_check.specs.Found.{Found}

-- that is made, and that is the least rule that the questions break
abbrev pub Comes : {A : Type 0} → Option A → Option ℕ → Found A → Type 0
Comes made rule m = (m.made ≡ made) × (asked_rule m.asked ≡ rule)

-- without memory nothing is said
abbrev pub IsMissing : {A : Type 0} → Missing → Found A → Type 0
IsMissing (Broken rule) m = Comes None (Some rule.0) m
IsMissing Untyped m = Comes None None m
IsMissing Memory m = Unit {0}

-- of a type of the code that is seen as plain data
abbrev pub IsMadeAs : {A B : Type 0} → (B → A) → Found A → Result B Missing → Type 0
IsMadeAs view m (Ok b) = Comes (Some (view b)) None m
IsMadeAs view m (Err e) = IsMissing e m

abbrev pub IsMade : {A : Type 0} → Found A → Result A Missing → Type 0
IsMade m r = IsMadeAs (λ a. a) m r
