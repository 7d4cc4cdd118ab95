-- The least rule that questions break, and the breaks of a source question by question: at each the least rule that it breaks.
use Rattle.std.specs.Prelude.{ℕ, min, List, [], ◌∷◌, Option, Some, None}
use Rattle.a95_base.specs.declared.breaks.Break.{Break}
use Rattle.a95_base.specs.Breaks.{broken_at}
use Rattle.well_typed.specs.Questions.{Question, Posed}
use Rattle.well_typed.specs.Rules.{rule_of}

abbrev pub lesser_rule : Option ℕ → Option ℕ → Option ℕ
lesser_rule None r = r
lesser_rule (Some q) None = Some q
lesser_rule (Some q) (Some r) = Some (min q r)

abbrev pub asked_rule : List Question → Option ℕ
asked_rule [] = None
asked_rule (q ∷ more) = lesser_rule (rule_of q) (asked_rule more)

abbrev pub with_break : Option ℕ → ℕ → List Break → List Break
with_break None line breaks = breaks
with_break (Some rule) line breaks = broken_at line rule ∷ breaks

abbrev pub breaks_told : List Posed → List Break
breaks_told [] = []
breaks_told (p ∷ more) = with_break (rule_of p.question) p.line (breaks_told more)
