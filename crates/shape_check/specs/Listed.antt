-- All that a source breaks, as one list: rule by rule, of each the lines of the questions that break it.
use Rattle.std.specs.Prelude.{ℕ, Bool, List, [], ◌∷◌, ◌++◌, map}
use Rattle.std.specs.List.{filter}
use Rattle.a95_base.specs.declared.breaks.Break.{Break}
use Rattle.a95_base.specs.Breaks.{broken_at}
use Rattle.a95_base.specs.Rules.{wrong_kind_or_rank, extents_differ, wrong_intrinsic_arguments, wrong_designator, wrong_store}
use Rattle.a95_base.specs.Rules.{wrong_case, wrong_mask, wrong_forall, wrong_constructor, wrong_read_item}
use Rattle.shape_check.specs.Statements.{Source}
use Rattle.well_typed.specs.Questions.{Question, Posed}
use Rattle.well_typed.specs.Rules.{has_wrong_kinds, has_other_extents, has_wrong_arguments, has_wrong_subscripts, has_wrong_store}
use Rattle.well_typed.specs.Rules.{has_wrong_case, has_wrong_mask, has_wrong_index, has_wrong_values, has_wrong_item}
use Rattle.shape_check.specs.Units.{posed}

-- a rule with the questions that break it
abbrev pub Ruled : Type 0
Ruled = ℕ × (Question → Bool)

abbrev pub breaks_of_rule : List Posed → Ruled → List Break
breaks_of_rule ps r = map (λ (p : Posed). broken_at p.line r.0) (filter (λ (p : Posed). r.1 p.question) ps)

abbrev pub breaks_of_rules : List Posed → List Ruled → List Break
breaks_of_rules ps [] = []
breaks_of_rules ps (r ∷ more) = breaks_of_rule ps r ++ breaks_of_rules ps more

abbrev pub all_rules : List Ruled
all_rules =
    (wrong_kind_or_rank, has_wrong_kinds) ∷ (extents_differ, has_other_extents)
    ∷ (wrong_intrinsic_arguments, has_wrong_arguments) ∷ (wrong_designator, has_wrong_subscripts)
    ∷ (wrong_store, has_wrong_store) ∷ (wrong_case, has_wrong_case) ∷ (wrong_mask, has_wrong_mask)
    ∷ (wrong_forall, has_wrong_index) ∷ (wrong_constructor, has_wrong_values) ∷ (wrong_read_item, has_wrong_item) ∷ []

-- the breaks of a source
abbrev pub breaks_of : Source → List Break
breaks_of s = breaks_of_rules (posed s) all_rules
