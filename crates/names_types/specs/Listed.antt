-- All that a source breaks, as one list.
use Rattle.std.specs.Prelude.{ℕ, List, [], ◌∷◌, ◌++◌, map}
use Rattle.a95_base.specs.declared.breaks.Break.{Break}
use Rattle.a95_base.specs.Breaks.{broken_at}
use Rattle.a95_base.specs.Rules.{declared_twice, undeclared, wrong_attributes, wrong_dummy, not_constant, constant_faults}
use Rattle.a95_base.specs.Rules.{rank_too_great, wrong_length, shape_too_large, unknown_use, host_variable, wrong_result}
use Rattle.a95_base.specs.Rules.{no_specification_expression}
use Rattle.names_types.specs.Plain.{Source}
use Rattle.names_types.specs.Scopes.{Scope}
use Rattle.names_types.specs.Rules.{declared_twice_on, undeclared_on, wrong_attributes_on, wrong_dummy_on, not_constant_on}
use Rattle.names_types.specs.Rules.{constant_faults_on, rank_too_great_on, wrong_length_on, shape_too_large_on, unknown_use_on}
use Rattle.names_types.specs.Rules.{host_variable_on, wrong_result_on, no_specification_on, anywhere}

-- a rule with the lines of a scope on which it holds
abbrev pub Ruled : Type 0
Ruled = ℕ × (Scope → List ℕ)

abbrev pub breaks_of_rule : Source → Ruled → List Break
breaks_of_rule s r = map (λ line. broken_at line r.0) (anywhere r.1 s)

abbrev pub breaks_of_rules : Source → List Ruled → List Break
breaks_of_rules s [] = []
breaks_of_rules s (r ∷ more) = breaks_of_rule s r ++ breaks_of_rules s more

abbrev pub all_rules : List Ruled
all_rules =
    (declared_twice, declared_twice_on) ∷ (undeclared, undeclared_on) ∷ (wrong_attributes, wrong_attributes_on)
    ∷ (wrong_dummy, wrong_dummy_on) ∷ (not_constant, not_constant_on) ∷ (constant_faults, constant_faults_on)
    ∷ (rank_too_great, rank_too_great_on) ∷ (wrong_length, wrong_length_on) ∷ (shape_too_large, shape_too_large_on)
    ∷ (unknown_use, unknown_use_on) ∷ (host_variable, host_variable_on) ∷ (wrong_result, wrong_result_on)
    ∷ (no_specification_expression, no_specification_on) ∷ []

-- the breaks of a source
abbrev pub breaks_of : Source → List Break
breaks_of s = breaks_of_rules s all_rules
