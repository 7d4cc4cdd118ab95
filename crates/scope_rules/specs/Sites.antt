-- The rules that are tried at each declaration of a scope: what each of them is told there, and on which lines it is broken.
use Rattle.std.specs.Prelude.{ℕ, List, [], ◌∷◌, take, nat_lt, length, not, Bool, ◌||◌, ◌&&◌}
use Rattle.std.specs.List.{list_any, flat_map}
use Rattle.a95_base.specs.declared.breaks.Break.{Break}
use Rattle.a95_base.specs.Limits.{greatest_rank}
use Rattle.a95_base.specs.Rules.{declared_twice, wrong_attributes, wrong_dummy, not_constant, constant_faults}
use Rattle.a95_base.specs.Rules.{rank_too_great, wrong_length, shape_too_large, no_specification_expression}
use Rattle.f95_tree.specs.Forms.{Word}
use Rattle.intrinsic_table.specs.Finding.{is_word}
use Rattle.names_types.specs.declared.meaning.Meaning.{Meaning}
use Rattle.names_types.specs.declared.sense.Sense.{Sense}
use Rattle.constant_operators.specs.Operators.{is_spoilt}
use Rattle.names_types.specs.Constants.{valued}
use Rattle.names_types.specs.Scopes.{Scope, Entry, Sited, site, Object, entries, meanings, own_names, constant_sense, worth_in, is_dummy, has_intent}
use Rattle.names_types.specs.Rules.{site_line, name_line, declares, lines_where, attributes_disagree, wrong_constant}
use Rattle.names_types.specs.Rules.{wrong_allocatable, wrong_in_module, wrong_initial, wrong_open, has_one_twice, is_too_large}
use Rattle.names_types.specs.Rules.{constant_size, sense_at, in_procedure, is_no_specification, bound_exprs, has_wrong_length}
use Rattle.names_types.specs.Rules.{Demand, form_demands, is_no_constant, declared_twice_on, wrong_attributes_on, intended_others}
use Rattle.names_types.specs.Rules.{not_constant_on, constant_faults_on, rank_too_great_on, wrong_length_on, shape_too_large_on}
use Rattle.names_types.specs.Rules.{no_specification_on}
use Rattle.known_scopes.specs.View.{scope_of}
use Rattle.known_scopes.specs.declared.scope.Scope.{Scope as Written}
use Rattle.scope_rules.specs.Told.{on_lines, line_if}
use Rattle.scope_rules.specs.declared.rules.ObjectRule.{ObjectRule}
use Rattle.scope_rules.specs.declared.rules.ObjectRule.TheVariants as of_object
use Rattle.scope_rules.specs.declared.rules.DemandRule.{DemandRule}
use Rattle.scope_rules.specs.declared.rules.DemandRule.TheVariants as of_demand
use Rattle.scope_rules.specs.declared.rules.SiteRule.{SiteRule}
use Rattle.scope_rules.specs.declared.rules.SiteRule.TheVariants as of_site

-- the declaration of that place, whatever its name means
abbrev pub sited : Scope → ℕ → Entry → Meaning → Sited
sited c place e m = site e m (take place (entries c)) (take place (meanings c))

-- what names mean in constant expressions at the declaration of that place
abbrev pub senses_at : Written → ℕ → Word → Sense
senses_at s place = constant_sense (own_names (scope_of s)) (scope_of s).host (take place (meanings (scope_of s)))

-- attributes of a declared name that don't go together
abbrev pub disagree : Scope → Word → Object → Bool
disagree c name o = wrong_constant c name o || (wrong_allocatable c name o || (wrong_in_module c o
    || (wrong_initial c o || (wrong_open c name o || has_one_twice o.attributes))))

-- ---- rules on what a declaration says

abbrev pub object_test : ObjectRule → Scope → Sited → Object → Bool
object_test of_object.WrongAttributes c s o = attributes_disagree c s o
object_test of_object.RankTooGreat c s o = nat_lt greatest_rank (length o.dims)
object_test of_object.ShapeTooLarge c s o = is_too_large (constant_size (sense_at c s) o.dims)
object_test of_object.NoSpecification c s o = in_procedure c.place && list_any (is_no_specification c s) (flat_map bound_exprs o.dims)

abbrev pub object_rule : ObjectRule → ℕ
object_rule of_object.WrongAttributes = wrong_attributes
object_rule of_object.RankTooGreat = rank_too_great
object_rule of_object.ShapeTooLarge = shape_too_large
object_rule of_object.NoSpecification = no_specification_expression

abbrev pub object_lines : ObjectRule → Scope → List ℕ
object_lines of_object.WrongAttributes = wrong_attributes_on
object_lines of_object.RankTooGreat = rank_too_great_on
object_lines of_object.ShapeTooLarge = shape_too_large_on
object_lines of_object.NoSpecification = no_specification_on

-- ---- rules on expressions that have to be constant

abbrev pub demand_test : DemandRule → Scope → Demand → Bool
demand_test of_demand.NotConstant c d = is_no_constant c d
demand_test of_demand.ConstantFault c d = is_spoilt (worth_in (valued d.sense d.expr))

abbrev pub demand_rule : DemandRule → ℕ
demand_rule of_demand.NotConstant = not_constant
demand_rule of_demand.ConstantFault = constant_faults

abbrev pub demand_lines : DemandRule → Scope → List ℕ
demand_lines of_demand.NotConstant = not_constant_on
demand_lines of_demand.ConstantFault = constant_faults_on

-- the demands of some expressions, as far as they break a rule
abbrev pub told_demands : DemandRule → Scope → List Demand → List Break
told_demands rule c ds = on_lines (demand_rule rule) (lines_where (λ (d : Demand). d.line) (demand_test rule c) ds)

-- ---- all of them

abbrev pub site_breaks : SiteRule → Scope → Sited → List Break
site_breaks of_site.DeclaredTwice c s =
    on_lines declared_twice (line_if (list_any (λ (e : Entry). is_word s.entry.name e.name) s.earlier) (site_line s))
site_breaks of_site.IntendedOther c s =
    on_lines wrong_dummy (line_if (declares (λ t o. has_intent o && not (is_dummy c t.entry.name)) s s.entry.form)
    (name_line s.entry.line c s.entry.name))
site_breaks of_site.WrongLength c s = on_lines wrong_length (line_if (has_wrong_length c s s.entry.form) (site_line s))
site_breaks (of_site.OfObject rule) c s =
    on_lines (object_rule rule) (line_if (declares (object_test rule c) s s.entry.form) (site_line s))
site_breaks (of_site.OfDemand rule) c s = told_demands rule c (form_demands c s s.entry.form)

abbrev pub site_rule : SiteRule → ℕ
site_rule of_site.DeclaredTwice = declared_twice
site_rule of_site.IntendedOther = wrong_dummy
site_rule of_site.WrongLength = wrong_length
site_rule (of_site.OfObject rule) = object_rule rule
site_rule (of_site.OfDemand rule) = demand_rule rule

abbrev pub site_lines : SiteRule → Scope → List ℕ
site_lines of_site.DeclaredTwice = declared_twice_on
site_lines of_site.IntendedOther = intended_others
site_lines of_site.WrongLength = wrong_length_on
site_lines (of_site.OfObject rule) = object_lines rule
site_lines (of_site.OfDemand rule) = demand_lines rule
