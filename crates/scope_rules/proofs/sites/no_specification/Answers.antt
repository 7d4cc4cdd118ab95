use Rattle.std.proofs.Common.{◌≡◌, Bool, true, List, map, take, sym, ap, ◌∙◌}
use Rattle.std.specs.List.{list_any, flat_map}
use Rattle.std.proofs.lemmas.Result.{IfOk-weaker}
use Rattle.names_types.specs.declared.meaning.Meaning.{Meaning}
use Rattle.names_types.specs.Rules.{bound_exprs, in_procedure}
use Rattle.names_types.specs.Scopes.{meanings}
use Rattle.names_types.specs.View.{dim_of}
use Rattle.declared_meanings.specs.Objects.{object_in}
use Rattle.scope_entries.specs.View.{entry_of}
use Rattle.scope_names.specs.Tables.{meant_by}
use Rattle.known_scopes.specs.Reading.{specification_with}
use Rattle.known_scopes.specs.View.{scope_of, senses_of}
use Rattle.scope_rules.specs.Sites.{sited, object_test}
use Rattle.scope_rules.specs.Specifying.{is_none_of}
use Rattle.scope_rules.specs.declared.rules.ObjectRule.TheVariants as of_object
use Rattle.scope_rules.proofs.Specified.{specified}
use Rattle.scope_rules.proofs.sites.no_specification.Goals as goal

pub returns-then-in_procedure : goal.returns-then-in_procedure
returns-then-in_procedure c =
    let scope = scope_of c.args.known.now.scope in
    let cs = c.constant_senses.result in
    let o = object_in c.args.declaration.now c.args.entity.now in
    let before = meant_by cs.names.now cs.before.now in
    let es = flat_map bound_exprs (map dim_of c.dims.result.now) in
    IfOk-weaker c.none_in_dims.result
    (λ b. b ≡ list_any (is_none_of scope (specification_with scope before (senses_of cs))) es)
    (λ b. (m : Meaning) → b ≡ object_test of_object.NoSpecification scope (sited scope c.args.place (entry_of c.args.entry) m) o)
    (λ b e m. specified scope before (take c.args.place (meanings scope)) (senses_of cs) es (flat_map bound_exprs o.dims) b
    (in_procedure scope.place) e c.constant_senses.ensures.before c.constant_senses.ensures.senses
    (ap (λ ds. flat_map bound_exprs ds) c.dims.ensures) (sym c.if-in_procedure.true ∙ c.in_procedure.ensures))
    c.none_in_dims.ensures
