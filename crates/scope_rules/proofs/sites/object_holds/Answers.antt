use Rattle.std.proofs.Common.{◌≡◌, sym, subst}
use Rattle.std.specs.Result.{IfOk}
use Rattle.names_types.specs.declared.meaning.Meaning.{Meaning}
use Rattle.declared_meanings.specs.Objects.{object_in}
use Rattle.scope_entries.specs.View.{entry_of}
use Rattle.known_scopes.specs.View.{scope_of}
use Rattle.scope_rules.specs.Sites.{sited, object_test}
use Rattle.scope_rules.proofs.sites.object_holds.Goals as goal

pub returns-in-NoSpecification : goal.returns-in-NoSpecification
returns-in-NoSpecification c =
    let scope = scope_of c.args.known.now.scope in
    subst (λ r. IfOk c.no_specification.result (λ b. (m : Meaning) → b ≡ object_test r scope
    (sited scope c.args.place (entry_of c.args.entry) m) (object_in c.args.declaration.now c.args.entity.now)))
    (sym c.in-NoSpecification.is) c.no_specification.ensures
