use Rattle.std.proofs.Common.{◌≡◌, sym, ap, ◌∙◌}
use Rattle.std.specs.Prelude.{if◌then◌else◌, option_map}
use Rattle.names_types.specs.Rules.{first_line}
use Rattle.names_types.specs.Scopes.{entries_named}
use Rattle.scope_entries.specs.View.{entry_of}
use Rattle.known_scopes.specs.View.{scope_of, declared_in}
use Rattle.known_scopes.proofs.Lists.{first_line_is}
use Rattle.known_scopes.proofs.asked.name_line.Goals as goal

pub returns-else-is_repeated : goal.returns-else-is_repeated
returns-else-is_repeated c =
    let name = c.args.name.now in
    let heading = c.args.heading in
    let scope = scope_of c.args.known.now.scope in
    c.first_line.ensures
    ∙ (first_line_is name heading (declared_in c.args.known.now.scope) (option_map entry_of c.first_named.result) c.first_named.ensures
    ∙ ap (λ b. if b then heading else first_line heading (entries_named scope name))
    (sym c.if-is_repeated.false ∙ c.is_repeated.ensures))
