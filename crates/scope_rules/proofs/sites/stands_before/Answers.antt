use Rattle.std.proofs.Common.{◌≡◌, Some, None, ◌∙◌, sym, ap, rules}
use Rattle.name_table.specs.Places.{first_place}
use Rattle.names_types.specs.Scopes.{entries}
use Rattle.scope_names.specs.Tables.{names_of}
use Rattle.known_scopes.specs.View.{scope_of}
use Rattle.scope_rules.proofs.Lines.{stands_before_none, stands_before_some}
use Rattle.scope_rules.proofs.sites.stands_before.Goals as goal

pub returns-in-None : goal.returns-in-None
returns-in-None c =
    let name = c.args.name.now in
    let own = c.args.known.now.own.names in
    let es = entries (scope_of c.args.known.now.scope) in
    let names : own ≡ names_of es = search rules in
    stands_before_none name es c.args.place
    (ap (λ ns. first_place name ns) (sym names) ∙ (ap (λ w. first_place w own) (sym c.as_slice.ensures)
    ∙ (sym c.first_place.ensures ∙ c.in-None.is)))

pub returns-in-Some : goal.returns-in-Some
returns-in-Some c =
    let name = c.args.name.now in
    let own = c.args.known.now.own.names in
    let es = entries (scope_of c.args.known.now.scope) in
    let names : own ≡ names_of es = search rules in
    stands_before_some name es c.args.place c.in-Some.first
    (ap (λ ns. first_place name ns) (sym names) ∙ (ap (λ w. first_place w own) (sym c.as_slice.ensures)
    ∙ (sym c.first_place.ensures ∙ c.in-Some.is)))
