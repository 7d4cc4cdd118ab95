use Rattle.std.proofs.Common.{◌≡◌, Some, None, ◌∙◌, sym, ap, rules}
use Rattle.std.specs.Prelude.{option_map, slice_get}
use Rattle.name_table.specs.Places.{first_place}
use Rattle.scope_names.specs.Tables.{names_of}
use Rattle.scope_entries.specs.View.{entry_of, entries_of}
use Rattle.known_scopes.specs.Found.{first_named}
use Rattle.known_scopes.specs.View.{declared_in}
use Rattle.known_scopes.proofs.Lists.{found_at, found_nowhere}
use Rattle.known_scopes.proofs.asked.first_named.Goals as goal

pub returns-in-None : goal.returns-in-None
returns-in-None c =
    let name = c.args.name.now in
    let known = c.args.known.now in
    let names : known.own.names ≡ names_of (declared_in known.scope) = search rules in
    let none : first_place name (names_of (declared_in known.scope)) ≡ None =
    ap (λ ns. first_place name ns) (sym names)
    ∙ (ap (λ w. first_place w known.own.names) (sym c.as_slice.ensures) ∙ (sym c.first_place.ensures ∙ c.in-None.is)) in
    found_nowhere name (declared_in known.scope) none

pub returns-in-Some : goal.returns-in-Some
returns-in-Some c =
    let name = c.args.name.now in
    let known = c.args.known.now in
    let place = c.in-Some.place in
    let names : known.own.names ≡ names_of (declared_in known.scope) = search rules in
    let some : first_place name (names_of (entries_of known.entries.items)) ≡ Some place =
    ap (λ es. first_place name (names_of es)) c.requires.listed ∙ (ap (λ ns. first_place name ns) (sym names)
    ∙ (ap (λ w. first_place w known.own.names) (sym c.as_slice.ensures) ∙ (sym c.first_place.ensures ∙ c.in-Some.is))) in
    ap (λ o. option_map entry_of o) (c.entry_at.ensures ∙ ap (λ xs. slice_get xs place) c.as_slice-in-Some.ensures.value)
    ∙ (found_at name known.entries.items place some ∙ ap (λ es. first_named name es) c.requires.listed)
