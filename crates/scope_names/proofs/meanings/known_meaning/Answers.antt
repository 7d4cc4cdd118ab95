use Rattle.std.proofs.Common.{◌≡◌, Some, None, option_map, ◌∙◌, sym, rules}
use Rattle.std.specs.Prelude.{slice_get}
use Rattle.name_table.specs.Places.{first_place}
use Rattle.scope_names.proofs.MeantBy.{found_by, nowhere_by}
use Rattle.scope_names.proofs.meanings.known_meaning.Goals as goal

pub returns-in-None : goal.returns-in-None
returns-in-None c =
    let none : first_place c.args.name.now c.args.names.now ≡ None = search rules in
    nowhere_by c.args.name.now c.args.names.now c.args.meanings.now none

pub returns-in-Some : goal.returns-in-Some
returns-in-Some c =
    let some : first_place c.args.name.now c.args.names.now ≡ Some c.in-Some.place = search rules in
    c.at.ensures ∙ found_by c.args.name.now c.args.names.now c.args.meanings.now c.in-Some.place some
