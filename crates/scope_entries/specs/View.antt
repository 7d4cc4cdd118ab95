-- Declarations of names as `names_types` has them.
use Rattle.std.specs.Prelude.{List, map}
use Rattle.f95_tree.specs.Forms.{Word}
use Rattle.names_types.specs.Scopes as scopes
use Rattle.names_types.specs.View.{type_of, procedure_of}
use Rattle.declared_meanings.specs.Objects.{object_in}
use Rattle.scope_entries.specs.declared.brought.Brought.{Brought}
use Rattle.scope_entries.specs.declared.entry.Entry.{Entry}
use Rattle.scope_entries.specs.declared.entry.Form.{Form}
use Rattle.scope_entries.specs.declared.entry.Form.TheVariants as form
use Rattle.scope_entries.specs.declared.scope.Place.{Place}
use Rattle.scope_entries.specs.declared.scope.Place.TheVariants as place

abbrev pub form_of : Form → scopes.Form
form_of (form.Brings s) = scopes.Brings s.now.place s.now.meaning
form_of (form.Declares d e) = scopes.Declares (object_in d.now e.now)
form_of (form.Types t) = scopes.Types (type_of t.now)
form_of form.Begins = scopes.Begins

abbrev pub entry_of : Entry → scopes.Entry
entry_of e = scopes.entry e.line e.name.now (form_of e.form)

abbrev pub entries_of : List Entry → List scopes.Entry
entries_of es = map entry_of es

abbrev pub brought_entry : Brought → scopes.Entry
brought_entry b = scopes.share_entry b.line b.share.now

abbrev pub all_brought : List Brought → List scopes.Entry
all_brought bs = map brought_entry bs

abbrev pub place_of : Place → scopes.Place
place_of place.InMain = scopes.InMain
place_of place.InModule = scopes.InModule
place_of (place.InProcedure p) = scopes.InProcedure (procedure_of p.now)
