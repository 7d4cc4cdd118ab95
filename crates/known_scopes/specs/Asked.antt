-- Words on lists of declarations and of dummies.
use Rattle.std.specs.Prelude.{List, [], ◌∷◌, ◌++◌, Bool, not, ◌&&◌, if◌then◌else◌, Option, Some, None}
use Rattle.std.specs.List.{filter, list_any}
use Rattle.f95_tree.specs.Forms.{Word}
use Rattle.names_types.specs.Scopes.{Entry, Object, is_among, is_integer_scalar, of_object}
use Rattle.scope_names.specs.Tables.{names_of}
use Rattle.known_scopes.specs.declared.attributes.AttributeSort.{AttributeSort}
use Rattle.known_scopes.specs.Sorts.{is_of_sort}

abbrev pub has_such : AttributeSort → Object → Bool
has_such sort o = list_any (is_of_sort sort) o.attributes

-- the names of those that a declaration gives such an attribute
abbrev pub names_with : AttributeSort → List Entry → List Word
names_with sort es = names_of (filter (λ (e : Entry). of_object (has_such sort) e.form) es)

-- those that stand before, or earlier in the list
abbrev pub repeats_from : List Word → List Word → List Word
repeats_from before [] = []
repeats_from before (name ∷ more) =
    if is_among before name then name ∷ repeats_from (before ++ name ∷ []) more else repeats_from (before ++ name ∷ []) more

abbrev pub repeats_of : List Word → List Word
repeats_of names = repeats_from [] names

-- the names whose first declaration is that of a scalar INTEGER, where some stand before
abbrev pub integers_from : List Word → List Entry → List Word
integers_from before [] = []
integers_from before (e ∷ more) =
    if not (is_among before e.name) && of_object is_integer_scalar e.form
    then e.name ∷ integers_from (before ++ e.name ∷ []) more
    else integers_from (before ++ e.name ∷ []) more

abbrev pub integers_in : List Entry → List Word
integers_in es = integers_from [] es
