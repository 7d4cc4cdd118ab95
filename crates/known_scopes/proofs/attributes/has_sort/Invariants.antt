use Rattle.std.proofs.Common.{◌≡◌, drop, map}
use Rattle.std.specs.List.{list_any}
use Rattle.names_types.specs.View.{attribute_of}
use Rattle.known_scopes.specs.Sorts.{is_of_sort}
use Rattle.known_scopes.proofs.attributes.has_sort.Given as goal

abbrev pub invariant-loop-attribute : goal.invariant-loop-attribute
invariant-loop-attribute l =
    list_any (is_of_sort l.which) (map attribute_of (drop l.attribute-index l.attributes))
    ≡ list_any (is_of_sort l.which) (map attribute_of l.attributes)
