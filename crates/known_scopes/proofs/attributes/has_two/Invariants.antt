use Rattle.std.proofs.Common.{◌≡◌, drop, map, false}
use Rattle.names_types.specs.View.{attribute_of}
use Rattle.known_scopes.specs.Sorts.{is_of_sort}
use Rattle.known_scopes.proofs.Lists.{second}
use Rattle.known_scopes.proofs.attributes.has_two.Given as goal

abbrev pub invariant-loop-attribute : goal.invariant-loop-attribute
invariant-loop-attribute l =
    second l.seen (is_of_sort l.which) (map attribute_of (drop l.attribute-index l.attributes))
    ≡ second false (is_of_sort l.which) (map attribute_of l.attributes)
