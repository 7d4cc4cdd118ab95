use Rattle.std.proofs.Common.{◌≡◌, drop, map}
use Rattle.std.specs.List.{filter_map}
use Rattle.names_types.specs.Scopes.{first_dims, dims_of_attribute}
use Rattle.names_types.specs.View.{attribute_of}
use Rattle.declared_meanings.proofs.attributes.attribute_dims.Given as goal

abbrev pub invariant-loop-attribute : goal.invariant-loop-attribute
invariant-loop-attribute l =
    first_dims (filter_map dims_of_attribute (map attribute_of (drop l.attribute-index l.attributes)))
    ≡ first_dims (filter_map dims_of_attribute (map attribute_of l.attributes))
