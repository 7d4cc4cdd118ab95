use Rattle.std.proofs.Common.{◌≡◌, drop, map}
use Rattle.std.specs.List.{list_any}
use Rattle.names_types.specs.Scopes.{is_parameter}
use Rattle.names_types.specs.View.{attribute_of}
use Rattle.declared_meanings.proofs.attributes.has_parameter.Given as goal

abbrev pub invariant-loop-attribute : goal.invariant-loop-attribute
invariant-loop-attribute l =
    list_any is_parameter (map attribute_of (drop l.attribute-index l.attributes))
    ≡ list_any is_parameter (map attribute_of l.attributes)
