-- Attributes by their sort.
use Rattle.std.specs.Prelude.{Bool}
use Rattle.names_types.specs.Plain.{Attribute}
use Rattle.names_types.specs.Scopes.{is_parameter, is_allocatable, is_dimension, is_intended, is_read}
use Rattle.known_scopes.specs.declared.attributes.AttributeSort.{AttributeSort}
use Rattle.known_scopes.specs.declared.attributes.AttributeSort.TheVariants as sort

abbrev pub is_of_sort : AttributeSort → Attribute → Bool
is_of_sort sort.Parameter a = is_parameter a
is_of_sort sort.Allocatable a = is_allocatable a
is_of_sort sort.Dimension a = is_dimension a
is_of_sort sort.Intended a = is_intended a
is_of_sort sort.Read a = is_read a
