-- What a declaration says of one of its entities, of the reader's tree.
use Rattle.std.specs.Prelude.{List, map, Option, option_map}
use Rattle.a95_base.specs.declared.source.Line.{Line}
use Rattle.f95_tree.specs.declared.declaration.Declaration.{Declaration}
use Rattle.f95_tree.specs.declared.declaration.Entity.{Entity}
use Rattle.names_types.specs.Scopes.{Object, object_of}
use Rattle.names_types.specs.View.{declaration_of, entity_of}

abbrev pub object_in : Line × Declaration → Entity → Object
object_in d e = object_of (declaration_of d) (entity_of e)
