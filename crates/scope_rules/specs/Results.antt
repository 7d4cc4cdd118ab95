-- Whether a name is that one, where there is one, and whether it has one of these declarations.
use Rattle.std.specs.Prelude.{Bool, false, List, Option, Some, None}
use Rattle.std.specs.List.{list_any}
use Rattle.f95_tree.specs.Forms.{Word}
use Rattle.intrinsic_table.specs.Finding.{is_word}
use Rattle.names_types.specs.Scopes.{Entry}

abbrev pub is_named : Word → Option Word → Bool
is_named name None = false
is_named name (Some other) = is_word name other

abbrev pub stands_among : Word → List Entry → Bool
stands_among name es = list_any (λ (e : Entry). is_word name e.name) es
