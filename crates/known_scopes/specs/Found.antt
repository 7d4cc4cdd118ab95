-- The first declaration of a name, and its line.
use Rattle.std.specs.Prelude.{ℕ, List, Option, Some, None}
use Rattle.std.specs.List.{find}
use Rattle.f95_tree.specs.Forms.{Word}
use Rattle.intrinsic_table.specs.Finding.{is_word}
use Rattle.names_types.specs.Scopes.{Entry}

abbrev pub first_named : Word → List Entry → Option Entry
first_named name es = find (λ (e : Entry). is_word name e.name) es

abbrev pub first_found_line : ℕ → Option Entry → ℕ
first_found_line heading None = heading
first_found_line heading (Some e) = e.line
