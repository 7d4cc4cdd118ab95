-- The declarations that are held are those of the scope.
use Rattle.std.specs.Prelude.{◌≡◌}
use Rattle.scope_entries.specs.View.{entries_of}
use Rattle.known_scopes.specs.View.{declared_in}
use Rattle.known_scopes.specs.declared.known.Known.{Known}

abbrev pub IsListed : Known → Type 0
IsListed k = entries_of k.entries.items ≡ declared_in k.scope
