use Rattle.std.proofs.Common.{◌≡◌, ◌++◌, drop}
use Rattle.std.specs.List.{filter_map}
use Rattle.scope_entries.specs.View.{entries_of}
use Rattle.known_scopes.specs.Uses.{brought_value}
use Rattle.known_scopes.proofs.brought.brought_meanings.Given as goal

abbrev pub invariant-loop-entry : goal.invariant-loop-entry
invariant-loop-entry l =
    l.meanings.items ++ filter_map brought_value (entries_of (drop l.entry-index l.entries))
    ≡ filter_map brought_value (entries_of l.entries)
