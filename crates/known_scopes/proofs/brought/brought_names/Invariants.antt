use Rattle.std.proofs.Common.{◌≡◌, ◌++◌, drop}
use Rattle.std.specs.List.{filter_map}
use Rattle.scope_entries.specs.View.{entries_of}
use Rattle.known_scopes.specs.Uses.{brought_name}
use Rattle.known_scopes.proofs.brought.brought_names.Given as goal

abbrev pub invariant-loop-entry : goal.invariant-loop-entry
invariant-loop-entry l =
    l.names ++ filter_map brought_name (entries_of (drop l.entry-index l.entries)) ≡ filter_map brought_name (entries_of l.entries)
