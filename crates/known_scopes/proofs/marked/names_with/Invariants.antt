use Rattle.std.proofs.Common.{◌≡◌, ◌++◌, drop}
use Rattle.scope_entries.specs.View.{entries_of}
use Rattle.known_scopes.specs.Asked.{names_with}
use Rattle.known_scopes.proofs.marked.names_with.Given as goal

abbrev pub invariant-loop-entry : goal.invariant-loop-entry
invariant-loop-entry l =
    l.names ++ names_with l.sort (entries_of (drop l.entry-index l.entries)) ≡ names_with l.sort (entries_of l.entries)
