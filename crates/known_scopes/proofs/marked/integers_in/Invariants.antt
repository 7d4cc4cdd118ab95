use Rattle.std.proofs.Common.{◌≡◌, ◌++◌, drop}
use Rattle.scope_entries.specs.View.{entries_of}
use Rattle.known_scopes.specs.Asked.{integers_from, integers_in}
use Rattle.known_scopes.proofs.marked.integers_in.Given as goal

abbrev pub invariant-loop-entry : goal.invariant-loop-entry
invariant-loop-entry l =
    l.names ++ integers_from l.before (entries_of (drop l.entry-index l.entries)) ≡ integers_in (entries_of l.entries)
