use Rattle.std.proofs.Common.{◌≡◌, ◌++◌, drop}
use Rattle.scope_entries.specs.View.{entries_of}
use Rattle.scope_names.specs.Tables.{names_of}
use Rattle.scope_names.proofs.filling.own_names.Given as goal

abbrev pub invariant-loop-entry : goal.invariant-loop-entry
invariant-loop-entry l = l.names ++ names_of (entries_of (drop l.entry-index l.entries)) ≡ names_of (entries_of l.entries)
