use Rattle.std.proofs.Common.{◌≡◌, ◌++◌, drop}
use Rattle.scope_entries.specs.View.{all_brought, entries_of}
use Rattle.scope_entries.proofs.brought.add_all.Given as goal

abbrev pub invariant-loop-one : goal.invariant-loop-one
invariant-loop-one l =
    entries_of l.entries.items ++ all_brought (drop l.one-index l.brought) ≡ entries_of l.initial.entries.items
    ++ all_brought l.brought
