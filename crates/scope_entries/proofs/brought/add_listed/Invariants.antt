use Rattle.std.proofs.Common.{◌≡◌, ◌++◌, drop, map}
use Rattle.std.specs.List.{filter}
use Rattle.names_types.specs.Scopes.{listed_in, share_entry}
use Rattle.scope_entries.specs.View.{all_brought}
use Rattle.scope_entries.proofs.brought.add_listed.Given as goal

abbrev pub invariant-loop-share : goal.invariant-loop-share
invariant-loop-share l =
    all_brought l.brought.items ++ map (share_entry l.line) (filter (listed_in l.only) (drop l.share-index l.shares))
    ≡ all_brought l.initial.brought.items ++ map (share_entry l.line) (filter (listed_in l.only) l.shares)
