use Rattle.std.proofs.Common.{◌≡◌, ◌++◌, drop, map, reverse}
use Rattle.std.specs.List.{flat_map}
use Rattle.names_types.specs.Scopes.{brought_by}
use Rattle.names_types.specs.View.{use_of}
use Rattle.scope_entries.specs.View.{all_brought}
use Rattle.scope_entries.proofs.brought.all_used.Given as goal

abbrev pub invariant-loop-used : goal.invariant-loop-used
invariant-loop-used l =
    all_brought l.brought.items ++ flat_map (brought_by (reverse l.above)) (map use_of (drop l.used-index l.uses))
    ≡ flat_map (brought_by (reverse l.above)) (map use_of l.uses)
