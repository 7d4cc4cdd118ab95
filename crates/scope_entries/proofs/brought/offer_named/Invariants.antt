use Rattle.std.proofs.Common.{◌≡◌, ◌≤◌, length, take, reverse}
use Rattle.names_types.specs.Scopes.{offer_named}
use Rattle.scope_entries.proofs.brought.offer_named.Given as goal

abbrev pub invariant-loop-left : goal.invariant-loop-left
invariant-loop-left l = record {
  within : l.left ≤ length l.above;
  same : offer_named (reverse (take l.left l.above)) l.name ≡ offer_named (reverse l.above) l.name;
}

abbrev pub decreases-loop-left : goal.decreases-loop-left
decreases-loop-left l = l.left
