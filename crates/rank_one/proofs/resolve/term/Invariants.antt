use Rattle.std.proofs.Common.{◌≡◌, map, take}
use Rattle.std.specs.List.{flat_map}
use Rattle.rank_one.specs.Conditions.{names_in_factor}
use Rattle.rank_one.specs.Placing.{placed_factor}
use Rattle.rank_one.specs.Resolving.{see_all}
use Rattle.rank_one.proofs.resolve.term.Given as goal

abbrev pub invariant-loop-named : goal.invariant-loop-named
invariant-loop-named l = record {
  placed : l.rest ≡ map (placed_factor l.symbols) (take l.named-index l.named-items);
  seen : l.seen ≡ see_all l.symbols l.initial.seen (flat_map names_in_factor (take l.named-index l.named-items));
}
