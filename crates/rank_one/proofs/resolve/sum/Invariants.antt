use Rattle.std.proofs.Common.{◌≡◌, map, take}
use Rattle.std.specs.List.{flat_map}
use Rattle.rank_one.specs.Conditions.{names_in_term}
use Rattle.rank_one.specs.Placing.{placed_addend}
use Rattle.rank_one.specs.Resolving.{see_all}
use Rattle.rank_one.proofs.resolve.sum.Given as goal

abbrev pub invariant-loop-addend : goal.invariant-loop-addend
invariant-loop-addend l = record {
  placed : l.rest ≡ map (placed_addend l.symbols) (take l.addend-index l.addend-items);
  seen : l.seen ≡ see_all l.symbols l.initial.seen (flat_map (λ a. names_in_term a.term) (take l.addend-index l.addend-items));
}
