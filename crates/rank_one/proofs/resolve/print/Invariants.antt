use Rattle.std.proofs.Common.{◌≡◌, ◌∷◌, map, take}
use Rattle.rank_one.specs.Placing.{placed_name}
use Rattle.rank_one.specs.Resolving.{see_all}
use Rattle.rank_one.proofs.resolve.print.Given as goal

abbrev pub invariant-loop-word : goal.invariant-loop-word
invariant-loop-word l = record {
  placed : l.arrays ≡ map (placed_name l.symbols) (l.first ∷ take l.word-index l.rest);
  seen : l.seen ≡ see_all l.symbols l.initial.seen (take l.word-index l.rest);
}
