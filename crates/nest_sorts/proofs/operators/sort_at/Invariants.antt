use Rattle.std.proofs.Common.{◌≡◌, drop}
use Rattle.nest_tree.specs.Sound.{sort_at}
use Rattle.nest_sorts.proofs.operators.sort_at.Given as goal

abbrev pub invariant-loop-sort : goal.invariant-loop-sort
invariant-loop-sort l = sort_at l.place (drop l.sort-index l.sorts) ≡ sort_at l.place l.sorts
