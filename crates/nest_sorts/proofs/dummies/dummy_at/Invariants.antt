use Rattle.std.proofs.Common.{◌≡◌, drop}
use Rattle.nest_tree.specs.Sound.{dummy_at}
use Rattle.nest_sorts.proofs.dummies.dummy_at.Given as goal

abbrev pub invariant-loop-declared : goal.invariant-loop-declared
invariant-loop-declared l = dummy_at l.place (drop l.declared-index l.variables) ≡ dummy_at l.place l.variables
