use Rattle.std.proofs.Common.{◌≡◌, ◌+◌, ◌≤◌, drop}
use Rattle.nest_tree.specs.Sound.{count_dummies}
use Rattle.nest_sorts.proofs.dummies.count_dummies.Given as goal

abbrev pub invariant-loop-declared : goal.invariant-loop-declared
invariant-loop-declared l = record {
  few : l.count ≤ l.declared-index;
  same : l.count + count_dummies (drop l.declared-index l.variables) ≡ count_dummies l.variables;
}
