use Rattle.std.proofs.Common.{◌≡◌, ℕ, Option, drop}
use Rattle.std.specs.List.{list_all}
use Rattle.nest_tree.specs.Sound.{some_serves}
use Rattle.nest_tree.specs.declared.unit.Sort.{Sort}
use Rattle.nest_tree.specs.declared.unit.Sort.TheVariants.{Int}
use Rattle.nest_sorts.proofs.operators.all_are_integers.Given as goal

abbrev pub invariant-loop-sort : goal.invariant-loop-sort
invariant-loop-sort l =
    list_all (λ (s : ℕ × Option Sort). some_serves s.1 Int) (drop l.sort-index l.sorts)
    ≡ list_all (λ (s : ℕ × Option Sort). some_serves s.1 Int) l.sorts
