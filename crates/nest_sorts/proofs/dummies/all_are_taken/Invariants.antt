use Rattle.std.proofs.Common.{◌≡◌, ℕ, false, Option, drop}
use Rattle.std.specs.List.{list_all}
use Rattle.nest_tree.specs.Sound.{of_declared, takes_value, dummy_at}
use Rattle.nest_tree.specs.declared.unit.Sort.{Sort}
use Rattle.nest_sorts.proofs.dummies.all_are_taken.Given as goal

abbrev pub invariant-loop-sort : goal.invariant-loop-sort
invariant-loop-sort l =
    list_all (λ (s : ℕ × Option Sort). of_declared false (takes_value s.1) (dummy_at s.0 l.variables)) (drop l.sort-index l.sorts)
    ≡ list_all (λ (s : ℕ × Option Sort). of_declared false (takes_value s.1) (dummy_at s.0 l.variables)) l.sorts
