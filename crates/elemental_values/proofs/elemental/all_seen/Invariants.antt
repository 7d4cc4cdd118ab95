use Rattle.std.proofs.Common.{◌≡◌, ◌++◌, drop}
use Rattle.std.specs.Prelude.{option_map}
use Rattle.names_types.specs.Constants.{all_seen}
use Rattle.elemental_values.proofs.elemental.all_seen.Given as goal

abbrev pub invariant-loop-argument : goal.invariant-loop-argument
invariant-loop-argument l =
    option_map (λ ys. l.made.items ++ ys) (all_seen (drop l.argument-index l.placed)) ≡ all_seen l.placed
