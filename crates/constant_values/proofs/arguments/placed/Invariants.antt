use Rattle.std.proofs.Common.{◌≡◌, ◌++◌, drop}
use Rattle.std.specs.Prelude.{option_map}
use Rattle.names_types.specs.Constants.{placed_from}
use Rattle.constant_values.proofs.arguments.placed.Given as goal

abbrev pub invariant-loop-argument : goal.invariant-loop-argument
invariant-loop-argument l = record {
  counted : l.next ≡ l.argument-index;
  same : option_map (λ ys. l.made.items ++ ys) (placed_from l.which l.next (drop l.argument-index l.arguments))
      ≡ placed_from l.which 0 l.arguments;
}
