use Rattle.std.proofs.Common.{◌≡◌, drop}
use Rattle.names_types.specs.Constants.{is_filled}
use Rattle.constant_values.proofs.arguments.is_filled.Given as goal

abbrev pub invariant-loop-argument : goal.invariant-loop-argument
invariant-loop-argument l = is_filled l.place (drop l.argument-index l.placed) ≡ is_filled l.place l.placed
