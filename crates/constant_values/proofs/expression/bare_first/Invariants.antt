use Rattle.std.proofs.Common.{◌≡◌, drop}
use Rattle.names_types.specs.Constants.{bare_at}
use Rattle.constant_values.proofs.expression.bare_first.Given as goal

abbrev pub invariant-loop-argument : goal.invariant-loop-argument
invariant-loop-argument l = bare_at 0 (drop l.argument-index l.placed) ≡ bare_at 0 l.placed
