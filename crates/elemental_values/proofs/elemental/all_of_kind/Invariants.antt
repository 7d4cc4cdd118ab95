use Rattle.std.proofs.Common.{◌≡◌, drop}
use Rattle.names_types.specs.Constants.{all_of_kind}
use Rattle.elemental_values.proofs.elemental.all_of_kind.Given as goal

abbrev pub invariant-loop-argument : goal.invariant-loop-argument
invariant-loop-argument l = all_of_kind l.kind (drop l.argument-index l.seen) ≡ all_of_kind l.kind l.seen
