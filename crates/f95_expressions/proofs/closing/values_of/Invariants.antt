use Rattle.std.proofs.Common.{◌≡◌, ℕ, [], length}
use Rattle.f95_expressions.proofs.closing.values_of.Given as goal
use Rattle.f95_expressions.specs.Machine.{collected, value_of}

abbrev pub invariant-collecting : goal.invariant-collecting
invariant-collecting l = collected value_of l.values l.fields ≡ collected value_of [] l.initial.fields

abbrev pub decreases-collecting : goal.decreases-collecting
decreases-collecting l = length l.fields
