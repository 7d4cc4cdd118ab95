use Rattle.std.proofs.Common.{◌≡◌, ℕ, length}
use Rattle.f95_fields.proofs.machine.reduce.Given as goal
use Rattle.f95_expressions.specs.Machine.{reduce}

abbrev pub invariant-making : goal.invariant-making
invariant-making l = reduce l.fn.least l.stack l.expression ≡ reduce l.fn.least l.fn.stack l.fn.expression

abbrev pub decreases-making : goal.decreases-making
decreases-making l = length l.stack
