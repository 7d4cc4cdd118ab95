use Rattle.std.proofs.Common.{◌≡◌, ℕ, length}
use Rattle.f95_bodies.proofs.blocks.has_default.Given as goal
use Rattle.f95_nesting.specs.Machine.{has_default}

abbrev pub invariant-cases : goal.invariant-cases
invariant-cases l = has_default l.rest ≡ has_default l.fn.cases

abbrev pub decreases-cases : goal.decreases-cases
decreases-cases l = length l.rest
