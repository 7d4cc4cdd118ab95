use Rattle.std.proofs.Common.{◌≡◌, ℕ, [], length}
use Rattle.f95_statements.proofs.declaration.attributes_of.Given as goal
use Rattle.f95_statements.specs.Declarations.{attributes_of}

abbrev pub invariant-gathering : goal.invariant-gathering
invariant-gathering l = attributes_of l.attributes l.rest ≡ attributes_of [] l.fn.terminals

abbrev pub decreases-gathering : goal.decreases-gathering
decreases-gathering l = length l.rest
