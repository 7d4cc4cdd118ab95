use Rattle.std.proofs.Common.{◌≡◌, ℕ, length}
use Rattle.f95_statements.proofs.procedure.prefixes_of.Given as goal
use Rattle.f95_statements.specs.Declarations.{prefixes_of}

abbrev pub invariant-taking : goal.invariant-taking
invariant-taking l = prefixes_of l.prefixes l.rest ≡ prefixes_of l.fn.prefixes l.fn.terminals

abbrev pub decreases-taking : goal.decreases-taking
decreases-taking l = length l.rest
