use Rattle.std.proofs.Common.{◌≡◌, ℕ, length}
use Rattle.std.specs.Prelude.{option_and_then}
use Rattle.f95_fields.proofs.run.bracket.Given as goal
use Rattle.f95_expressions.specs.Machine.{run, closed_found, bracket}

abbrev pub invariant-reading : goal.invariant-reading
invariant-reading l = option_and_then closed_found (run l.machine l.rest) ≡ bracket l.fn.terminals

abbrev pub decreases-reading : goal.decreases-reading
decreases-reading l = length l.rest
