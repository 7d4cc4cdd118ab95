use Rattle.std.proofs.Common.{◌≡◌, ℕ, length, map}
use Rattle.f95_statements.proofs.procedure.distinct.Given as goal
use Rattle.f95_tree.specs.WellFormed.{distinct, prefix_kind}

abbrev pub invariant-comparing : goal.invariant-comparing
invariant-comparing l = distinct (map prefix_kind l.rest) ≡ distinct (map prefix_kind l.fn.prefixes)

abbrev pub decreases-comparing : goal.decreases-comparing
decreases-comparing l = length l.rest
