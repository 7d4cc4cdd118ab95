use Rattle.std.proofs.Common.{◌≡◌, ℕ, [], length}
use Rattle.f95_parts.proofs.part.collected.Given as goal
use Rattle.f95_expressions.specs.Machine.{collected}

abbrev pub invariant-collecting : goal.invariant-collecting
invariant-collecting g l = collected g.P.Part.taken l.parts l.fields ≡ collected g.P.Part.taken [] l.initial.fields

abbrev pub decreases-collecting : goal.decreases-collecting
decreases-collecting g l = length l.fields
