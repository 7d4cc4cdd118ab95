use Rattle.std.proofs.Common.{◌≡◌, ℕ, [], length}
use Rattle.f95_expressions.proofs.closing.items_of.Given as goal
use Rattle.f95_expressions.specs.Machine.{collected, item_of}

abbrev pub invariant-collecting : goal.invariant-collecting
invariant-collecting l = collected item_of l.items l.fields ≡ collected item_of [] l.initial.fields

abbrev pub decreases-collecting : goal.decreases-collecting
decreases-collecting l = length l.fields
