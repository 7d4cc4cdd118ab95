use Rattle.std.proofs.Common.{◌≡◌, ℕ, [], length}
use Rattle.f95_parts.proofs.bounds.bounds_of.Given as goal
use Rattle.f95_parts.specs.Parts.{picked, bound_of}

abbrev pub invariant-picking : goal.invariant-picking
invariant-picking l = picked bound_of l.bounds l.items ≡ picked bound_of [] l.initial.items

abbrev pub decreases-picking : goal.decreases-picking
decreases-picking l = length l.items
