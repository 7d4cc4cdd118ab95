use Rattle.std.proofs.Common.{◌≡◌, ℕ, [], length}
use Rattle.f95_parts.proofs.bounds.dims_of.Given as goal
use Rattle.f95_parts.specs.Parts.{picked, dim_of}

abbrev pub invariant-picking : goal.invariant-picking
invariant-picking l = picked dim_of l.dims l.items ≡ picked dim_of [] l.initial.items

abbrev pub decreases-picking : goal.decreases-picking
decreases-picking l = length l.items
