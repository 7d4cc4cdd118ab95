use Rattle.std.proofs.Common.{◌≡◌, ℕ, ◌++◌, length}
use Rattle.f95_parts.proofs.bounds.stacked.Given as goal

abbrev pub invariant-stacking : goal.invariant-stacking
invariant-stacking l = l.items ++ l.stack ≡ l.fn.items

abbrev pub decreases-stacking : goal.decreases-stacking
decreases-stacking l = length l.items
