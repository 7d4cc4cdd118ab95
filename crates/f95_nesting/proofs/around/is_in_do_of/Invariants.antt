use Rattle.std.proofs.Common.{◌≡◌, ℕ, length, reverse, Some}
use Rattle.f95_nesting.proofs.around.is_in_do_of.Given as goal
use Rattle.f95_nesting.specs.Placed.{leaves, in_main}
use Rattle.f95_nesting.specs.Machine.{context}

abbrev pub invariant-frames : goal.invariant-frames
invariant-frames l = leaves (context in_main (reverse l.rest)).dos (Some l.name)
    ≡ leaves (context in_main (reverse l.fn.frames)).dos (Some l.name)

abbrev pub decreases-frames : goal.decreases-frames
decreases-frames l = length l.rest
