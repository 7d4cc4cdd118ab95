-- What has been taken of an input.
use Rattle.std.proofs.Common.{ℕ, ◌+◌, ◌^◌, ◌<◌, ◌≤◌, List, [], ◌++◌, length, take, refl, ap, Option, Some, None, arith}
use Rattle.std.proofs.lemmas.List.{length-append, length-take}
use Rattle.std.specs.Io.KnownBytes.{Consumes}
use Rattle.std.proofs.KnownBytes.{Consumes-nil, Consumes-trans}
use Rattle.f95a_core.specs.Intake.{TakesAtMost, IsTooLong}

pub too_long : (old now : Option (List ℕ)) (bytes : List ℕ) → Consumes old now bytes → 2 ^ 24 < length bytes → IsTooLong old
too_long None now bytes taken long = record { input = bytes; held = tt; long = long }
too_long (Some xs) None bytes taken long = absurd taken
too_long (Some xs) (Some ys) bytes taken long =
    record { input = xs; held = refl; long = omega (arith, ap length taken, length-append bytes ys, long) }

pub nothing_taken : (most : ℕ) (input : Option (List ℕ)) → TakesAtMost most input input
nothing_taken most input = record { bytes = []; taken = Consumes-nil input; within = omega arith }

-- what was taken, and then the next call's
pub taken_after : (most count : ℕ) (old now new : Option (List ℕ)) (bytes piece : List ℕ) → Consumes old now bytes →
    Consumes now new (take count piece) → length bytes + count ≤ most
    → TakesAtMost most old new
taken_after most count old now new bytes piece taken next within = record {
  bytes = bytes ++ take count piece;
  taken = Consumes-trans old now new bytes (take count piece) taken next;
  within = omega (arith, length-append bytes (take count piece), length-take count piece, within);
}
