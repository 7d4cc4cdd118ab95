-- How the input of a run is taken.
use Rattle.std.specs.Prelude.{◌≡◌, ℕ, ◌+◌, ◌^◌, ◌≤◌, ◌<◌, List, length, Option, ⊤}
use Rattle.std.specs.Io.KnownBytes.{Consumes, IsAtEnd}
use Rattle.io_edge.specs.Causes.{Rose}
use Rattle.f95a_core.specs.declared.intake.IntakeFault.{IntakeFault}
use Rattle.f95a_core.specs.declared.intake.IntakeFault.TheVariants as fault
use Rattle.f95a_core.specs.Outside.{IsTold}

-- the most bytes that an input may have
abbrev pub input_limit : ℕ
input_limit = 2 ^ 24

-- this many bytes were taken from the front
pub record Takes (count : ℕ) (old new : Option (List ℕ)) : Type 0 where
  pub bytes : List ℕ
  pub taken : Consumes old new bytes
  pub counted : length bytes ≡ count

-- no more than this many were
pub record TakesAtMost (most : ℕ) (old new : Option (List ℕ)) : Type 0 where
  pub bytes : List ℕ
  pub taken : Consumes old new bytes
  pub within : length bytes ≤ most

-- these are all the bytes that were left, no more than there may be, and none is left now
pub record TakenAll (old new : Option (List ℕ)) (bytes : List ℕ) : Type 0 where
  pub held : IsTold old bytes
  pub end : IsAtEnd new
  pub short : length bytes ≤ input_limit

-- more were left than there may be
pub record IsTooLong (old : Option (List ℕ)) : Type 0 where
  pub input : List ℕ
  pub held : IsTold old input
  pub long : input_limit < length input

-- why they were not all taken, and how many were, where the count of faults went from one number to another; want of memory is free
abbrev pub IntakeFails : IntakeFault → Option (List ℕ) → Option (List ℕ) → ℕ → ℕ → Type 0
IntakeFails fault.TooLong old new before now = IsTooLong old × Takes (input_limit + 1) old new
IntakeFails fault.Failed old new before now = Rose before now × TakesAtMost input_limit old new
IntakeFails fault.Memory old new before now = ⊤
