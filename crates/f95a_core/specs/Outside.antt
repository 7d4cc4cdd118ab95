-- What the objects that are handed in tell, before a call and after it.
use Rattle.std.specs.Prelude.{◌≡◌, ℕ, List, Option, IfSome}
use Rattle.std.specs.Io.KnownBytes.{Keeps}
use Rattle.io_edge.specs.Causes.{Rose}

-- of files: the bytes of each name, the name of the last load that failed, and the count of those
pub record Files : Type 0 where
  pub file : List ℕ → Option (List ℕ)
  pub failed : List ℕ
  pub faults : ℕ

abbrev pub files : (List ℕ → Option (List ℕ)) → List ℕ → ℕ → Files
files file failed faults = record { file = file; failed = failed; faults = faults }

-- of a stream: the bytes that an input has left or an output holds, and the count of calls that failed
pub record Stream : Type 0 where
  pub bytes : Option (List ℕ)
  pub faults : ℕ

abbrev pub stream : Option (List ℕ) → ℕ → Stream
stream bytes faults = record { bytes = bytes; faults = faults }

-- these are the bytes, where they are told
abbrev pub IsTold : Option (List ℕ) → List ℕ → Type 0
IsTold told bytes = IfSome told (λ b. b ≡ bytes)

-- bytes that were there, and what holds of them
pub record Told (told : Option (List ℕ)) (P : List ℕ → Type 0) : Type 0 where
  pub bytes : List ℕ
  pub is : IsTold told bytes
  pub holds : P bytes

-- no load failed, or that of this name did
pub record NoLoadFailed (before after : Files) : Type 0 where
  pub failed : after.failed ≡ before.failed
  pub faults : after.faults ≡ before.faults

pub record LoadFailed (name : List ℕ) (before after : Files) : Type 0 where
  pub failed : after.failed ≡ name
  pub rose : Rose before.faults after.faults

-- nothing was written
pub record Unwritten (before after : Stream) : Type 0 where
  pub bytes : Keeps before.bytes after.bytes
  pub faults : after.faults ≡ before.faults
