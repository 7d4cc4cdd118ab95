-- What the top call answers, once a command has come to a status.
use Rattle.std.specs.Prelude.{◌≡◌, ◌≢◌, ◌⊎◌}
use Rattle.std.specs.Io.KnownBytes.{Appends}
use Rattle.io_edge.specs.Causes.{Rose}
use Rattle.io_edge.specs.Known.{AppendsPrefix}
use Rattle.f95a_core.specs.declared.status.Status.{Status}
use Rattle.f95a_core.specs.declared.status.Status.TheVariants as status
use Rattle.f95a_core.specs.Outside.{Stream, Unwritten}
use Rattle.f95a_core.specs.Status.{note}

-- the note of the status was written, and the status is the answer
pub record NoteWritten (came result : Status) (before after : Stream) : Type 0 where
  pub answer : result ≡ came
  pub note : Appends before.bytes after.bytes (note came)
  pub faults : after.faults ≡ before.faults

-- writing it failed, so that a prefix of it stands there
pub record NoteFailed (came result : Status) (before after : Stream) : Type 0 where
  pub due : came ≢ status.Done
  pub answer : result ≡ status.WriteFault
  pub rose : Rose before.faults after.faults
  pub prefix : AppendsPrefix before.bytes after.bytes (note came)

-- it found no memory
pub record NoteUnwritten (came result : Status) (before after : Stream) : Type 0 where
  pub due : came ≢ status.Done
  pub answer : result ≡ status.Memory
  pub nothing : Unwritten before after

abbrev pub Noted : Status → Status → Stream → Stream → Type 0
Noted came result before after = NoteWritten came result before after
    ⊎ (NoteFailed came result before after ⊎ NoteUnwritten came result before after)

-- a command came to a status of which P holds, and its note was written, unless that failed
pub record Answers (result : Status) (before after : Stream) (P : Status → Type 0) : Type 0 where
  pub came : Status
  pub noted : Noted came result before after
  pub holds : P came

-- what words come to that are no command; want of memory is free
abbrev pub IsUsage : Status → Type 0
IsUsage came = (came ≡ status.Usage) ⊎ (came ≡ status.Memory)

-- a device failed, or memory did
abbrev pub IsFailure : Status → Type 0
IsFailure result = (result ≡ status.ReadFault) ⊎ ((result ≡ status.WriteFault) ⊎ (result ≡ status.Memory))
