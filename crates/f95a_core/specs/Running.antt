-- What `run` comes to, and what it leaves.
use Rattle.std.specs.Prelude.{◌≡◌, ◌⊎◌, ℕ, ◌+◌, ◌≤◌, List, length, Option, Some}
use Rattle.std.specs.Io.KnownBytes.{Appends, IsAtEnd}
use Rattle.io_edge.specs.Causes.{Rose}
use Rattle.io_edge.specs.Known.{AppendsPrefix}
use Rattle.a95_base.specs.Outcome.{Outcome, Finished, Going, Ended, Faulted}
use Rattle.loop_tree.specs.declared.tree.Function.{Function}
use Rattle.loop_tree.specs.State.{End, Comes, Stuck}
use Rattle.loop_tree.specs.Run.{Mach}
use Rattle.loop_tree.specs.Program.{ReadsText}
use Rattle.loop_text.specs.Refused.{IsRefusedLine}
use Rattle.loop_machine.specs.declared.end.End as end
use Rattle.loop_machine.specs.declared.end.End.TheVariants as ends
use Rattle.f95a_core.specs.declared.status.Status.{Status}
use Rattle.f95a_core.specs.declared.status.Status.TheVariants as status
use Rattle.f95a_core.specs.Outside.{Files, Stream, IsTold, Told, NoLoadFailed, LoadFailed}
use Rattle.f95a_core.specs.Answers.{IsFailure}
use Rattle.f95a_core.specs.Intake.{input_limit, Takes, TakesAtMost, IsTooLong}

-- what a run is of: the bytes of the file and those of the input, where they are told, and the turns
pub record Job : Type 0 where
  pub file : Option (List ℕ)
  pub input : Option (List ℕ)
  pub turns : ℕ

abbrev pub job : Option (List ℕ) → Option (List ℕ) → ℕ → Job
job file input turns = record { file = file; input = input; turns = turns }

-- the bytes are the text of a program, or of none
pub record IsText (bytes : List ℕ) : Type 0 where
  pub program : List Function
  pub reads : ReadsText bytes program

-- the file is the text of a program, and on all of the input it writes this and comes to this outcome
pub record Executes (job : Job) (written : List ℕ) (outcome : Outcome End) : Type 0 where
  pub text : List ℕ
  pub file : IsTold job.file text
  pub program : List Function
  pub reads : ReadsText text program
  pub input : List ℕ
  pub held : IsTold job.input input
  pub short : length input ≤ input_limit
  pub runs : Mach program input job.turns written outcome

-- all of the input was taken, and what the run writes was written
pub record WritesRun (job : Job) (outcome : Outcome End) (input out out' : Stream) : Type 0 where
  pub written : List ℕ
  pub executes : Executes job written outcome
  pub taken : IsAtEnd input.bytes
  pub appended : Appends out.bytes out'.bytes written

-- the same of a prefix
pub record WritesPrefixOfRun (job : Job) (input out out' : Stream) : Type 0 where
  pub written : List ℕ
  pub outcome : Outcome End
  pub executes : Executes job written outcome
  pub taken : IsAtEnd input.bytes
  pub appended : AppendsPrefix out.bytes out'.bytes written

-- the status of an outcome
abbrev pub status_of : Outcome End → Status
status_of (Finished (Comes Ended)) = status.Done
status_of (Finished (Comes (Faulted kind line))) = status.Fault kind (record { 0 = line })
status_of (Finished (Stuck why)) = status.Stuck why
status_of Going = status.TurnLimit

-- and of the answer of a machine
abbrev pub status_of_end : end.End → Status
status_of_end ends.Ended = status.Done
status_of_end (ends.Fault kind line) = status.Fault kind line
status_of_end (ends.Stuck why) = status.Stuck why
status_of_end ends.TurnLimit = status.TurnLimit
status_of_end ends.WriteFault = status.WriteFault
status_of_end ends.Memory = status.Memory

-- why an input was not read, once the file was found to be a text
pub record InputFailed (file : Option (List ℕ)) (files files' : Files) (input input' : Stream) : Type 0 where
  pub text : Told file IsText
  pub loaded : NoLoadFailed files files'
  pub rose : Rose input.faults input'.faults
  pub taken : TakesAtMost input_limit input.bytes input'.bytes

-- want of memory, before anything was written
pub record NoMemory (input input' : Stream) (same_output : Type 0) : Type 0 where
  pub output : same_output
  pub taken : TakesAtMost (input_limit + 1) input.bytes input'.bytes

-- Each status of `run NAME --turns N`, with its cause, and what was written and taken. The order is: the file is loaded, it is read
-- as a
-- text, the input is taken, and the program runs. Until then the input, and the output, are as they were: it is said of the objects
-- themselves. Every other status is that of another command.
abbrev pub RunComesTo : List ℕ → ℕ → Files → Files → Stream → Stream → Stream → Stream → Type 0 → Type 0 → Status → Type 0
RunComesTo name turns files files' input input' out out' same_input same_output status.Done =
    NoLoadFailed files files' × WritesRun (job (files.file name) input.bytes turns) (Finished (Comes Ended)) input' out out'
RunComesTo name turns files files' input input' out out' same_input same_output (status.Fault kind line) =
    NoLoadFailed files files' × WritesRun (job (files.file name) input.bytes turns) (Finished (Comes (Faulted kind line.0))) input'
    out out'
RunComesTo name turns files files' input input' out out' same_input same_output (status.Stuck why) =
    NoLoadFailed files files' × WritesRun (job (files.file name) input.bytes turns) (Finished (Stuck why)) input' out out'
RunComesTo name turns files files' input input' out out' same_input same_output status.TurnLimit =
    NoLoadFailed files files' × WritesRun (job (files.file name) input.bytes turns) Going input' out out'
RunComesTo name turns files files' input input' out out' same_input same_output (status.TextRefused line) =
    NoLoadFailed files files' × Told (files.file name) (λ bytes. IsRefusedLine bytes line.0) × same_input × same_output
RunComesTo name turns files files' input input' out out' same_input same_output status.InputTooLong =
    NoLoadFailed files files' × Told (files.file name) IsText × IsTooLong input.bytes
    × Takes (input_limit + 1) input.bytes input'.bytes × same_output
RunComesTo name turns files files' input input' out out' same_input same_output status.ReadFault =
    same_output × ((LoadFailed name files files' × same_input) ⊎ InputFailed (files.file name) files files' input input')
RunComesTo name turns files files' input input' out out' same_input same_output status.WriteFault =
    NoLoadFailed files files' × Rose out.faults out'.faults × WritesPrefixOfRun (job (files.file name) input.bytes turns) input' out
    out'
RunComesTo name turns files files' input input' out out' same_input same_output status.Memory =
    NoLoadFailed files files'
    × (NoMemory input input' same_output ⊎ WritesPrefixOfRun (job (files.file name) input.bytes turns) input' out out')
RunComesTo name turns files files' input input' out out' same_input same_output other = ⊥

-- a text is run on an input that isn't too long, unless a device or memory fails
abbrev pub RunsText : Job → Stream → Stream → Status → Type 0
RunsText job out out' result = (text : List ℕ) (program : List Function) (input written : List ℕ) (outcome : Outcome End) →
    job.file ≡ Some text → ReadsText text program → job.input ≡ Some input → length input ≤ input_limit →
    Mach program input job.turns written outcome →
    ((result ≡ status_of outcome) × Appends out.bytes out'.bytes written) ⊎ IsFailure result
