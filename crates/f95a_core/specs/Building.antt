-- What `build` comes to, and what it leaves.
use Rattle.std.specs.Prelude.{◌≡◌, ◌≢◌, ◌⊎◌, ℕ, List, length, Option, Some}
use Rattle.std.specs.Io.KnownBytes.{Appends}
use Rattle.io_edge.specs.Causes.{Rose}
use Rattle.io_edge.specs.Known.{AppendsPrefix}
use Rattle.loop_tree.specs.declared.tree.Function.{Function}
use Rattle.loop_tree.specs.Program.{ReadsText}
use Rattle.f95a_core.specs.declared.status.Status.{Status}
use Rattle.f95a_core.specs.declared.status.Status.TheVariants as status
use Rattle.f95a_core.specs.Outside.{Files, Stream, Told, NoLoadFailed, LoadFailed}
use Rattle.loop_laws.specs.Follows.{Follows}
use Rattle.f95a_core.specs.Source.{Unit, Reads, IsBroken, IsLeastBroken, IsUnbroken, source_run, turn_bound}
use Rattle.f95a_core.specs.Answers.{IsFailure}

-- the program follows the unit that the bytes read as
pub record Compiles (bytes : List ℕ) (program : List Function) : Type 0 where
  pub unit : Unit
  pub reads : Reads bytes unit
  pub follows : Follows (source_run unit) (turn_bound (length bytes)) program

-- the text is that of such a program
pub record Builds (bytes text : List ℕ) : Type 0 where
  pub program : List Function
  pub reads : ReadsText text program
  pub compiles : Compiles bytes program

-- a text of the source was written, or a prefix of one
pub record WritesText (before after : Stream) (bytes : List ℕ) : Type 0 where
  pub text : List ℕ
  pub builds : Builds bytes text
  pub appended : Appends before.bytes after.bytes text

pub record WritesPrefix (before after : Stream) (bytes : List ℕ) : Type 0 where
  pub text : List ℕ
  pub builds : Builds bytes text
  pub appended : AppendsPrefix before.bytes after.bytes text

-- each status of `build NAME`, with its cause, and what was written; every other status is that of another command. Where nothing
-- was, it is said of the output itself
abbrev pub BuildComesTo : List ℕ → Files → Files → Stream → Stream → Type 0 → Status → Type 0
BuildComesTo name files files' out out' same_output status.Done = NoLoadFailed files files'
    × Told (files.file name) (WritesText out out')
BuildComesTo name files files' out out' same_output (status.Refused phase line rule) =
    NoLoadFailed files files' × Told (files.file name) (λ bytes. IsLeastBroken bytes phase line.0 rule.0) × same_output
BuildComesTo name files files' out out' same_output status.ReadFault = LoadFailed name files files' × same_output
BuildComesTo name files files' out out' same_output status.WriteFault = NoLoadFailed files files'
    × Told (files.file name) (WritesPrefix out out') × Rose out.faults out'.faults
BuildComesTo name files files' out out' same_output status.Memory = NoLoadFailed files files'
    × (same_output ⊎ Told (files.file name) (WritesPrefix out out'))
BuildComesTo name files files' out out' same_output other = ⊥

-- a source that breaks no rule is built, unless a device or memory fails, and no other is
abbrev pub BuildsUnbroken : Option (List ℕ) → Status → Type 0
BuildsUnbroken file result = (bytes : List ℕ) → file ≡ Some bytes → IsUnbroken bytes → (result ≡ status.Done) ⊎ IsFailure result

abbrev pub BuildsNoOther : Option (List ℕ) → Status → Type 0
BuildsNoOther file result = (bytes : List ℕ) (phase line rule : ℕ) → file ≡ Some bytes → IsBroken bytes phase line rule →
    result ≢ status.Done
