-- How the answer of a machine is the status of a run.
use Rattle.std.proofs.Common.{◌≡◌, inr, refl, ℕ, List, [], ◌++◌, Option, Some, None, sym, ap, ◌∙◌}
use Rattle.io_edge.specs.Causes.{Rose}
use Rattle.io_edge.specs.Known.{Loads}
use Rattle.a95_base.specs.Outcome.{Outcome, Finished, Going, Ended, Faulted}
use Rattle.loop_tree.specs.declared.tree.Function.{Function}
use Rattle.loop_tree.specs.State.{State, End, Comes, Stuck}
use Rattle.loop_tree.specs.Run.{start}
use Rattle.loop_tree.specs.Program.{ReadsText}
use Rattle.loop_machine.specs.declared.end.End as end
use Rattle.loop_machine.specs.declared.end.End.TheVariants as ends
use Rattle.loop_machine.specs.Running as machine
use Rattle.f95a_core.specs.Outside.{Files, Stream, IsTold, NoLoadFailed}
use Rattle.f95a_core.specs.Intake.{TakenAll}
use Rattle.f95a_core.specs.Running.{job, WritesRun, WritesPrefixOfRun, RunComesTo, status_of_end}

-- a file that was loaded and read as the text of a program, whose input was taken to its end
pub record Ready (name : List ℕ) (files files' : Files) (input input' : Stream) (program : List Function) (bytes : List ℕ) : Type 0
  where
    pub loaded : NoLoadFailed files files'
    pub text : List ℕ
    pub file : IsTold (files.file name) text
    pub reads : ReadsText text program
    pub taken : TakenAll input.bytes input'.bytes bytes

module _ (name : List ℕ) (turns : ℕ) (files files' : Files) (input input' out out' : Stream) (program : List Function)
    (bytes : List ℕ) (r : Ready name files files' input input' program bytes) where
  writes : (outcome : Outcome End) → machine.Writes program (start program bytes) turns outcome out.bytes out'.bytes →
      WritesRun (job (files.file name) input.bytes turns) outcome input' out out'
  writes outcome w = record {
    written = w.written;
    executes =
        record {
          text = r.text;
          file = r.file;
          program = program;
          reads = r.reads;
          input = bytes;
          held = r.taken.held;
          short =
              r.taken.short;
          runs = w.runs;
        };
    taken = r.taken.end;
    appended = w.appended;
  }

  writes_prefix : machine.WritesPrefix program (start program bytes) turns out.bytes out'.bytes →
      WritesPrefixOfRun (job (files.file name) input.bytes turns) input' out out'
  writes_prefix w = record {
    written = w.written;
    outcome = w.outcome;
    executes =
        record {
          text = r.text;
          file = r.file;
          program = program;
          reads = r.reads;
          input = bytes;
          held = r.taken.held;
          short =
              r.taken.short;
          runs = w.runs;
        };
    taken = r.taken.end;
    appended = w.appended;
  }

  pub executed : (same_input same_output : Type 0) (e : end.End) (to : State) →
      machine.RunsTo program (start program bytes) turns e to out.bytes out'.bytes →
      (e ≡ ends.WriteFault → Rose out.faults out'.faults)
      → RunComesTo name turns files files' input input' out out' same_input same_output (status_of_end e)
  executed same_input same_output ends.Ended to h rose = (r.loaded, writes (Finished (Comes Ended)) h)
  executed same_input same_output (ends.Fault kind line) to h rose = (r.loaded, writes (Finished (Comes (Faulted kind line.0))) h)
  executed same_input same_output (ends.Stuck why) to h rose = (r.loaded, writes (Finished (Stuck why)) h)
  executed same_input same_output ends.TurnLimit to h rose =
      (r.loaded, writes Going (record { written = h.written; runs = h.runs; appended = h.appended }))
  executed same_input same_output ends.WriteFault to h rose = (r.loaded, rose refl, writes_prefix h)
  executed same_input same_output ends.Memory to h rose = (r.loaded, inr (writes_prefix h))

-- what was loaded into an empty buffer is the file, where it is told
pub told_by : (told : Option (List ℕ)) (old new bytes : List ℕ) → old ≡ [] → bytes ≡ new → Loads told old new → IsTold told bytes
told_by None old new bytes empty same h = tt
told_by (Some b) old new bytes empty same h = sym (same ∙ h ∙ ap (λ (o : List ℕ). o ++ b) empty)
