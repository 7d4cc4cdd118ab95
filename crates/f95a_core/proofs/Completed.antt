-- A text is run to what its program comes to, by the laws of one program and one outcome.
use Rattle.std.proofs.Common.{◌≡◌, inl, inr, refl, sym, subst, ap, ◌∙◌, ℕ, List, [], length, Some, arith}
use Rattle.std.specs.Io.KnownBytes.{Appends}
use Rattle.a95_base.specs.Outcome.{Outcome, Finished, Going, Ended, Faulted}
use Rattle.loop_tree.specs.declared.tree.Function.{Function}
use Rattle.loop_tree.specs.State.{End, Comes, Stuck}
use Rattle.loop_tree.specs.Run.{Mach, configuration, start}
use Rattle.loop_tree.specs.RunLaws.{OneOutcome}
use Rattle.loop_tree.specs.Program.{ReadsText}
use Rattle.loop_text.specs.Refused.{OneProgram}
use Rattle.f95a_core.specs.declared.status.Status.{Status}
use Rattle.f95a_core.specs.declared.status.Status.TheVariants as status
use Rattle.f95a_core.specs.Outside.{Files, Stream}
use Rattle.f95a_core.specs.Answers.{Noted}
use Rattle.f95a_core.specs.Running.{Job, job, Executes, WritesRun, RunComesTo, RunsText, status_of}
use Rattle.f95a_core.proofs.Noting.{one_told, same_or_failure, failure_stays}

-- two runs of one text on one input are one
same_run : OneProgram → OneOutcome → (job : Job) (first second : List ℕ) (came outcome : Outcome End) → Executes job first came →
    (text : List ℕ) (program : List Function) (input : List ℕ) → job.file ≡ Some text → ReadsText text program →
    job.input ≡ Some input → Mach program input job.turns second outcome →
    (first ≡ second) × (came ≡ outcome)
same_run program_law outcome_law job first second came outcome x text program input file reads held runs =
    let text_is : x.text ≡ text = one_told job.file x.text text x.file file in
    let input_is : x.input ≡ input = one_told job.input x.input input x.held held in
    let read_here : ReadsText text x.program = subst (λ (t : List ℕ). ReadsText t x.program) text_is x.reads in
    let program_is : x.program ≡ program = program_law text x.program program read_here reads in
    let on_program : Mach program x.input job.turns first came =
    subst (λ (p : List Function). Mach p x.input job.turns first came) program_is x.runs in
    let on_input : Mach program input job.turns first came =
    subst (λ (i : List ℕ). Mach program i job.turns first came) input_is on_program in
    outcome_law program (configuration 0 [] (start program input)) job.turns first second came outcome on_input runs

-- what it wrote is what the program writes, and the status is that of its outcome
ran_whole : OneProgram → OneOutcome → (job : Job) (came : Outcome End) (input out out' notes notes' : Stream) (result : Status) →
    WritesRun job came input out out' →
    Noted (status_of came) result notes notes' → RunsText job out out' result
ran_whole program_law outcome_law job came taken out out' notes notes' result w noted text program input written outcome file reads
    held short runs =
    let same = same_run program_law outcome_law job w.written written came outcome w.executes text program input file reads held
    runs in
    elim (same_or_failure (status_of came) result notes notes' noted) [
      | inl e ↦ inl (e ∙ ap status_of same.1, subst (λ (b : List ℕ). Appends out.bytes out'.bytes b) same.0 w.appended)
      | inr f ↦ inr f
    ]

pub runs_text : OneProgram → OneOutcome → (name : List ℕ) (turns : ℕ) (files files' : Files)
    (input input' out out' notes notes' : Stream) (same_input same_output : Type 0) (came result : Status) →
    Noted came result notes notes' → RunComesTo name turns files files' input input' out out' same_input same_output came →
    RunsText (job (files.file name) input.bytes turns) out out' result
runs_text one same name turns files files' input input' out out' notes notes' same_input same_output status.Done result noted h =
    ran_whole one same (job (files.file name) input.bytes turns) (Finished (Comes Ended)) input' out out' notes notes' result h.1
    noted
runs_text one same name turns files files' input input' out out' notes notes' same_input same_output (status.Fault kind line) result
    noted h =
    ran_whole one same (job (files.file name) input.bytes turns) (Finished (Comes (Faulted kind line.0))) input' out out' notes
    notes' result h.1 noted
runs_text one same name turns files files' input input' out out' notes notes' same_input same_output (status.Stuck why) result noted
    h =
    ran_whole one same (job (files.file name) input.bytes turns) (Finished (Stuck why)) input' out out' notes notes' result h.1
    noted
runs_text one same name turns files files' input input' out out' notes notes' same_input same_output status.TurnLimit result noted
    h =
    ran_whole one same (job (files.file name) input.bytes turns) Going input' out out' notes notes' result h.1 noted
runs_text one same name turns files files' input input' out out' notes notes' same_input same_output (status.TextRefused line)
    result noted h =
    λ text program bytes written outcome file reads held short runs.
    absurd (h.1.holds.refused.no_text program
    (subst (λ (t : List ℕ). ReadsText t program) (sym (one_told (files.file name) h.1.bytes text h.1.is file)) reads))
runs_text one same name turns files files' input input' out out' notes notes' same_input same_output status.InputTooLong result
    noted h =
    λ text program bytes written outcome file reads held short runs.
    let is : h.2.input ≡ bytes = one_told input.bytes h.2.input bytes h.2.held held in
    absurd (omega (arith, ap length is, h.2.long, short))
runs_text one same name turns files files' input input' out out' notes notes' same_input same_output status.ReadFault result noted
    h =
    λ text program bytes written outcome file reads held short runs. inr
    (failure_stays status.ReadFault result notes notes' noted (inl refl))
runs_text one same name turns files files' input input' out out' notes notes' same_input same_output status.WriteFault result noted
    h =
    λ text program bytes written outcome file reads held short runs. inr
    (failure_stays status.WriteFault result notes notes' noted (inr (inl refl)))
runs_text one same name turns files files' input input' out out' notes notes' same_input same_output status.Memory result noted h =
    λ text program bytes written outcome file reads held short runs. inr
    (failure_stays status.Memory result notes notes' noted (inr (inr refl)))
runs_text one same name turns files files' input input' out out' notes notes' same_input same_output other result noted h = absurd h
