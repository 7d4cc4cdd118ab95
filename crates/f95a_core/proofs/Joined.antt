-- What is built and then run, from the laws of texts and of programs that follow.
use Rattle.std.proofs.Common.{◌≡◌, ℕ, List, length, sym, subst, Some}
use Rattle.a95_base.specs.Outcome.{Outcome}
use Rattle.loop_tree.specs.declared.tree.Function.{Function}
use Rattle.loop_tree.specs.Program.{ReadsText}
use Rattle.loop_tree.specs.State.{End}
use Rattle.loop_tree.specs.Run.{Mach}
use Rattle.loop_laws.specs.Follows.{WithMoreTurns}
use Rattle.loop_text.specs.Refused.{OneProgram}
use Rattle.f95a_core.specs.Building.{Builds}
use Rattle.f95a_core.specs.Running.{job, Executes}
use Rattle.f95a_core.specs.Source.{source_run, turn_bound}
use Rattle.f95a_core.specs.Headline.{DoesAsItsSource, Headline}

does : OneProgram → WithMoreTurns → (source text : List ℕ) → Builds source text →
    (input : List ℕ) (turns : ℕ) (written : List ℕ) (outcome : Outcome End) →
    Executes (job (Some text) (Some input) turns) written outcome → DoesAsItsSource source input turns written outcome
does program more source text builds input turns written outcome executes =
    let reads : ReadsText text executes.program = subst (λ (t : List ℕ). ReadsText t executes.program) (sym executes.file)
    executes.reads in
    let same : executes.program ≡ builds.program = program text executes.program builds.program reads builds.reads in
    let on_input : Mach executes.program input turns written outcome =
    subst (λ (i : List ℕ). Mach executes.program i turns written outcome) (sym executes.held) executes.runs in
    let runs : Mach builds.program input turns written outcome =
    subst (λ (p : List Function). Mach p input turns written outcome) same on_input in
    record {
      unit = builds.compiles.unit;
      reads = builds.compiles.reads;
      backward = builds.compiles.follows.backward input turns written outcome runs;
      never_stuck = λ why e. builds.compiles.follows.never_stuck input turns written why
          (subst (λ (o : Outcome End). Mach builds.program input turns written o) e runs);
      forward = λ n within. more (source_run builds.compiles.unit) (turn_bound (length source)) builds.program
          builds.compiles.follows input n turns within written outcome runs;
    }

pub joined : OneProgram → WithMoreTurns → Headline
joined program more source text builds = record {
  never_refused = λ line refused. refused.refused.no_text builds.program builds.reads;
  does = does program more source text builds;
}
