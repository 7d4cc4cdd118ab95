use Rattle.std.proofs.Common.{◌∙◌, ap, sym, subst, Option, Some}
use Rattle.std.specs.Prelude.{option_map}
use Rattle.command_words.specs.Commands.{Command, OnBuild, OnRun}
use Rattle.command_words.specs.declared.words.Command as declared
use Rattle.command_words.specs.Seen.{seen}
use Rattle.f95a_core.specs.Outside.{stream}
use Rattle.f95a_core.specs.Building.{BuildsUnbroken, BuildsNoOther}
use Rattle.f95a_core.specs.Running.{job, RunsText}
use Rattle.f95a_core.proofs.Noting.{builds_unbroken, builds_no_other}
use Rattle.f95a_core.proofs.Completed.{runs_text}
use Rattle.f95a_core.proofs.command.f95a.Goals as goal

pub returns-in-Some-BuildFile-clause-builds_unbroken : goal.returns-in-Some-BuildFile-clause-builds_unbroken
returns-in-Some-BuildFile-clause-builds_unbroken g c =
    subst (λ (asked : Option Command). OnBuild asked
    (λ n. BuildsUnbroken (g.H.Shelf.file c.args.shelf.now n) c.noted-in-Some-BuildFile.result))
    (sym (ap (λ (a : declared.Command). Some (seen a)) (rw c.in-Some-BuildFile.is at c.in-Some-BuildFile.field-0-is))
    ∙ sym (ap (option_map seen) c.in-Some-BuildFile.is) ∙ c.in-Ok.ensures)
    (builds_unbroken c.in-Some-BuildFile.name.now _ _ _ _ _ _ _ c.build.result c.noted-in-Some-BuildFile.result
    c.noted-in-Some-BuildFile.ensures.noted c.build.ensures.comes)

pub returns-in-Some-BuildFile-clause-builds_no_other : goal.returns-in-Some-BuildFile-clause-builds_no_other
returns-in-Some-BuildFile-clause-builds_no_other g c =
    subst (λ (asked : Option Command). OnBuild asked
    (λ n. BuildsNoOther (g.H.Shelf.file c.args.shelf.now n) c.noted-in-Some-BuildFile.result))
    (sym (ap (λ (a : declared.Command). Some (seen a)) (rw c.in-Some-BuildFile.is at c.in-Some-BuildFile.field-0-is))
    ∙ sym (ap (option_map seen) c.in-Some-BuildFile.is) ∙ c.in-Ok.ensures)
    (builds_no_other c.breaks_nothing.ensures c.in-Some-BuildFile.name.now _ _ _ _ _ _ _ c.build.result
    c.noted-in-Some-BuildFile.result c.noted-in-Some-BuildFile.ensures.noted c.build.ensures.comes)

pub returns-in-Some-RunFile-clause-runs_text : goal.returns-in-Some-RunFile-clause-runs_text
returns-in-Some-RunFile-clause-runs_text g c =
    let out = stream (g.K.Sink.written c.args.out.now) (g.K.Sink.faults c.args.out.now) in
    let written = stream (g.K.Sink.written c.run.new.out) (g.K.Sink.faults c.run.new.out) in
    subst (λ (asked : Option Command). OnRun asked
    (λ n turns. RunsText (job (g.H.Shelf.file c.args.shelf.now n) (g.S.Source.left c.args.input.now) turns) out written
    c.noted-in-Some-RunFile.result))
    (sym (ap (λ (a : declared.Command). Some (seen a)) (rw c.in-Some-RunFile.is at c.in-Some-RunFile.field-0-is))
    ∙ sym (ap (option_map seen) c.in-Some-RunFile.is) ∙ c.in-Ok.ensures)
    (runs_text c.one_program.ensures c.one_outcome.ensures c.in-Some-RunFile.name.now c.in-Some-RunFile.turns _ _ _ _ _ _ _ _ _ _
    c.run.result c.noted-in-Some-RunFile.result
    c.noted-in-Some-RunFile.ensures.noted c.run.ensures.comes)
