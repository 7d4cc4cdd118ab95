use Rattle.std.proofs.Common.{◌≡◌, ◌≤◌, IfOk, IfErr, sym, subst}
use Rattle.rank_one.specs.Reading.{IsUnit, RefusesNames}
use Rattle.rank_one.specs.Sizes.{terminals_in}
use Rattle.rank_one.specs.Typed.{size_of}
use Rattle.f95_source.specs.Source.{IsRefusedFor}
use Rattle.f95_source.proofs.UnitLaws.{breaks_nothing}
use Rattle.f95_source.proofs.LeastLaws.{refused_by_reader, refused_for_form, refused_for_names}
use Rattle.f95_source.proofs.SizeLaws.{size_within}
use Rattle.f95_source.proofs.reading.read.Goals as goal

pub returns-in-Err-clause-refused : goal.returns-in-Err-clause-refused
returns-in-Err-clause-refused c =
    refused_by_reader c.one_source.ensures c.breaks_nothing.ensures c.args.bytes.now c.in-Err.error c.in-Err.ensures.refused

pub returns-in-Ok-Ok-clause-size : goal.returns-in-Ok-Ok-clause-size
returns-in-Ok-Ok-clause-size c =
    size_within c.terminals_within.ensures c.args.bytes.now c.in-Ok.source c.in-Ok-Ok.unit c.in-Ok.ensures.reads
    (subst (λ r. IfOk r (λ u. size_of u ≤ terminals_in c.in-Ok.source)) c.in-Ok-Ok.field-0-is c.in-Ok-Ok.ensures.size)

pub returns-in-Ok-Ok-clause-whole : goal.returns-in-Ok-Ok-clause-whole
returns-in-Ok-Ok-clause-whole c = λ phase. λ line. λ rule.
    breaks_nothing c.one_source.ensures c.breaks_nothing.ensures c.args.bytes.now c.in-Ok-Ok.unit phase line rule
    (record {
      source = c.in-Ok.source;
      reads = c.in-Ok.ensures.reads;
      is = subst (λ r. IfOk r (IsUnit c.in-Ok.source)) c.in-Ok-Ok.field-0-is c.in-Ok-Ok.ensures.unit;
    })

pub returns-in-Ok-Err-clause-refused : goal.returns-in-Ok-Err-clause-refused
returns-in-Ok-Err-clause-refused c = subst (λ e. IsRefusedFor e c.args.bytes.now) (sym c.in_phase.ensures)
    (refused_for_names c.one_source.ensures c.breaks_nothing.ensures c.args.bytes.now c.in-Ok.source c.in-Ok-Err.error
    c.in-Ok.ensures.reads
    (subst (λ r. IfErr r (RefusesNames c.in-Ok.source)) c.in-Ok-Err.field-0-is c.in-Ok-Err.ensures.names))

pub returns-in-Err-unit_of-clause-refused : goal.returns-in-Err-unit_of-clause-refused
returns-in-Err-unit_of-clause-refused c = subst (λ e. IsRefusedFor e c.args.bytes.now) (sym c.in_phase-in-Err-unit_of.ensures)
    (refused_for_form c.one_source.ensures c.breaks_nothing.ensures c.args.bytes.now c.in-Ok.source c.in-Err-unit_of.error
    c.in-Ok.ensures.reads c.in-Err-unit_of.ensures.form)
