use Rattle.std.proofs.Common.{◌≡◌, sym, subst}
use Rattle.f95_reader.specs.Reading.{Refuses}
use Rattle.f95_reader.proofs.LeastLaws.{refused_in_form, refused_in_nesting}
use Rattle.f95_reader.proofs.read.read_source.Goals as goal

pub returns-in-Err-forms_of-clause-refused : goal.returns-in-Err-forms_of-clause-refused
returns-in-Err-forms_of-clause-refused c = subst (Refuses c.args.bytes.now) (sym c.in_phase-in-Err-forms_of.ensures)
    (refused_in_form c.one_form.ensures c.one_cut.ensures c.cuts_unbroken.ensures.only c.args.bytes.now
    c.in-Ok.statements.list.items c.in-Ok.statements.feeds c.in-Err-forms_of.error c.in-Ok.ensures.cut
    c.in-Err-forms_of.ensures.refused)

pub returns-in-Err-nest-clause-refused : goal.returns-in-Err-nest-clause-refused
returns-in-Err-nest-clause-refused c = subst (Refuses c.args.bytes.now) (sym c.in_phase-in-Err-nest.ensures)
    (refused_in_nesting c.one_form.ensures c.one_cut.ensures c.cuts_unbroken.ensures.only c.args.bytes.now
    c.in-Ok.statements.list.items c.in-Ok.statements.feeds c.in-Ok-forms_of.forms.items c.in-Err-nest.error c.in-Ok.ensures.cut
    c.in-Ok-forms_of.ensures.formed
    c.in-Err-nest.ensures.refused)
