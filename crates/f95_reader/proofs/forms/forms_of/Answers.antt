use Rattle.std.proofs.Common.{◌≡◌, Some}
use Rattle.a95_base.specs.declared.breaks.Break.{Break}
use Rattle.a95_base.specs.Breaks.{broken_at, first_of}
use Rattle.f95_reader.proofs.Judgements.{least_judged}
use Rattle.f95_reader.proofs.forms.forms_of.Goals as goal

pub returns-in-Some-clause-refused : goal.returns-in-Some-clause-refused
returns-in-Some-clause-refused c =
    let first : first_of c.in_ok-forms.field-0.breaks.items ≡ Some c.in-Some.first =
    cc (c.in_ok-forms.breaks-is, c.as_slice.ensures.value, c.first_of.ensures, c.in-Some.is) in
    least_judged c.args.statements.items c.in_ok-forms.field-0.forms.items c.in_ok-forms.field-0.breaks.items
    c.in-Some.first.line c.in-Some.first.rule c.in_ok-forms.ensures first
