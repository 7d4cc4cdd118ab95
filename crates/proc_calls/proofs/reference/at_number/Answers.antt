use Rattle.std.proofs.Common.{◌≡◌, ◌∙◌, sym, ap, subst, IfOk}
use Rattle.std.specs.Option.{option_copied}
use Rattle.f95_unit.specs.Plain.{call}
use Rattle.proc_calls.specs.View.{arguments_of}
use Rattle.proc_calls.specs.Acts.{reference_to}
use Rattle.proc_calls.specs.Found.{Found}
use Rattle.proc_calls.proofs.Telling.{told_none, told_some}
use Rattle.proc_calls.proofs.reference.at_number.Goals as goal

pub returns-in-None : goal.returns-in-None
returns-in-None c =
    let r = reference_to c.args.line c.args.dos.now c.args.as_function (call c.args.number (arguments_of c.args.es.now)) in
    c.of_no_procedure.ensures
    ∙ sym (told_none c.args.c.now c.args.found r (sym c.get.ensures.value ∙ ap option_copied c.in-None.is))

pub returns-in-Some : goal.returns-in-Some
returns-in-Some c =
    let r = reference_to c.args.line c.args.dos.now c.args.as_function (call c.args.number (arguments_of c.args.es.now)) in
    subst (λ (told : Found). IfOk c.of_procedure.result (λ found. found ≡ told))
    (sym (told_some c.args.c.now c.args.found r c.in-Some.i.now (sym c.get.ensures.value ∙ ap option_copied c.in-Some.is)))
    c.of_procedure.ensures
