use Rattle.std.proofs.Common.{List, ◌∙◌, ap}
use Rattle.f95_unit.specs.declared.unit.Role.{Role}
use Rattle.f95_unit.specs.Plain.{call}
use Rattle.proc_calls.specs.View.{arguments_of}
use Rattle.proc_calls.specs.Acts.{reference_to}
use Rattle.proc_calls.specs.Rules.{some_actual, is_no_place}
use Rattle.proc_calls.proofs.Telling.{told_in_turn}
use Rattle.proc_calls.proofs.reference.of_procedure.Goals as goal

pub returns : goal.returns
returns c =
    let es = arguments_of c.args.es.now in
    let out = c.has_wrong_out.ensures
    ∙ ap (λ (roles : List Role). some_actual (is_no_place roles c.args.dos.now) c.args.i.now.dummies es) c.as_slice.ensures in
    told_in_turn c.args.c.now c.args.i.now (reference_to c.args.line c.args.dos.now c.args.as_function (call c.args.number es))
    c.args.found c.in_ok-is_mismatch.ensures out c.is_impure_call.ensures c.has_array_actual.ensures c.is_itself.ensures
    c.has_other_length.ensures c.noted-found.ensures c.noted-found-2.ensures c.noted-found-3.ensures c.noted-found-4.ensures
    c.noted-found-5.ensures c.noted.ensures
