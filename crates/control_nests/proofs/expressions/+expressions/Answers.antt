use Rattle.std.proofs.Common.{arith, sym, ap, ◌∙◌, map}
use Rattle.std.proofs.lemmas.List.{drop_all}
use Rattle.std.proofs.lemmas.Result.{IfOk-weaker}
use Rattle.f95_unit.specs.View.{expr_of, line_of}
use Rattle.proc_calls.specs.View.{arguments_of}
use Rattle.nest_tree.specs.View.{statements_of}
use Rattle.control_nests.specs.View.{operand_of, lowered_of, all_then}
use Rattle.control_nests.proofs.expressions.+expressions.Goals as goal
use Rattle.control_nests.proofs.Joined.{argument_made, arguments_end}

pub with_value-returns-in-Ok : goal.with_value-returns-in-Ok
with_value-returns-in-Ok t c = IfOk-weaker c.with_argument.result _ _
    (λ r h more. argument_made (line_of c.args.line) (statements_of c.args.all.parts) (map operand_of c.args.all.operands)
    c.args.all.scalars
    c.args.place (expr_of c.args.value.now) c.sort_of.result (lowered_of c.in-Ok.l) (statements_of r.parts)
    (map operand_of r.operands) r.scalars
    c.sort_of.ensures c.in-Ok.ensures h more)
    c.with_argument.ensures

pub arguments-returns : goal.arguments-returns
arguments-returns t c =
    sym (arguments_end (line_of c.args.line) (statements_of c.loop-a.all.parts) (map operand_of c.loop-a.all.operands)
    c.loop-a.all.scalars)
    ∙ ap (λ es. all_then (line_of c.args.line) c.loop-a.all (arguments_of es))
    (sym (drop_all c.loop-a.a-index c.args.es.now (omega (arith, c.loop-a-test.false))))
    ∙ c.loop-a.invariant
