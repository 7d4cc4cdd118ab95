use Rattle.std.proofs.Common.{◌≡◌, drop, fold, map}
use Rattle.f95_unit.specs.View.{expr_of}
use Rattle.proc_check.specs.Walk.{telling, through_expr}
use Rattle.proc_check.proofs.expressions.in_exprs.Given as goal

abbrev pub invariant-loop-e : goal.invariant-loop-e
invariant-loop-e l =
    fold (through_expr (telling l.c l.line l.dos)) l.found (map expr_of (drop l.e-index l.es))
    ≡ fold (through_expr (telling l.c l.line l.dos)) l.fn.found (map expr_of l.es)
