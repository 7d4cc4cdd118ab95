use Rattle.std.proofs.Common.{◌≡◌, drop, fold, map}
use Rattle.f95_unit.specs.View.{span_of}
use Rattle.proc_check.specs.Walk.{telling, through_span}
use Rattle.proc_check.proofs.expressions.in_spans.Given as goal

abbrev pub invariant-loop-s : goal.invariant-loop-s
invariant-loop-s l =
    fold (through_span (telling l.c l.line l.dos)) l.found (map span_of (drop l.s-index l.spans))
    ≡ fold (through_span (telling l.c l.line l.dos)) l.fn.found (map span_of l.spans)
