use Rattle.std.proofs.Common.{◌≡◌, drop}
use Rattle.proc_calls.specs.View.{subscripts_of, items_of, arguments_of}
use Rattle.proc_check.specs.Walk.{telling, through_subscripts, through_items, through_arguments}
use Rattle.proc_check.proofs.expressions.+expressions.Given as goal

abbrev pub invariant-in_subscripts-loop-s : goal.invariant-in_subscripts-loop-s
invariant-in_subscripts-loop-s l =
    through_subscripts (telling l.c l.line l.dos) l.found (subscripts_of (drop l.s-index l.subscripts))
    ≡ through_subscripts (telling l.c l.line l.dos) l.fn.found (subscripts_of l.subscripts)

abbrev pub invariant-in_items-loop-item : goal.invariant-in_items-loop-item
invariant-in_items-loop-item l =
    through_items (telling l.c l.line l.dos) l.found (items_of (drop l.item-index l.items))
    ≡ through_items (telling l.c l.line l.dos) l.fn.found (items_of l.items)

abbrev pub invariant-in_arguments-loop-a : goal.invariant-in_arguments-loop-a
invariant-in_arguments-loop-a l =
    through_arguments (telling l.c l.line l.dos) l.found (arguments_of (drop l.a-index l.es))
    ≡ through_arguments (telling l.c l.line l.dos) l.fn.found (arguments_of l.es)
