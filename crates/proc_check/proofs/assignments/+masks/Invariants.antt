use Rattle.std.proofs.Common.{◌≡◌, drop}
use Rattle.proc_calls.specs.View.{masked_body_of, others_of}
use Rattle.proc_check.specs.Walk.{through_masked, through_others}
use Rattle.proc_check.proofs.assignments.+masks.Given as goal

abbrev pub invariant-in_masked_body-loop-m : goal.invariant-in_masked_body-loop-m
invariant-in_masked_body-loop-m l =
    through_masked l.c l.dos l.found (masked_body_of (drop l.m-index l.body))
    ≡ through_masked l.c l.dos l.fn.found (masked_body_of l.body)

abbrev pub invariant-in_others-loop-o : goal.invariant-in_others-loop-o
invariant-in_others-loop-o l =
    through_others l.c l.dos l.found (others_of (drop l.o-index l.others))
    ≡ through_others l.c l.dos l.fn.found (others_of l.others)
