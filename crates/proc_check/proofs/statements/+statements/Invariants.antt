use Rattle.std.proofs.Common.{◌≡◌, drop}
use Rattle.proc_calls.specs.View.{stmts_of, branches_of, cases_of}
use Rattle.proc_check.specs.Walk.{through_stmts, through_branches, through_cases}
use Rattle.proc_check.proofs.statements.+statements.Given as goal

abbrev pub invariant-in_stmts-loop-s : goal.invariant-in_stmts-loop-s
invariant-in_stmts-loop-s l =
    through_stmts l.c l.dos l.found (stmts_of (drop l.s-index l.body)) ≡ through_stmts l.c l.dos l.fn.found (stmts_of l.body)

abbrev pub invariant-in_branches-loop-b : goal.invariant-in_branches-loop-b
invariant-in_branches-loop-b l =
    through_branches l.c l.dos l.found (branches_of (drop l.b-index l.branches))
    ≡ through_branches l.c l.dos l.fn.found (branches_of l.branches)

abbrev pub invariant-in_cases-loop-k : goal.invariant-in_cases-loop-k
invariant-in_cases-loop-k l =
    through_cases l.c l.dos l.found (cases_of (drop l.k-index l.cases)) ≡ through_cases l.c l.dos l.fn.found (cases_of l.cases)
