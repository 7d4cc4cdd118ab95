use Rattle.std.proofs.Common.{◌≡◌, ◌&&◌, drop}
use Rattle.proc_calls.specs.View.{stmts_of, branches_of, cases_of}
use Rattle.control_lower.specs.Lowers.{lowers_stmts, lowers_branches, lowers_cases}
use Rattle.control_nests.proofs.lowers.+statements.Given as goal

abbrev pub invariant-lowers_stmts-loop-s : goal.invariant-lowers_stmts-loop-s
invariant-lowers_stmts-loop-s l = (l.all && lowers_stmts (stmts_of (drop l.s-index l.body))) ≡ lowers_stmts (stmts_of l.body)

abbrev pub invariant-lowers_branches-loop-b : goal.invariant-lowers_branches-loop-b
invariant-lowers_branches-loop-b l =
    (l.all && lowers_branches (branches_of (drop l.b-index l.branches))) ≡ lowers_branches (branches_of l.branches)

abbrev pub invariant-lowers_cases-loop-c : goal.invariant-lowers_cases-loop-c
invariant-lowers_cases-loop-c l = (l.all && lowers_cases (cases_of (drop l.c-index l.cases))) ≡ lowers_cases (cases_of l.cases)
