-- Choices, loops, turns, allocation, and operators of LOGICAL and CHARACTER. Each row holds by computation.
use Rattle.std.proofs.Common.{refl}
use Rattle.array_meaning.proofs.Running.{running}
use Rattle.array_meaning_rows.specs.ControlOne.{if_chain, do_counts, exit_and_cycle, while_and_endless, select_cases, stop_ends}
use Rattle.array_meaning_rows.specs.ControlOne.{turns_suffice, while_may_end_without_turn, endless_loop_goes_on, IfChain, DoCounts}
use Rattle.array_meaning_rows.specs.ControlOne.{ExitAndCycle, WhileAndEndless, SelectCases, StopEnds, TurnsSuffice}
use Rattle.array_meaning_rows.specs.ControlOne.{WhileMayEndWithoutTurn, EndlessLoopGoesOn}

pub if_chain_row : IfChain
unfolding running if_chain
if_chain_row = record { is = refl }

pub do_counts_row : DoCounts
unfolding running do_counts
do_counts_row = record { is = refl }

pub exit_and_cycle_row : ExitAndCycle
unfolding running exit_and_cycle
exit_and_cycle_row = record { is = refl }

pub while_and_endless_row : WhileAndEndless
unfolding running while_and_endless
while_and_endless_row = record { is = refl }

pub select_cases_row : SelectCases
unfolding running select_cases
select_cases_row = record { is = refl }

pub stop_ends_row : StopEnds
unfolding running stop_ends
stop_ends_row = record { is = refl }

pub turns_suffice_row : TurnsSuffice
unfolding running turns_suffice
turns_suffice_row = record { is = refl }

pub while_may_end_without_turn_row : WhileMayEndWithoutTurn
unfolding running while_may_end_without_turn
while_may_end_without_turn_row = record { is = refl }

pub endless_loop_goes_on_row : EndlessLoopGoesOn
unfolding running endless_loop_goes_on
endless_loop_goes_on_row = record { is = refl }
