-- Each row holds by computation.
use Rattle.std.proofs.Common.{refl}
use Rattle.nest_tree.proofs.Running.{running}
use Rattle.nest_tree.specs.ControlRows.{steps_of_four, turns_run_out, outer_loop_left, outer_turn_ended, branches}
use Rattle.nest_tree.specs.ControlRows.{two_integers_read, input_at_its_end, input_without_integer, record_dropped_by_a_fault}
use Rattle.nest_tree.specs.ControlRows.{StepsOfFour, TurnsRunOut, OuterLoopLeft, OuterTurnEnded, Branches, TwoIntegersRead}
use Rattle.nest_tree.specs.ControlRows.{InputAtItsEnd, InputWithoutInteger, RecordDroppedByAFault}

pub steps_of_four_row : StepsOfFour
unfolding running steps_of_four
steps_of_four_row = record { runs = refl; counts = refl }

pub turns_run_out_row : TurnsRunOut
unfolding running turns_run_out
turns_run_out_row = record { runs = refl; counts = refl }

pub outer_loop_left_row : OuterLoopLeft
unfolding running outer_loop_left
outer_loop_left_row = record { runs = refl; counts = refl }

pub outer_turn_ended_row : OuterTurnEnded
unfolding running outer_turn_ended
outer_turn_ended_row = record { runs = refl; counts = refl }

pub branches_row : Branches
unfolding running branches
branches_row = record { runs = refl; counts = refl }

pub two_integers_read_row : TwoIntegersRead
unfolding running two_integers_read
two_integers_read_row = record { runs = refl; counts = refl }

pub input_at_its_end_row : InputAtItsEnd
unfolding running input_at_its_end
input_at_its_end_row = record { runs = refl; counts = refl }

pub input_without_integer_row : InputWithoutInteger
unfolding running input_without_integer
input_without_integer_row = record { runs = refl; counts = refl }

pub record_dropped_by_a_fault_row : RecordDroppedByAFault
unfolding running record_dropped_by_a_fault
record_dropped_by_a_fault_row = record { runs = refl; counts = refl }
