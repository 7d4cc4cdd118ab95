-- Choices, loops, turns, allocation, and operators of LOGICAL and CHARACTER. Each row holds by computation.
use Rattle.std.proofs.Common.{refl}
use Rattle.array_meaning.proofs.Running.{running}
use Rattle.array_meaning_rows.specs.ControlTwo.{allocate_and_free, logical_operators, texts_compared}
use Rattle.array_meaning_rows.specs.ControlTwo.{variable_wraps_behind_last_turn, both_operands_evaluated, allocated_too_large_first}
use Rattle.array_meaning_rows.specs.ControlTwo.{initial_value_of_allocatable, turns_of_a_constructor, case_of_negative_numbers}
use Rattle.array_meaning_rows.specs.ControlTwo.{AllocateAndFree, LogicalOperators, TextsCompared, VariableWrapsBehindLastTurn}
use Rattle.array_meaning_rows.specs.ControlTwo.{BothOperandsEvaluated, AllocatedTooLargeFirst, InitialValueOfAllocatable}
use Rattle.array_meaning_rows.specs.ControlTwo.{TurnsOfAConstructor, CaseOfNegativeNumbers}

pub allocate_and_free_row : AllocateAndFree
unfolding running allocate_and_free
allocate_and_free_row = record { is = refl }

pub logical_operators_row : LogicalOperators
unfolding running logical_operators
logical_operators_row = record { is = refl }

pub texts_compared_row : TextsCompared
unfolding running texts_compared
texts_compared_row = record { is = refl }

pub variable_wraps_behind_last_turn_row : VariableWrapsBehindLastTurn
unfolding running variable_wraps_behind_last_turn
variable_wraps_behind_last_turn_row = record { is = refl }

pub both_operands_evaluated_row : BothOperandsEvaluated
unfolding running both_operands_evaluated
both_operands_evaluated_row = record { is = refl }

pub allocated_too_large_first_row : AllocatedTooLargeFirst
unfolding running allocated_too_large_first
allocated_too_large_first_row = record { is = refl }

pub initial_value_of_allocatable_row : InitialValueOfAllocatable
unfolding running initial_value_of_allocatable
initial_value_of_allocatable_row = record { is = refl }

pub turns_of_a_constructor_row : TurnsOfAConstructor
unfolding running turns_of_a_constructor
turns_of_a_constructor_row = record { is = refl }

pub case_of_negative_numbers_row : CaseOfNegativeNumbers
unfolding running case_of_negative_numbers
case_of_negative_numbers_row = record { is = refl }
