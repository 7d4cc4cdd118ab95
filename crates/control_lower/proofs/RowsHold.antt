-- Each row holds by computation.
use Rattle.std.proofs.Common.{refl, arith}
use Rattle.nest_tree.proofs.Running.{running}
use Rattle.control_lower.specs.Units.{items, makes, initials}
use Rattle.control_lower.specs.Settled.{settled_initials}
use Rattle.control_lower.specs.Rows.{array_declared, case_of_a_truth, count_is_fixed, first_case_that_fits, functions_and_a_fault}
use Rattle.control_lower.specs.Rows.{initial_value_wraps, later_conditions_unasked, no_loop_left, one_branch_of_three}
use Rattle.control_lower.specs.Rows.{outer_loop_left, step_of_zero, text_padded, truth_stored, while_and_stop}
use Rattle.control_lower.specs.Rows.{InitialValueWraps, TextPadded, FunctionsAndAFault, OneBranchOfThree, LaterConditionsUnasked}
use Rattle.control_lower.specs.Rows.{FirstCaseThatFits, CaseOfATruth, CountIsFixed, CountIsFixedWaits, StepOfZero, OuterLoopLeft}
use Rattle.control_lower.specs.Rows.{WhileAndStop, WhileAndStopWaits, ArrayNotLowered, TruthNotSettled, NoLoopLeft}

pub initial_value_wraps_row : InitialValueWraps
unfolding running items makes initials settled_initials initial_value_wraps
initial_value_wraps_row = record {
  settled = refl;
  lowers = refl;
  small = record { few_blocks = omega arith; few_nodes = omega arith };
  runs = refl;
}

pub text_padded_row : TextPadded
unfolding running items makes initials settled_initials text_padded
text_padded_row = record {
  settled = refl;
  lowers = refl;
  small = record { few_blocks = omega arith; few_nodes = omega arith };
  runs = refl;
}

pub functions_and_a_fault_row : FunctionsAndAFault
unfolding running items makes initials settled_initials functions_and_a_fault
functions_and_a_fault_row = record {
  settled = refl;
  lowers = refl;
  small = record { few_blocks = omega arith; few_nodes = omega arith };
  runs = refl;
}

pub one_branch_of_three_row : OneBranchOfThree
unfolding running items makes initials settled_initials one_branch_of_three
one_branch_of_three_row = record {
  settled = refl;
  lowers = refl;
  small = record { few_blocks = omega arith; few_nodes = omega arith };
  runs = refl;
}

pub later_conditions_unasked_row : LaterConditionsUnasked
unfolding running items makes initials settled_initials later_conditions_unasked
later_conditions_unasked_row = record {
  settled = refl;
  lowers = refl;
  small = record { few_blocks = omega arith; few_nodes = omega arith };
  runs = refl;
}

pub first_case_that_fits_row : FirstCaseThatFits
unfolding running items makes initials settled_initials first_case_that_fits
first_case_that_fits_row = record {
  settled = refl;
  lowers = refl;
  small = record { few_blocks = omega arith; few_nodes = omega arith };
  runs = refl;
}

pub case_of_a_truth_row : CaseOfATruth
unfolding running items makes initials settled_initials case_of_a_truth
case_of_a_truth_row = record {
  settled = refl;
  lowers = refl;
  small = record { few_blocks = omega arith; few_nodes = omega arith };
  runs = refl;
}

pub count_is_fixed_row : CountIsFixed
unfolding running items makes initials settled_initials count_is_fixed
count_is_fixed_row = record {
  settled = refl;
  lowers = refl;
  small = record { few_blocks = omega arith; few_nodes = omega arith };
  runs = refl;
}

pub count_is_fixed_waits_row : CountIsFixedWaits
unfolding running items makes initials settled_initials count_is_fixed
count_is_fixed_waits_row = record {
  settled = refl;
  lowers = refl;
  small = record { few_blocks = omega arith; few_nodes = omega arith };
  runs = refl;
}

pub step_of_zero_row : StepOfZero
unfolding running items makes initials settled_initials step_of_zero
step_of_zero_row = record {
  settled = refl;
  lowers = refl;
  small = record { few_blocks = omega arith; few_nodes = omega arith };
  runs = refl;
}

pub outer_loop_left_row : OuterLoopLeft
unfolding running items makes initials settled_initials outer_loop_left
outer_loop_left_row = record {
  settled = refl;
  lowers = refl;
  small = record { few_blocks = omega arith; few_nodes = omega arith };
  runs = refl;
}

pub while_and_stop_row : WhileAndStop
unfolding running items makes initials settled_initials while_and_stop
while_and_stop_row = record {
  settled = refl;
  lowers = refl;
  small = record { few_blocks = omega arith; few_nodes = omega arith };
  runs = refl;
}

pub while_and_stop_waits_row : WhileAndStopWaits
unfolding running items makes initials settled_initials while_and_stop
while_and_stop_waits_row = record {
  settled = refl;
  lowers = refl;
  small = record { few_blocks = omega arith; few_nodes = omega arith };
  runs = refl;
}

pub array_not_lowered_row : ArrayNotLowered
unfolding settled_initials array_declared
array_not_lowered_row = refl

pub truth_not_settled_row : TruthNotSettled
unfolding settled_initials truth_stored
truth_not_settled_row = refl

pub no_loop_left_row : NoLoopLeft
unfolding settled_initials no_loop_left
no_loop_left_row = refl
