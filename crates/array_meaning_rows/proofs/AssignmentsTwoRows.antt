-- Assignments of whole arrays, sections, texts and scalars, and initial values. Each row holds by computation.
use Rattle.std.proofs.Common.{refl}
use Rattle.array_meaning.proofs.Running.{running}
use Rattle.array_meaning_rows.specs.AssignmentsTwo.{substring_stored, integers_wrap, initial_values, seven_dimensions}
use Rattle.array_meaning_rows.specs.AssignmentsTwo.{seven_dimensions_empty, bounds_left_out_are_declared, two_dimensions}
use Rattle.array_meaning_rows.specs.AssignmentsTwo.{text_arrays_compared, trial_of_none, SubstringStored, IntegersWrap}
use Rattle.array_meaning_rows.specs.AssignmentsTwo.{InitialValues, SevenDimensions, SevenDimensionsEmpty, BoundsLeftOutAreDeclared}
use Rattle.array_meaning_rows.specs.AssignmentsTwo.{TwoDimensions, TextArraysCompared, TrialOfNone}

pub substring_stored_row : SubstringStored
unfolding running substring_stored
substring_stored_row = record { is = refl }

pub integers_wrap_row : IntegersWrap
unfolding running integers_wrap
integers_wrap_row = record { is = refl }

pub initial_values_row : InitialValues
unfolding running initial_values
initial_values_row = record { is = refl }

pub seven_dimensions_row : SevenDimensions
unfolding running seven_dimensions
seven_dimensions_row = record { is = refl }

pub seven_dimensions_empty_row : SevenDimensionsEmpty
unfolding running seven_dimensions_empty
seven_dimensions_empty_row = record { is = refl }

pub bounds_left_out_are_declared_row : BoundsLeftOutAreDeclared
unfolding running bounds_left_out_are_declared
bounds_left_out_are_declared_row = record { is = refl }

pub two_dimensions_row : TwoDimensions
unfolding running two_dimensions
two_dimensions_row = record { is = refl }

pub text_arrays_compared_row : TextArraysCompared
unfolding running text_arrays_compared
text_arrays_compared_row = record { is = refl }

pub trial_of_none_row : TrialOfNone
unfolding running trial_of_none
trial_of_none_row = record { is = refl }
