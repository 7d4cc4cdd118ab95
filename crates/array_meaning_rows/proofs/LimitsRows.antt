-- Bounds, counts and strides at the limits. Each row holds by computation.
use Rattle.std.proofs.Common.{refl}
use Rattle.array_meaning.proofs.Running.{running}
use Rattle.array_meaning_rows.specs.Limits.{upper_bound_wraps, size_wraps, great_stride, great_step, greatest_bounds}
use Rattle.array_meaning_rows.specs.Limits.{no_row_of_a_thousand, substring_of_no_element, implied_do_step_of_zero, UpperBoundWraps}
use Rattle.array_meaning_rows.specs.Limits.{SizeWraps, GreatStride, GreatStep, GreatestBounds, NoRowOfAThousand}
use Rattle.array_meaning_rows.specs.Limits.{SubstringOfNoElement, ImpliedDoStepOfZero}

pub upper_bound_wraps_row : UpperBoundWraps
unfolding running upper_bound_wraps
upper_bound_wraps_row = record { is = refl }

pub size_wraps_row : SizeWraps
unfolding running size_wraps
size_wraps_row = record { is = refl }

pub great_stride_row : GreatStride
unfolding running great_stride
great_stride_row = record { is = refl }

pub great_step_row : GreatStep
unfolding running great_step
great_step_row = record { is = refl }

pub greatest_bounds_row : GreatestBounds
unfolding running greatest_bounds
greatest_bounds_row = record { is = refl }

pub no_row_of_a_thousand_row : NoRowOfAThousand
unfolding running no_row_of_a_thousand
no_row_of_a_thousand_row = record { is = refl }

pub substring_of_no_element_row : SubstringOfNoElement
unfolding running substring_of_no_element
substring_of_no_element_row = record { is = refl }

pub implied_do_step_of_zero_row : ImpliedDoStepOfZero
unfolding running implied_do_step_of_zero
implied_do_step_of_zero_row = record { is = refl }
