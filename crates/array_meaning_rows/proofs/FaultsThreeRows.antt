-- Faults, and what comes before what. Each row holds by computation.
use Rattle.std.proofs.Common.{refl}
use Rattle.array_meaning.proofs.Running.{running}
use Rattle.array_meaning_rows.specs.FaultsThree.{matrices_differ, right_side_first, scalar_function_is_a_part}
use Rattle.array_meaning_rows.specs.FaultsThree.{masked_division_is_none, arguments_one_after_the_other}
use Rattle.array_meaning_rows.specs.FaultsThree.{nothing_printed_before_fault, subscripts_before_stride, substring_before_stride}
use Rattle.array_meaning_rows.specs.FaultsThree.{stride_before_bounds, MatricesDiffer, RightSideFirst, ScalarFunctionIsAPart}
use Rattle.array_meaning_rows.specs.FaultsThree.{MaskedDivisionIsNone, ArgumentsOneAfterTheOther, NothingPrintedBeforeFault}
use Rattle.array_meaning_rows.specs.FaultsThree.{SubscriptsBeforeStride, SubstringBeforeStride, StrideBeforeBounds}

pub matrices_differ_row : MatricesDiffer
unfolding running matrices_differ
matrices_differ_row = record { is = refl }

pub right_side_first_row : RightSideFirst
unfolding running right_side_first
right_side_first_row = record { is = refl }

pub scalar_function_is_a_part_row : ScalarFunctionIsAPart
unfolding running scalar_function_is_a_part
scalar_function_is_a_part_row = record { is = refl }

pub masked_division_is_none_row : MaskedDivisionIsNone
unfolding running masked_division_is_none
masked_division_is_none_row = record { is = refl }

pub arguments_one_after_the_other_row : ArgumentsOneAfterTheOther
unfolding running arguments_one_after_the_other
arguments_one_after_the_other_row = record { is = refl }

pub nothing_printed_before_fault_row : NothingPrintedBeforeFault
unfolding running nothing_printed_before_fault
nothing_printed_before_fault_row = record { is = refl }

pub subscripts_before_stride_row : SubscriptsBeforeStride
unfolding running subscripts_before_stride
subscripts_before_stride_row = record { is = refl }

pub substring_before_stride_row : SubstringBeforeStride
unfolding running substring_before_stride
substring_before_stride_row = record { is = refl }

pub stride_before_bounds_row : StrideBeforeBounds
unfolding running stride_before_bounds
stride_before_bounds_row = record { is = refl }
