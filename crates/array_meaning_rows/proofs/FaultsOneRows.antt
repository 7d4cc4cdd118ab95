-- Faults, and what comes before what. Each row holds by computation.
use Rattle.std.proofs.Common.{refl}
use Rattle.array_meaning.proofs.Running.{running}
use Rattle.array_meaning_rows.specs.FaultsOne.{zero_divisor, zero_remainder, zero_to_negative_power, subscript_out_of_bounds}
use Rattle.array_meaning_rows.specs.FaultsOne.{substring_out_of_bounds, shapes_differ, stride_of_zero, do_step_of_zero}
use Rattle.array_meaning_rows.specs.FaultsOne.{place_stored_twice, ZeroDivisor, ZeroRemainder, ZeroToNegativePower}
use Rattle.array_meaning_rows.specs.FaultsOne.{SubscriptOutOfBounds, SubstringOutOfBounds, ShapesDiffer, StrideOfZero, DoStepOfZero}
use Rattle.array_meaning_rows.specs.FaultsOne.{PlaceStoredTwice}

pub zero_divisor_row : ZeroDivisor
unfolding running zero_divisor
zero_divisor_row = record { is = refl }

pub zero_remainder_row : ZeroRemainder
unfolding running zero_remainder
zero_remainder_row = record { is = refl }

pub zero_to_negative_power_row : ZeroToNegativePower
unfolding running zero_to_negative_power
zero_to_negative_power_row = record { is = refl }

pub subscript_out_of_bounds_row : SubscriptOutOfBounds
unfolding running subscript_out_of_bounds
subscript_out_of_bounds_row = record { is = refl }

pub substring_out_of_bounds_row : SubstringOutOfBounds
unfolding running substring_out_of_bounds
substring_out_of_bounds_row = record { is = refl }

pub shapes_differ_row : ShapesDiffer
unfolding running shapes_differ
shapes_differ_row = record { is = refl }

pub stride_of_zero_row : StrideOfZero
unfolding running stride_of_zero
stride_of_zero_row = record { is = refl }

pub do_step_of_zero_row : DoStepOfZero
unfolding running do_step_of_zero
do_step_of_zero_row = record { is = refl }

pub place_stored_twice_row : PlaceStoredTwice
unfolding running place_stored_twice
place_stored_twice_row = record { is = refl }
