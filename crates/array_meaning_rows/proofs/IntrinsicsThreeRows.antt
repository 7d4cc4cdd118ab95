-- Intrinsic functions and constructors. Each row holds by computation.
use Rattle.std.proofs.Common.{refl}
use Rattle.array_meaning.proofs.Running.{running}
use Rattle.array_meaning_rows.specs.IntrinsicsThree.{shape_is_negative, logical_arrays, empty_matrices, ShapeIsNegative}
use Rattle.array_meaning_rows.specs.IntrinsicsThree.{LogicalArrays, EmptyMatrices}

pub shape_is_negative_row : ShapeIsNegative
unfolding running shape_is_negative
shape_is_negative_row = record { is = refl }

pub logical_arrays_row : LogicalArrays
unfolding running logical_arrays
logical_arrays_row = record { is = refl }

pub empty_matrices_row : EmptyMatrices
unfolding running empty_matrices
empty_matrices_row = record { is = refl }
