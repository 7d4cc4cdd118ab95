-- Subroutines and functions. Each row holds by computation.
use Rattle.std.proofs.Common.{refl}
use Rattle.array_meaning.proofs.Running.{running}
use Rattle.array_meaning_rows.specs.CallsOne.{two_sections_apart, two_sections_overlap, elemental_reference}
use Rattle.array_meaning_rows.specs.CallsOne.{elemental_reference_faults, explicit_shape_dummy, explicit_shape_differs, factorial}
use Rattle.array_meaning_rows.specs.CallsOne.{array_function_and_texts, lower_bounds_and_out, TwoSectionsApart, TwoSectionsOverlap}
use Rattle.array_meaning_rows.specs.CallsOne.{ElementalReference, ElementalReferenceFaults, ExplicitShapeDummy}
use Rattle.array_meaning_rows.specs.CallsOne.{ExplicitShapeDiffers, Factorial, ArrayFunctionAndTexts, LowerBoundsAndOut}

pub two_sections_apart_row : TwoSectionsApart
unfolding running two_sections_apart
two_sections_apart_row = record { is = refl }

pub two_sections_overlap_row : TwoSectionsOverlap
unfolding running two_sections_overlap
two_sections_overlap_row = record { is = refl }

pub elemental_reference_row : ElementalReference
unfolding running elemental_reference
elemental_reference_row = record { is = refl }

pub elemental_reference_faults_row : ElementalReferenceFaults
unfolding running elemental_reference_faults
elemental_reference_faults_row = record { is = refl }

pub explicit_shape_dummy_row : ExplicitShapeDummy
unfolding running explicit_shape_dummy
explicit_shape_dummy_row = record { is = refl }

pub explicit_shape_differs_row : ExplicitShapeDiffers
unfolding running explicit_shape_differs
explicit_shape_differs_row = record { is = refl }

pub factorial_row : Factorial
unfolding running factorial
factorial_row = record { is = refl }

pub array_function_and_texts_row : ArrayFunctionAndTexts
unfolding running array_function_and_texts
array_function_and_texts_row = record { is = refl }

pub lower_bounds_and_out_row : LowerBoundsAndOut
unfolding running lower_bounds_and_out
lower_bounds_and_out_row = record { is = refl }
