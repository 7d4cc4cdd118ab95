-- Intrinsic functions and constructors. Each row holds by computation.
use Rattle.std.proofs.Common.{refl}
use Rattle.array_meaning.proofs.Running.{running}
use Rattle.array_meaning_rows.specs.IntrinsicsTwo.{reshaped, constructors, powers, scalar_elemental_is_a_part, place_by_place}
use Rattle.array_meaning_rows.specs.IntrinsicsTwo.{matrices_one_after_the_other, shape_asks_for_conformance, merge_evaluates_all}
use Rattle.array_meaning_rows.specs.IntrinsicsTwo.{unpack_needs_elements, Reshaped, Constructors, Powers, ScalarElementalIsAPart}
use Rattle.array_meaning_rows.specs.IntrinsicsTwo.{PlaceByPlace, MatricesOneAfterTheOther, ShapeAsksForConformance}
use Rattle.array_meaning_rows.specs.IntrinsicsTwo.{MergeEvaluatesAll, UnpackNeedsElements}

pub reshaped_row : Reshaped
unfolding running reshaped
reshaped_row = record { is = refl }

pub constructors_row : Constructors
unfolding running constructors
constructors_row = record { is = refl }

pub powers_row : Powers
unfolding running powers
powers_row = record { is = refl }

pub scalar_elemental_is_a_part_row : ScalarElementalIsAPart
unfolding running scalar_elemental_is_a_part
scalar_elemental_is_a_part_row = record { is = refl }

pub place_by_place_row : PlaceByPlace
unfolding running place_by_place
place_by_place_row = record { is = refl }

pub matrices_one_after_the_other_row : MatricesOneAfterTheOther
unfolding running matrices_one_after_the_other
matrices_one_after_the_other_row = record { is = refl }

pub shape_asks_for_conformance_row : ShapeAsksForConformance
unfolding running shape_asks_for_conformance
shape_asks_for_conformance_row = record { is = refl }

pub merge_evaluates_all_row : MergeEvaluatesAll
unfolding running merge_evaluates_all
merge_evaluates_all_row = record { is = refl }

pub unpack_needs_elements_row : UnpackNeedsElements
unfolding running unpack_needs_elements
unpack_needs_elements_row = record { is = refl }
