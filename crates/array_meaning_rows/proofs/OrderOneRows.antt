-- What is evaluated and tested before what. Each row holds by computation.
use Rattle.std.proofs.Common.{refl}
use Rattle.array_meaning.proofs.Running.{running}
use Rattle.array_meaning_rows.specs.OrderOne.{left_parts_behind_right, dot_product_place_by_place, pack_one_after_the_other}
use Rattle.array_meaning_rows.specs.OrderOne.{arguments_in_text_order, forall_combination_by_combination}
use Rattle.array_meaning_rows.specs.OrderOne.{forall_elements_before_many_one, call_tested_before_its_turn}
use Rattle.array_meaning_rows.specs.OrderOne.{extent_of_a_declaration_faults, length_before_bounds, LeftPartsBehindRight}
use Rattle.array_meaning_rows.specs.OrderOne.{DotProductPlaceByPlace, PackOneAfterTheOther, ArgumentsInTextOrder}
use Rattle.array_meaning_rows.specs.OrderOne.{ForallCombinationByCombination, ForallElementsBeforeManyOne, CallTestedBeforeItsTurn}
use Rattle.array_meaning_rows.specs.OrderOne.{ExtentOfADeclarationFaults, LengthBeforeBounds}

pub left_parts_behind_right_row : LeftPartsBehindRight
unfolding running left_parts_behind_right
left_parts_behind_right_row = record { is = refl }

pub dot_product_place_by_place_row : DotProductPlaceByPlace
unfolding running dot_product_place_by_place
dot_product_place_by_place_row = record { is = refl }

pub pack_one_after_the_other_row : PackOneAfterTheOther
unfolding running pack_one_after_the_other
pack_one_after_the_other_row = record { is = refl }

pub arguments_in_text_order_row : ArgumentsInTextOrder
unfolding running arguments_in_text_order
arguments_in_text_order_row = record { is = refl }

pub forall_combination_by_combination_row : ForallCombinationByCombination
unfolding running forall_combination_by_combination
forall_combination_by_combination_row = record { is = refl }

pub forall_elements_before_many_one_row : ForallElementsBeforeManyOne
unfolding running forall_elements_before_many_one
forall_elements_before_many_one_row = record { is = refl }

pub call_tested_before_its_turn_row : CallTestedBeforeItsTurn
unfolding running call_tested_before_its_turn
call_tested_before_its_turn_row = record { is = refl }

pub extent_of_a_declaration_faults_row : ExtentOfADeclarationFaults
unfolding running extent_of_a_declaration_faults
extent_of_a_declaration_faults_row = record { is = refl }

pub length_before_bounds_row : LengthBeforeBounds
unfolding running length_before_bounds
length_before_bounds_row = record { is = refl }
