-- Each row holds by computation.
use Rattle.std.proofs.Common.{refl}
use Rattle.a95_base.specs.Integer.{wrapped}
use Rattle.shape_check_rows.specs.Values.{GoodValues, OtherValues, OtherCounts, NoRounds, InitialValues, ReadItems}
use Rattle.shape_check_rows.specs.Values.{ElementalFunction, WrongCalls}

pub good_values_row : GoodValues
unfolding wrapped
good_values_row = refl

pub other_values_row : OtherValues
unfolding wrapped
other_values_row = refl

pub other_counts_row : OtherCounts
unfolding wrapped
other_counts_row = refl

pub no_rounds_row : NoRounds
unfolding wrapped
no_rounds_row = refl

pub initial_values_row : InitialValues
unfolding wrapped
initial_values_row = refl

pub read_items_row : ReadItems
unfolding wrapped
read_items_row = refl

pub elemental_function_row : ElementalFunction
unfolding wrapped
elemental_function_row = refl

pub wrong_calls_row : WrongCalls
unfolding wrapped
wrong_calls_row = refl
