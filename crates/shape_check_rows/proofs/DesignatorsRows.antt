-- Each row holds by computation.
use Rattle.std.proofs.Common.{refl}
use Rattle.a95_base.specs.Integer.{wrapped}
use Rattle.shape_check_rows.specs.Designators.{GoodPlaces, OtherSubscripts, OtherCuts, OtherBounds, WrongReference, Allocation}
use Rattle.shape_check_rows.specs.Designators.{Stores, StoredItems, ValuesOfFunctions}

pub good_places_row : GoodPlaces
unfolding wrapped
good_places_row = refl

pub other_subscripts_row : OtherSubscripts
unfolding wrapped
other_subscripts_row = refl

pub other_cuts_row : OtherCuts
unfolding wrapped
other_cuts_row = refl

pub other_bounds_row : OtherBounds
unfolding wrapped
other_bounds_row = refl

pub wrong_reference_row : WrongReference
unfolding wrapped
wrong_reference_row = refl

pub allocation_row : Allocation
unfolding wrapped
allocation_row = refl

pub stores_row : Stores
unfolding wrapped
stores_row = refl

pub stored_items_row : StoredItems
unfolding wrapped
stored_items_row = refl

pub values_of_functions_row : ValuesOfFunctions
unfolding wrapped
values_of_functions_row = refl
