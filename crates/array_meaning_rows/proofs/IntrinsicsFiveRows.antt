-- Reductions with ties, with masks that are nowhere true, and of no elements; texts of unlike lengths. Each row holds by
-- computation.
use Rattle.std.proofs.Common.{refl}
use Rattle.array_meaning.proofs.Running.{running}
use Rattle.array_meaning_rows.specs.IntrinsicsFive.{places_with_ties, places_where_nothing_counts, place_counts_from_one}
use Rattle.array_meaning_rows.specs.IntrinsicsFive.{sums_along_nothing, masks_along_a_dimension, products_of_nothing}
use Rattle.array_meaning_rows.specs.IntrinsicsFive.{nested_implied_dos, padded_comparison, texts_cut_and_padded, PlacesWithTies}
use Rattle.array_meaning_rows.specs.IntrinsicsFive.{PlacesWhereNothingCounts, PlaceCountsFromOne, SumsAlongNothing}
use Rattle.array_meaning_rows.specs.IntrinsicsFive.{MasksAlongADimension, ProductsOfNothing, NestedImpliedDos, PaddedComparison}
use Rattle.array_meaning_rows.specs.IntrinsicsFive.{TextsCutAndPadded}

pub places_with_ties_row : PlacesWithTies
unfolding running places_with_ties
places_with_ties_row = record { is = refl }

pub places_where_nothing_counts_row : PlacesWhereNothingCounts
unfolding running places_where_nothing_counts
places_where_nothing_counts_row = record { is = refl }

pub place_counts_from_one_row : PlaceCountsFromOne
unfolding running place_counts_from_one
place_counts_from_one_row = record { is = refl }

pub sums_along_nothing_row : SumsAlongNothing
unfolding running sums_along_nothing
sums_along_nothing_row = record { is = refl }

pub masks_along_a_dimension_row : MasksAlongADimension
unfolding running masks_along_a_dimension
masks_along_a_dimension_row = record { is = refl }

pub products_of_nothing_row : ProductsOfNothing
unfolding running products_of_nothing
products_of_nothing_row = record { is = refl }

pub nested_implied_dos_row : NestedImpliedDos
unfolding running nested_implied_dos
nested_implied_dos_row = record { is = refl }

pub padded_comparison_row : PaddedComparison
unfolding running padded_comparison
padded_comparison_row = record { is = refl }

pub texts_cut_and_padded_row : TextsCutAndPadded
unfolding running texts_cut_and_padded
texts_cut_and_padded_row = record { is = refl }
