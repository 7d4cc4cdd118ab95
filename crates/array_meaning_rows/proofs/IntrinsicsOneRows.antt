-- Intrinsic functions and constructors. Each row holds by computation.
use Rattle.std.proofs.Common.{refl}
use Rattle.array_meaning.proofs.Running.{running}
use Rattle.array_meaning_rows.specs.IntrinsicsOne.{integer_functions, bits, merged, text_functions, inquiries, reductions}
use Rattle.array_meaning_rows.specs.IntrinsicsOne.{places_of_extremes, products, spread_pack_unpack, IntegerFunctions, Bits, Merged}
use Rattle.array_meaning_rows.specs.IntrinsicsOne.{TextFunctions, Inquiries, Reductions, PlacesOfExtremes, Products}
use Rattle.array_meaning_rows.specs.IntrinsicsOne.{SpreadPackUnpack}

pub integer_functions_row : IntegerFunctions
unfolding running integer_functions
integer_functions_row = record { is = refl }

pub bits_row : Bits
unfolding running bits
bits_row = record { is = refl }

pub merged_row : Merged
unfolding running merged
merged_row = record { is = refl }

pub text_functions_row : TextFunctions
unfolding running text_functions
text_functions_row = record { is = refl }

pub inquiries_row : Inquiries
unfolding running inquiries
inquiries_row = record { is = refl }

pub reductions_row : Reductions
unfolding running reductions
reductions_row = record { is = refl }

pub places_of_extremes_row : PlacesOfExtremes
unfolding running places_of_extremes
places_of_extremes_row = record { is = refl }

pub products_row : Products
unfolding running products
products_row = record { is = refl }

pub spread_pack_unpack_row : SpreadPackUnpack
unfolding running spread_pack_unpack
spread_pack_unpack_row = record { is = refl }
