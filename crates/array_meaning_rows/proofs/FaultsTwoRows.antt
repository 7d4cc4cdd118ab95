-- Faults, and what comes before what. Each row holds by computation.
use Rattle.std.proofs.Common.{refl}
use Rattle.array_meaning.proofs.Running.{running}
use Rattle.array_meaning_rows.specs.FaultsTwo.{forall_stores_twice, too_large, not_allocated, deallocated_twice, allocated_already}
use Rattle.array_meaning_rows.specs.FaultsTwo.{no_character, vector_too_short, no_order, too_few_elements, ForallStoresTwice}
use Rattle.array_meaning_rows.specs.FaultsTwo.{TooLarge, NotAllocated, DeallocatedTwice, AllocatedAlready, NoCharacter}
use Rattle.array_meaning_rows.specs.FaultsTwo.{VectorTooShort, NoOrder, TooFewElements}

pub forall_stores_twice_row : ForallStoresTwice
unfolding running forall_stores_twice
forall_stores_twice_row = record { is = refl }

pub too_large_row : TooLarge
unfolding running too_large
too_large_row = record { is = refl }

pub not_allocated_row : NotAllocated
unfolding running not_allocated
not_allocated_row = record { is = refl }

pub deallocated_twice_row : DeallocatedTwice
unfolding running deallocated_twice
deallocated_twice_row = record { is = refl }

pub allocated_already_row : AllocatedAlready
unfolding running allocated_already
allocated_already_row = record { is = refl }

pub no_character_row : NoCharacter
unfolding running no_character
no_character_row = record { is = refl }

pub vector_too_short_row : VectorTooShort
unfolding running vector_too_short
vector_too_short_row = record { is = refl }

pub no_order_row : NoOrder
unfolding running no_order
no_order_row = record { is = refl }

pub too_few_elements_row : TooFewElements
unfolding running too_few_elements
too_few_elements_row = record { is = refl }
