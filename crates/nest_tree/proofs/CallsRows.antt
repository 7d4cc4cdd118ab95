-- Each row holds by computation.
use Rattle.std.proofs.Common.{refl}
use Rattle.nest_tree.proofs.Running.{running}
use Rattle.nest_tree.specs.CallsRows.{modified_in_place, call_without_a_turn, elemental_reference, elemental_reference_waits}
use Rattle.nest_tree.specs.CallsRows.{result_of_an_array, stop_in_a_procedure, no_such_procedure, dummy_without_actual}
use Rattle.nest_tree.specs.CallsRows.{ModifiedInPlace, CallWithoutATurn, ElementalReference, ElementalReferenceWaits}
use Rattle.nest_tree.specs.CallsRows.{ResultOfAnArray, StopInAProcedure, NoSuchProcedure, DummyWithoutActual}

pub modified_in_place_row : ModifiedInPlace
unfolding running modified_in_place
modified_in_place_row = record { runs = refl; counts = refl }

pub call_without_a_turn_row : CallWithoutATurn
unfolding running call_without_a_turn
call_without_a_turn_row = record { runs = refl; counts = refl }

pub elemental_reference_row : ElementalReference
unfolding running elemental_reference
elemental_reference_row = record { runs = refl; counts = refl }

pub elemental_reference_waits_row : ElementalReferenceWaits
unfolding running elemental_reference_waits
elemental_reference_waits_row = record { runs = refl; counts = refl }

pub result_of_an_array_row : ResultOfAnArray
unfolding running result_of_an_array
result_of_an_array_row = record { runs = refl; counts = refl }

pub stop_in_a_procedure_row : StopInAProcedure
unfolding running stop_in_a_procedure
stop_in_a_procedure_row = record { runs = refl; counts = refl }

pub no_such_procedure_row : NoSuchProcedure
unfolding running no_such_procedure
no_such_procedure_row = record { runs = refl; counts = refl }

pub dummy_without_actual_row : DummyWithoutActual
unfolding running dummy_without_actual
dummy_without_actual_row = record { runs = refl; counts = refl }
