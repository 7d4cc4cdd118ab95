-- Faults, and what comes before what. Each row holds by computation.
use Rattle.std.proofs.Common.{refl}
use Rattle.array_meaning.proofs.Running.{running}
use Rattle.array_meaning_rows.specs.FaultsFour.{allocated_before_subscripts, fault_in_a_called_procedure, AllocatedBeforeSubscripts}
use Rattle.array_meaning_rows.specs.FaultsFour.{FaultInACalledProcedure}

pub allocated_before_subscripts_row : AllocatedBeforeSubscripts
unfolding running allocated_before_subscripts
allocated_before_subscripts_row = record { is = refl }

pub fault_in_a_called_procedure_row : FaultInACalledProcedure
unfolding running fault_in_a_called_procedure
fault_in_a_called_procedure_row = record { is = refl }
