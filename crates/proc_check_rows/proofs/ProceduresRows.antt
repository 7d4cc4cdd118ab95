-- Each row holds by computation.
use Rattle.std.proofs.Common.{refl}
use Rattle.proc_check_rows.specs.Procedures.{Functions, Transfers, ScalarsAlone, Recursions}

pub functions_row : Functions
functions_row = refl

pub transfers_row : Transfers
transfers_row = refl

pub scalars_row : ScalarsAlone
scalars_row = refl

pub recursions_row : Recursions
recursions_row = refl
