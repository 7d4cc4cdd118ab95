-- READ and PRINT. Each row holds by computation.
use Rattle.std.proofs.Common.{refl}
use Rattle.array_meaning.proofs.Running.{running}
use Rattle.array_meaning_rows.specs.InputTwo.{values_before_the_end, ValuesBeforeTheEnd}

pub values_before_the_end_row : ValuesBeforeTheEnd
unfolding running values_before_the_end
values_before_the_end_row = record { is = refl }
