-- Subroutines and functions. Each row holds by computation.
use Rattle.std.proofs.Common.{refl}
use Rattle.array_meaning.proofs.Running.{running}
use Rattle.array_meaning_rows.specs.CallsThree.{declaration_too_large, DeclarationTooLarge}

pub declaration_too_large_row : DeclarationTooLarge
unfolding running declaration_too_large
declaration_too_large_row = record { is = refl }
