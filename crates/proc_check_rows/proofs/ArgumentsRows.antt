-- Each row holds by computation.
use Rattle.std.proofs.Common.{refl}
use Rattle.proc_check_rows.specs.Arguments.{Numbers, Kinds, Elementals, Outs, Sections, Lengths}

pub numbers_row : Numbers
numbers_row = refl

pub kinds_row : Kinds
kinds_row = refl

pub elementals_row : Elementals
elementals_row = refl

pub outs_row : Outs
outs_row = refl

pub sections_row : Sections
sections_row = refl

pub lengths_row : Lengths
lengths_row = refl
