-- Each row holds by computation.
use Rattle.std.proofs.Common.{refl}
use Rattle.a95_base.specs.Integer.{wrapped}
use Rattle.names_types_rows.specs.Scalars.{Twice, Undeclared, Constants, TooEarly, OtherKind, Overflow, OneFault, CharRange}
use Rattle.names_types_rows.specs.Scalars.{Constructors}

pub twice_row : Twice
unfolding wrapped
twice_row = refl

pub undeclared_row : Undeclared
unfolding wrapped
undeclared_row = refl

pub constants_row : Constants
unfolding wrapped
constants_row = refl

pub too_early_row : TooEarly
unfolding wrapped
too_early_row = refl

pub other_kind_row : OtherKind
unfolding wrapped
other_kind_row = refl

pub overflow_row : Overflow
unfolding wrapped
overflow_row = refl

pub one_fault_row : OneFault
unfolding wrapped
one_fault_row = refl

pub char_range_row : CharRange
unfolding wrapped
char_range_row = refl

pub constructors_row : Constructors
unfolding wrapped
constructors_row = refl
