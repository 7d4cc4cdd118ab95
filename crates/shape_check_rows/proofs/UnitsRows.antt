-- Each row holds by computation.
use Rattle.std.proofs.Common.{refl}
use Rattle.a95_base.specs.Integer.{wrapped}
use Rattle.shape_check_rows.specs.Units.{Brought, First, Shifted, Functions, NoFunction}

pub first_row : First
unfolding wrapped
first_row = refl

pub shifted_row : Shifted
unfolding wrapped
shifted_row = refl

pub functions_row : Functions
unfolding wrapped
functions_row = refl

pub no_function_row : NoFunction
unfolding wrapped
no_function_row = refl

pub brought_row : Brought
unfolding wrapped
brought_row = refl
