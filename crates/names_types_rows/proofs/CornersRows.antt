-- Each row holds by computation.
use Rattle.std.proofs.Common.{refl}
use Rattle.a95_base.specs.Integer.{wrapped}
use Rattle.names_types_rows.specs.Corners.{AssumedPrefix, HiddenSize, OwnModule, NearestModule, ConstantBounds, UndeclaredBound}
use Rattle.names_types_rows.specs.Corners.{PrefixBeforeUse, NoDummies, Keywords}

pub assumed_prefix_row : AssumedPrefix
unfolding wrapped
assumed_prefix_row = refl

pub hidden_size_row : HiddenSize
unfolding wrapped
hidden_size_row = refl

pub own_module_row : OwnModule
unfolding wrapped
own_module_row = refl

pub nearest_module_row : NearestModule
unfolding wrapped
nearest_module_row = refl

pub constant_bounds_row : ConstantBounds
unfolding wrapped
constant_bounds_row = refl

pub undeclared_bound_row : UndeclaredBound
unfolding wrapped
undeclared_bound_row = refl

pub prefix_before_use_row : PrefixBeforeUse
unfolding wrapped
prefix_before_use_row = refl

pub no_dummies_row : NoDummies
unfolding wrapped
no_dummies_row = refl

pub keywords_row : Keywords
unfolding wrapped
keywords_row = refl
