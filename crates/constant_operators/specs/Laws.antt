-- What is known of values.
use Rattle.std.specs.Prelude.{◌≡◌, ℤ, ◌↔◌}
use Rattle.a95_base.specs.IntegerLaws.{IsInteger}
use Rattle.a95_base.specs.declared.scalar.Scalar.TheVariants as scalar
use Rattle.constant_operators.specs.declared.value.Worth.TheVariants.{Is}
use Rattle.constant_operators.specs.Operators.{within}

-- the value of an operation is known exactly where it is an INTEGER
abbrev pub KnownWithin : Type 0
KnownWithin = (z : ℤ) → (within z ≡ Is (scalar.Int z)) ↔ IsInteger z
