-- Division that wraps at 64 bits.
use Rattle.std.proofs.Common.{◌≡◌, ℤ, FitsSigned, w64, of_z, ap}
use Rattle.std.specs.Prelude.{Ok}
use Rattle.std.specs.Int.{int_wrapping_div}
use Rattle.a95_base.proofs.Quotients.{div_wraps, not_zero}
use Rattle.loop_tree.specs.Values.{quotient}

pub quotient_is : (x y : ℤ) → FitsSigned w64 x → (of_z w64 y ≡ 0 → ⊥) → Ok (int_wrapping_div w64 x y) ≡ quotient x y
quotient_is x y fits h = rw (not_zero y (λ e. h (ap (of_z w64) e))) (ap Ok (div_wraps w64 x y fits))
