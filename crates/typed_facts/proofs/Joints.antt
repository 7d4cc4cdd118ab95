-- The shape of what has two shapes, dimension by dimension.
use Rattle.std.proofs.Common.{◌≡◌, List, [], ◌∷◌, ◌++◌, length, Bool, false, Option, Some, None, ℕ, refl, sym, ap, ◌∙◌}
use Rattle.std.proofs.Common.{append_assoc, arith}
use Rattle.well_typed.specs.Shapes.{Extents, joint, differ}

joint_nothing : (ms : Extents) → joint ms [] ≡ ms
joint_nothing [] = refl
joint_nothing (m ∷ ms) = refl

pub joint_with_nothing : (m : Option ℕ) (ms ns : Extents) → length ns ≡ 0 → joint (m ∷ ms) ns ≡ m ∷ joint ms ns
joint_with_nothing m ms [] e = ap (λ xs. m ∷ xs) (sym (joint_nothing ms))
joint_with_nothing m ms (n ∷ ns) e = absurd (omega (arith, e))

pub differ_from_nothing : (ms ns : Extents) → length ns ≡ 0 → differ ms ns ≡ false
differ_from_nothing [] ns e = refl
differ_from_nothing (m ∷ ms) [] e = refl
differ_from_nothing (m ∷ ms) (n ∷ ns) e = absurd (omega (arith, e))
