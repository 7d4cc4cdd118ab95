-- One operation after another.
use Rattle.std.proofs.Common.{◌≡◌, ℕ, Bool, true, false, nat_le, List, [], ◌∷◌, refl, cond}
use Rattle.f95_tree.specs.declared.expression.Expression.{Expression}
use Rattle.f95_expressions.specs.declared.pending.Pending.{Pending}
use Rattle.f95_expressions.specs.declared.pending.Pending.TheVariants as pending
use Rattle.f95_expressions.specs.Machine.{Stack, held, reduce, can_make, made_of}

pub reduced_more : (l : ℕ) (p : Pending) (s : Stack) (x : Expression) → can_make l (p ∷ s) ≡ true →
    reduce l (p ∷ s) x ≡ reduce l s (made_of p x)
reduced_more l (pending.Left a op) s x h = rw h refl
reduced_more l (pending.Before g) s x h = rw h refl
reduced_more l (pending.Open k d left g) s x h = absurd (cc)

pub reduced_done : (l : ℕ) (s : Stack) (x : Expression) → can_make l s ≡ false → reduce l s x ≡ held s x
reduced_done l [] x h = refl
reduced_done l (pending.Left a op ∷ s) x h = rw h refl
reduced_done l (pending.Before g ∷ s) x h = rw h refl
reduced_done l (pending.Open k d left g ∷ s) x h = refl
