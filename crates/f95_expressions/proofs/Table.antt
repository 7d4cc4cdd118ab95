-- What the table of levels keeps, and what it does to a stack.
use Rattle.std.proofs.Common.{◌≡◌, ℕ, ◌<◌, ◌≤◌, Bool, true, false, nat_le, List, [], ◌∷◌, refl, arith}
use Rattle.std.proofs.lemmas.Bool.{leb-true, le-leb, lt-leb}
use Rattle.std.proofs.Math.Dec.{leb-zero}
use Rattle.f95_tree.specs.declared.expression.Expression.{Expression}
use Rattle.f95_tree.specs.declared.expression.Expression.TheVariants as e
use Rattle.f95_tree.specs.declared.terminal.Terminal.{Terminal}
use Rattle.f95_tree.specs.declared.terminal.Terminal.TheVariants as terminal
use Rattle.f95_tree.specs.declared.terminal.Operator.{Operator}
use Rattle.f95_tree.specs.declared.terminal.Operator.TheVariants as operator
use Rattle.f95_tree.specs.declared.terminal.Sign.{Sign}
use Rattle.f95_tree.specs.declared.terminal.Sign.TheVariants as sign
use Rattle.f95_tree.specs.declared.terminal.Punctuation.TheVariants as mark
use Rattle.f95_tree.specs.Levels.{level, left_of, right_of, sign_level, under_sign}
use Rattle.f95_expressions.specs.declared.pending.Pending.TheVariants as pending
use Rattle.f95_expressions.specs.declared.pending.Machine.TheVariants as machine
use Rattle.f95_expressions.specs.Machine.{Stack, asked, held, reduce, run}

pub above : (o : Operator) → level o ≤ left_of o
above operator.Power = omega arith
above o = omega arith

pub beyond : (o : Operator) → level o ≤ right_of o
beyond operator.Power = omega arith
beyond o = omega arith

pub above_sign : (s : Sign) → sign_level s < under_sign s
above_sign sign.Not = omega arith
above_sign s = omega arith

power_apart : (o : Operator) → 9 ≤ level o → 9 < left_of o
power_apart operator.Power h = omega arith
power_apart operator.Multiply h = omega arith
power_apart o h = omega arith

-- where an operator may stand, what waits on its left is not yet made
pub apart : (p o : Operator) → right_of p ≤ level o → level p < left_of o
apart operator.Power o h = power_apart o h
apart operator.Multiply o h = omega (arith, above o)
apart p o h = omega (arith, above o)

pub stays : (s : Stack) (x : Expression) (o : Operator) → asked s ≤ level o → reduce (left_of o) s x ≡ held s x
stays [] x o h = refl
stays (pending.Left a p ∷ s) x o h = rw (lt-leb (left_of o) (level p) (apart p o h)) refl
stays (pending.Before g ∷ s) x o h = rw (lt-leb (left_of o) (sign_level g) (omega (arith, above o, above_sign g))) refl
stays (pending.Open k fs left g ∷ s) x o h = refl

-- what may follow an operand of this level
abbrev pub lets : ℕ → List Terminal → Bool
lets l [] = true
lets l (terminal.Operator o ∷ _) = nat_le (left_of o) l
lets l (terminal.Punctuation mark.Open ∷ _) = false
lets l (terminal.Punctuation _ ∷ _) = true
lets l (_ ∷ _) = true

pub lets_more : (l m : ℕ) (rest : List Terminal) → l ≤ m → lets l rest ≡ true → lets m rest ≡ true
lets_more l m [] h p = refl
lets_more l m (terminal.Operator o ∷ rest) h p = le-leb _ _ (omega (arith, leb-true (left_of o) l p))
lets_more l m (terminal.Punctuation mark.Open ∷ rest) h p = p
lets_more l m (terminal.Punctuation p ∷ rest) h q = refl
lets_more l m (t ∷ rest) h p = refl

-- where an operand of that level may end, it is made at once
pub made_left : (s : Stack) (a : Expression) (p : Operator) (b : Expression) (rest : List Terminal) → lets (level p) rest ≡ true →
    run (machine.Holds (pending.Left a p ∷ s) b) rest ≡ run (machine.Holds s (e.Binary p a b)) rest
made_left s a p b [] h = rw (leb-zero (level p)) refl
made_left s a p b (terminal.Operator o ∷ rest) h = rw h refl
made_left s a p b (terminal.Punctuation mark.Open ∷ rest) h = absurd (cc)
made_left s a p b (terminal.Punctuation mark.Close ∷ rest) h = rw (leb-zero (level p)) refl
made_left s a p b (terminal.Punctuation q ∷ rest) h = rw (leb-zero (level p)) refl
made_left s a p b (terminal.Not ∷ rest) h = refl
made_left s a p b (t ∷ rest) h = refl

pub made_sign : (s : Stack) (g : Sign) (b : Expression) (rest : List Terminal) → lets (sign_level g) rest ≡ true →
    run (machine.Holds (pending.Before g ∷ s) b) rest ≡ run (machine.Holds s (e.Signed g b)) rest
made_sign s g b [] h = rw (leb-zero (sign_level g)) refl
made_sign s g b (terminal.Operator o ∷ rest) h = rw h refl
made_sign s g b (terminal.Punctuation mark.Open ∷ rest) h = absurd (cc)
made_sign s g b (terminal.Punctuation mark.Close ∷ rest) h = rw (leb-zero (sign_level g)) refl
made_sign s g b (terminal.Punctuation q ∷ rest) h = rw (leb-zero (sign_level g)) refl
made_sign s g b (terminal.Not ∷ rest) h = refl
made_sign s g b (t ∷ rest) h = refl
