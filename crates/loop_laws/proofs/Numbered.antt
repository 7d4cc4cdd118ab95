-- Variables and blocks by their numbers.
use Rattle.std.proofs.Common.{◌≡◌, ◌≢◌, ℕ, zero, suc, ◌==◌, ◌<◌, ◌≤◌, Bool, true, false, List, [], ◌∷◌, Option, Some, None, refl}
use Rattle.std.proofs.Common.{ap, ◌∙◌, sym, arith, nat_lt}
use Rattle.std.specs.Prelude.{get_or, if◌then◌else◌}
use Rattle.std.proofs.lemmas.Bool.Decides.{nat_tests}
use Rattle.a95_base.proofs.Tests.{equals_itself}
use Rattle.loop_tree.specs.State.{Cells, with_at, cells_numbered, with_cells, without, made_before}
use Rattle.loop_laws.specs.Numbered.{MadeHere, MadeElsewhere, ChangedHere, ChangedElsewhere, FreedHere, FreedElsewhere, MadeInCall}
use Rattle.loop_laws.specs.Numbered.{MadeBeforeCall}

pub with_at_same : {A : Type 0} (d : A) (xs : List A) (n : ℕ) (v : A) → get_or (with_at d xs n v) n d ≡ v
unfolding with_at
with_at_same d [] zero v = refl
with_at_same d [] (suc n) v = with_at_same d [] n v
with_at_same d (x ∷ xs) zero v = refl
with_at_same d (x ∷ xs) (suc n) v = with_at_same d xs n v

pub with_at_other : {A : Type 0} (d : A) (xs : List A) (n m : ℕ) (v : A) → n ≢ m → get_or (with_at d xs n v) m d ≡ get_or xs m d
unfolding with_at
with_at_other d [] zero zero v h = absurd (h refl)
with_at_other d [] zero (suc m) v h = refl
with_at_other d [] (suc n) zero v h = refl
with_at_other d [] (suc n) (suc m) v h = with_at_other d [] n m v (λ e. h (ap suc e))
with_at_other d (x ∷ xs) zero zero v h = absurd (h refl)
with_at_other d (x ∷ xs) zero (suc m) v h = refl
with_at_other d (x ∷ xs) (suc n) zero v h = refl
with_at_other d (x ∷ xs) (suc n) (suc m) v h = with_at_other d xs n m v (λ e. h (ap suc e))

apart : (n m : ℕ) → n ≢ m → (n == m) ≡ false
apart n m h = grind (arith, nat_tests)

pub made_here : MadeHere
made_here bs m c = rw (equals_itself m)

pub made_elsewhere : MadeElsewhere
made_elsewhere bs m k c h = let e = apart m k h in rw e

pub changed_here : ChangedHere
changed_here [] n before c h = cc
changed_here (b ∷ bs) n before c h = by (λ g. changed_here bs n before c g) (b.number == n) refl
  where
    by : (cells_numbered bs n ≡ Some before → cells_numbered (with_cells bs n c) n ≡ Some c) → (t : Bool) → (b.number == n) ≡ t →
        cells_numbered (with_cells (b ∷ bs) n c) n ≡ Some c
    by more true e = rw e (rw (equals_itself n))
    by more false e = rw (e, e) (more (rw e at h))

pub changed_elsewhere : ChangedElsewhere
changed_elsewhere [] n k c h = refl
changed_elsewhere (b ∷ bs) n k c h = by (changed_elsewhere bs n k c h) (b.number == n) refl
  where
    by : cells_numbered (with_cells bs n c) k ≡ cells_numbered bs k → (t : Bool) → (b.number == n) ≡ t →
        cells_numbered (with_cells (b ∷ bs) n c) k ≡ cells_numbered (b ∷ bs) k
    by more true e =
        let is : b.number ≡ n = grind (arith, nat_tests) in
        let new = apart n k h in
        let old : (b.number == k) ≡ false = apart b.number k (λ x. h (sym is ∙ x)) in
        rw (e, new, old) more
    by more false e = rw e (ap (λ (o : Option Cells). if b.number == k then Some b.cells else o) more)

pub freed_here : FreedHere
freed_here [] n = refl
freed_here (b ∷ bs) n = by (freed_here bs n) (b.number == n) refl
  where
    by : cells_numbered (without bs n) n ≡ None → (t : Bool) → (b.number == n) ≡ t → cells_numbered (without (b ∷ bs) n) n ≡ None
    by more true e = rw e more
    by more false e = rw (e, e) more

pub freed_elsewhere : FreedElsewhere
freed_elsewhere [] n k h = refl
freed_elsewhere (b ∷ bs) n k h = by (freed_elsewhere bs n k h) (b.number == n) refl
  where
    by : cells_numbered (without bs n) k ≡ cells_numbered bs k → (t : Bool) → (b.number == n) ≡ t →
        cells_numbered (without (b ∷ bs) n) k ≡ cells_numbered (b ∷ bs) k
    by more true e =
        let is : b.number ≡ n = grind (arith, nat_tests) in
        let old : (b.number == k) ≡ false = apart b.number k (λ x. h (sym is ∙ x)) in
        rw (e, old) more
    by more false e = rw e (ap (λ (o : Option Cells). if b.number == k then Some b.cells else o) more)

pub made_in_call : MadeInCall
made_in_call [] mark n h = refl
made_in_call (b ∷ bs) mark n h = by (made_in_call bs mark n h) (nat_lt b.number mark) refl
  where
    by : cells_numbered (made_before bs mark) n ≡ None → (t : Bool) → nat_lt b.number mark ≡ t →
        cells_numbered (made_before (b ∷ bs) mark) n ≡ None
    by more true e =
        let less : b.number < mark = grind (arith, nat_tests) in
        let other : (b.number == n) ≡ false = apart b.number n (λ x. omega (arith, x)) in
        rw (e, other) more
    by more false e = rw e more

pub made_before_call : MadeBeforeCall
made_before_call [] mark n h = refl
made_before_call (b ∷ bs) mark n h = by (made_before_call bs mark n h) (nat_lt b.number mark) refl
  where
    by : cells_numbered (made_before bs mark) n ≡ cells_numbered bs n → (t : Bool) → nat_lt b.number mark ≡ t →
        cells_numbered (made_before (b ∷ bs) mark) n ≡ cells_numbered (b ∷ bs) n
    by more true e = rw e (ap (λ (o : Option Cells). if b.number == n then Some b.cells else o) more)
    by more false e =
        let more_than : mark ≤ b.number = grind (arith, nat_tests) in
        let other : (b.number == n) ≡ false = apart b.number n (λ x. omega (arith, x)) in
        rw (e, other) more
