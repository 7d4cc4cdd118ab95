-- The first of some breaks is one of them, and comes before the others.
use Rattle.std.proofs.Common.{◌≡◌, ℕ, ◌<◌, ◌≤◌, ◌⊎◌, Bool, true, false, ◌&&◌, ◌||◌, ◌==◌, nat_lt, nat_le, cond, List, [], ◌∷◌, Some, None}
use Rattle.std.proofs.Common.{refl, ◌∙◌, subst, inl, inr, ⊎_elim, arith}
use Rattle.std.proofs.lemmas.Bool.{cases_lt}
use Rattle.std.proofs.lemmas.Bool.Decides.{nat_tests}
use Rattle.a95_base.specs.Lists.{Member}
use Rattle.a95_base.specs.declared.breaks.Break.{Break}
use Rattle.a95_base.specs.Breaks.{ComesFirst, IsLeast, AreBroken, broken_at, comes_first, first_from, first_of, noted}

-- break a comes before break b, or both are the same
pub record Before (a b : Break) : Type 0 where
  pub order : ComesFirst a.line a.rule b.line b.rule

first_said : (m n p q : ℕ) → nat_lt m n || (m == n && nat_le p q) ≡ true → (m < n) ⊎ ((m ≡ n) × (p ≤ q))
first_said m n p q e = ⊎_elim
    (λ (h : m < n). inl h)
    (λ (h : n ≤ m). let level : m
    ≡ n = grind (arith, nat_tests) in let order : p ≤ q = grind (arith, nat_tests) in inr (level, order))
    (cases_lt m n)

second_said : (m n p q : ℕ) → nat_lt m n || (m == n && nat_le p q) ≡ false → (n < m) ⊎ ((n ≡ m) × (q ≤ p))
second_said m n p q e = ⊎_elim
    (λ (h : n < m). inl h)
    (λ (h : m ≤ n). let level : n
    ≡ m = grind (arith, nat_tests) in let order : q ≤ p = grind (arith, nat_tests) in inr (level, order))
    (cases_lt n m)

same : (a : Break) → Before a a
same a = record { order = inr (refl, omega arith) }

chained : (a b c : Break) → Before a b → Before b c → Before a c
chained a b c x y = record {
  order = ⊎_elim
      (λ (h : a.line < b.line). ⊎_elim (λ (k : b.line < c.line). inl (omega arith)) (λ (k : (b.line ≡ c.line)
      × (b.rule ≤ c.rule)). inl (omega (arith, k.0))) y.order)
      (λ (h : (a.line ≡ b.line) × (a.rule ≤ b.rule)). ⊎_elim (λ (k : b.line < c.line). inl (omega (arith, h.0)))
      (λ (k : (b.line ≡ c.line) × (b.rule ≤ c.rule)). inr (h.0 ∙ k.0, omega (arith, h.1, k.1))) y.order)
      x.order;
}

-- b is one of them, and comes before each
pub record IsFirst (b : Break) (bs : List Break) : Type 0 where
  pub among : Member bs b
  pub before : (c : Break) → Member bs c → Before b c

by_test : (b c f : Break) (cs : List Break) (t : Bool) → comes_first b c ≡ t → IsFirst f (cond t b c ∷ cs) → IsFirst f (b ∷ c ∷ cs)
by_test b c f cs true e h = record {
  among = ⊎_elim (λ (x : b ≡ f). inl x) (λ (x : Member cs f). inr (inr x)) h.among;
  before = λ d. λ w. ⊎_elim
      (λ (x : b ≡ d). subst (λ z. Before f z) x (h.before b (inl refl)))
      (⊎_elim (λ (x : c
      ≡ d). subst (λ z. Before f z) x
      (chained f b c (h.before b (inl refl)) (record { order = first_said b.line c.line b.rule c.rule e })))
      (λ (x : Member cs d). h.before d (inr x))) w;
}
by_test b c f cs false e h = record {
  among = ⊎_elim (λ (x : c ≡ f). inr (inl x)) (λ (x : Member cs f). inr (inr x)) h.among;
  before = λ d. λ w. ⊎_elim
      (λ (x : b
      ≡ d). subst (λ z. Before f z) x
      (chained f c b (h.before c (inl refl)) (record { order = second_said b.line c.line b.rule c.rule e })))
      (⊎_elim (λ (x : c ≡ d). subst (λ z. Before f z) x (h.before c (inl refl)))
      (λ (x : Member cs d). h.before d (inr x))) w;
}

first_from_is : (b : Break) (bs : List Break) → IsFirst (first_from b bs) (b ∷ bs)
first_from_is b [] = record {
  among = inl refl;
  before = λ d. λ w. ⊎_elim (λ (x : b ≡ d). subst (λ z. Before b z) x (same b)) (λ (x : ⊥). absurd x) w;
}
first_from_is b (c ∷ cs) =
    by_test b c (first_from b (c ∷ cs)) cs (comes_first b c) refl (first_from_is (cond (comes_first b c) b c) cs)

pub first_of_is : (bs : List Break) (f : Break) → first_of bs ≡ Some f → IsFirst f bs
first_of_is [] f e = cc
first_of_is (b ∷ bs) f e = let is : first_from b bs ≡ f = cc in subst (λ z. IsFirst z (b ∷ bs)) is (first_from_is b bs)

-- the first of what is broken is the least
pub first_is_least : (IsBroken : ℕ → ℕ → Type 0) (bs : List Break) (f : Break) → AreBroken IsBroken bs
    → first_of bs ≡ Some f → IsLeast IsBroken f.line f.rule
first_is_least IsBroken bs f are e = record {
  broken = are.sound f (first_of_is bs f e).among;
  least = λ line. λ rule. λ b. ((first_of_is bs f e).before (broken_at line rule) (are.complete line rule b)).order;
}

-- where none is first, there is none
pub no_break : (bs : List Break) → first_of bs ≡ None → bs ≡ []
no_break [] e = refl
no_break (b ∷ bs) e = cc

pub none_among : (bs : List Break) → first_of bs ≡ None → (b : Break) → Member bs b → ⊥
none_among [] e b m = m
none_among (c ∷ cs) e b m = cc

pub noted_here : (t : Bool) (b : Break) → t ≡ true → Member (noted t b) b
noted_here true b h = inl refl
noted_here false b h = cc
