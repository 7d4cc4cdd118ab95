-- Comparisons of integers and of texts, by their order.
use Rattle.std.proofs.Common.{◌≡◌, Bool, true, false, not, refl, sym, ap, ◌∙◌, arith, ℤ, pos}
use Rattle.std.specs.Prelude.{negsuc, int_lt, int_le, cond}
use Rattle.std.specs.Ordering.{int_cmp, is_eq, is_ne, is_lt, is_le, is_gt, is_ge}
use Rattle.std.specs.declared.cmp.Ordering.{Ordering}
use Rattle.std.specs.declared.cmp.Ordering.TheVariants.{Less, Equal, Greater}
use Rattle.std.proofs.lemmas.Bool.Decides.{nat_tests}
use Rattle.f95_unit.specs.declared.operation.BinaryOp.{BinaryOp}
use Rattle.f95_unit.specs.declared.operation.BinaryOp.TheVariants as binary
use Rattle.loop_tree.specs.Values.{order_number}

pub less_is : (x y : ℤ) → is_lt (int_cmp x y) ≡ int_lt x y
less_is x y = by (int_lt x y) (int_lt y x)
  where
    by : (a b : Bool) → is_lt (cond a Less (cond b Greater Equal)) ≡ a
    by true b = refl
    by false true = refl
    by false false = refl

not_both : (x y : ℤ) → int_lt x y ≡ true → int_lt y x ≡ false
not_both (pos x) (pos y) h = grind (arith, nat_tests)
not_both (pos x) (negsuc y) h = cc
not_both (negsuc x) (pos y) h = refl
not_both (negsuc x) (negsuc y) h = grind (arith, nat_tests)

pub greater_is : (x y : ℤ) → is_gt (int_cmp x y) ≡ int_lt y x
greater_is x y = by (int_lt x y) (int_lt y x) (not_both x y)
  where
    by : (a b : Bool) → (a ≡ true → b ≡ false) → is_gt (cond a Less (cond b Greater Equal)) ≡ b
    by true b apart = sym (apart refl)
    by false true apart = refl
    by false false apart = refl

pub at_most_is : (x y : ℤ) → int_le x y ≡ not (int_lt y x)
at_most_is (pos x) (pos y) = grind (arith, nat_tests)
at_most_is (pos x) (negsuc y) = refl
at_most_is (negsuc x) (pos y) = refl
at_most_is (negsuc x) (negsuc y) = grind (arith, nat_tests)

pub le_is : (x y : ℤ) → is_le (int_cmp x y) ≡ int_le x y
le_is x y = by (int_lt x y) (int_lt y x) (not_both x y) ∙ sym (at_most_is x y)
  where
    by : (a b : Bool) → (a ≡ true → b ≡ false) → is_le (cond a Less (cond b Greater Equal)) ≡ not b
    by true b apart = ap not (sym (apart refl))
    by false true apart = refl
    by false false apart = refl

pub ge_is : (x y : ℤ) → is_ge (int_cmp x y) ≡ int_le y x
ge_is x y = by (int_lt x y) (int_lt y x) ∙ sym (at_most_is y x)
  where
    by : (a b : Bool) → is_ge (cond a Less (cond b Greater Equal)) ≡ not a
    by true b = refl
    by false true = refl
    by false false = refl

pub ne_is : (o : Ordering) → is_ne o ≡ not (is_eq o)
ne_is Less = refl
ne_is Equal = refl
ne_is Greater = refl

-- the six comparisons
abbrev pub order_test : BinaryOp → Ordering → Bool
order_test binary.Equal o = is_eq o
order_test binary.NotEqual o = is_ne o
order_test binary.Less o = is_lt o
order_test binary.LessEqual o = is_le o
order_test binary.Greater o = is_gt o
order_test op o = is_ge o

pub order_of_number : (o : Ordering) → int_cmp (order_number o) (pos 0) ≡ o
order_of_number Less = refl
order_of_number Equal = refl
order_of_number Greater = refl
