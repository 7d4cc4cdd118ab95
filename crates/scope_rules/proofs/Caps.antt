-- Products, as far as one more than the most counts.
use Rattle.std.proofs.Common.{◌≡◌, ◌≤◌, ◌<◌, ℕ, zero, suc, ◌+◌, ◌*◌, ◌^◌, Bool, false, nat_lt, Option, Some, None, refl, sym, ap, ◌∙◌}
use Rattle.std.proofs.Common.{⊎_elim, subst, arith}
use Rattle.std.specs.Prelude.{min, option_map}
use Rattle.std.proofs.Math.Nat.{min-eq_left, min-eq_right, min-le_right, mul-le-mul_left, mul-suc, mul-zero, mul_assoc, mul_comm, mul-one, one-mul}
use Rattle.std.proofs.lemmas.Bool.{cases_lt}
use Rattle.std.proofs.lemmas.Bool.Decides.{nat_tests}
use Rattle.a95_base.specs.Limits.{most_elements}
use Rattle.names_types.specs.Rules.{times, is_too_large}
use Rattle.scope_rules.specs.Sizes.{capped, capped_size}

least_multiple : (L x k : ℕ) → L ≤ x → L ≤ x * suc k
least_multiple L x k h = let e : x * suc k ≡ x * k + x = mul-suc x k in omega (arith, e, h)

cut_left : (L x y : ℕ) → min (min x L * y) L ≡ min (x * y) L
cut_left L x y = ⊎_elim
    (λ (h : x < L). ap (λ z. min (z * y) L) (min-eq_left (omega (arith, h))))
    (λ (h : L ≤ x). ap (λ z. min (z * y) L) (min-eq_right h) ∙ by y h)
    (cases_lt x L)
  where
    by : (y : ℕ) → L ≤ x → min (L * y) L ≡ min (x * y) L
    by zero h = ap (λ z. min z L) (mul-zero L ∙ sym (mul-zero x))
    by (suc k) h = min-eq_right (least_multiple L L k (omega arith)) ∙ sym (min-eq_right (least_multiple L x k h))

pub capped_product : (x y : ℕ) → capped (capped x * capped y) ≡ capped (x * y)
capped_product x y =
    cut_left (most_elements + 1) x (capped y) ∙ (ap (λ z. capped z) (mul_comm x (capped y))
    ∙ (cut_left (most_elements + 1) y x ∙ ap (λ z. capped z) (mul_comm y x)))

pub product_fits : (x y m n : ℕ) → m ≡ capped x → n ≡ capped y → m * n < 2 ^ 64
product_fits x y m n e f =
    let L = most_elements + 1 in
    let m_fits : m ≤ L = subst (λ z. z ≤ L) (sym e) (min-le_right x L) in
    let n_fits : n ≤ L = subst (λ z. z ≤ L) (sym f) (min-le_right y L) in
    let first : m * n ≤ m * L = mul-le-mul_left m n_fits in
    let swapped : m * L ≡ L * m = mul_comm m L in
    let second : L * m ≤ L * L = mul-le-mul_left L m_fits in
    omega (arith, first, swapped, second)

-- the product of what is known and what is left, as far as it counts
pub record Product (known : ℕ) (left whole : Option ℕ) : Type 0 where
  pub same : capped_size (times (Some known) left) ≡ capped_size whole

pub product_start : (whole : Option ℕ) → Product 1 whole whole
product_start None = record { same = refl }
product_start (Some n) = record { same = ap (λ k. Some (capped k)) (one-mul n) }

pub product_step : (known extent next : ℕ) (left whole : Option ℕ) → Product known (times (Some extent) left) whole
    → next ≡ capped (known * extent) → Product next left whole
product_step known extent next None whole p e = record { same = p.same }
product_step known extent next (Some n) whole p e = record {
  same = ap (λ k. Some (capped (k * n))) e
      ∙ (ap (λ k. Some k) (cut_left (most_elements + 1) (known * extent) n ∙ ap (λ k. capped k) (mul_assoc known extent n))
      ∙ p.same);
}

pub product_end : (known : ℕ) (whole : Option ℕ) → Product known (Some 1) whole → Some (capped known) ≡ capped_size whole
product_end known whole p = ap (λ k. Some (capped k)) (sym (mul-one known)) ∙ p.same

pub product_none : (known : ℕ) (left whole : Option ℕ) → Product known (times None left) whole → None ≡ capped_size whole
product_none known left whole p = p.same

pub capped_too_large : (n : Option ℕ) → is_too_large (capped_size n) ≡ is_too_large n
capped_too_large None = refl
capped_too_large (Some n) = ⊎_elim
    (λ (h : n < most_elements + 1). ap (λ k. nat_lt most_elements k) (min-eq_left (omega (arith, h))))
    (λ (h : most_elements + 1 ≤ n). ap (λ k. nat_lt most_elements k) (min-eq_right h) ∙ large h)
    (cases_lt n (most_elements + 1))
  where
    large : most_elements + 1 ≤ n → nat_lt most_elements (most_elements + 1) ≡ nat_lt most_elements n
    large h = grind (arith, nat_tests, h)
