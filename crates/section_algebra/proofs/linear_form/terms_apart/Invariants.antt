use Rattle.std.proofs.Common.{◌≡◌, ℕ, ℤ, ◌+◌, ◌-◌, ◌≤◌, ◌-ℤ◌, length, take, drop}
use Rattle.a95_base.specs.Integer.{wrapped}
use Rattle.a95_base.specs.Lists.{Every}
use Rattle.section_algebra.specs.Form.{sum_in, IsSum, IsBelow}
use Rattle.section_algebra.proofs.linear_form.terms_apart.Given as goal

abbrev pub invariant-loop-atom : goal.invariant-loop-atom
invariant-loop-atom l = record {
  within_a : l.from_a ≤ length l.a;
  within_b : l.from_b ≤ length l.b;
  sum : IsSum l.terms.items;
  below_a : Every (λ term. IsBelow term.0.0 (drop l.from_a l.a)) l.terms.items;
  below_b : Every (λ term. IsBelow term.0.0 (drop l.from_b l.b)) l.terms.items;
  value : (values : ℕ → ℤ)
      → wrapped (sum_in values l.terms.items) ≡ wrapped
      (sum_in values (take l.from_a l.a) -ℤ sum_in values (take l.from_b l.b));
}

abbrev pub decreases-loop-atom : goal.decreases-loop-atom
decreases-loop-atom l = (length l.a - l.from_a) + (length l.b - l.from_b)
