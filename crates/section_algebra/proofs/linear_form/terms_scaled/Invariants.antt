use Rattle.std.proofs.Common.{◌≡◌, ℕ, ℤ, ◌*ℤ◌, take, drop}
use Rattle.a95_base.specs.Integer.{wrapped}
use Rattle.a95_base.specs.Lists.{Every}
use Rattle.section_algebra.specs.Form.{sum_in, IsSum, IsBelow}
use Rattle.section_algebra.proofs.linear_form.terms_scaled.Given as goal

abbrev pub invariant-loop-term : goal.invariant-loop-term
invariant-loop-term l = record {
  sum : IsSum l.terms.items;
  below : Every (λ term. IsBelow term.0.0 (drop l.term-index l.a)) l.terms.items;
  value : (values : ℕ → ℤ) → wrapped (sum_in values l.terms.items) ≡ wrapped (l.factor *ℤ sum_in values (take l.term-index l.a));
}
