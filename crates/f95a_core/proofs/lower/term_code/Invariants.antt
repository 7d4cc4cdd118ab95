use Rattle.std.proofs.Common.{◌≡◌, ◌++◌, drop}
use Rattle.f95a_core.specs.Lowered.{IsSameBody, product_code, product_atom, term_code, term_atom}
use Rattle.f95a_core.proofs.lower.term_code.Given as goal

abbrev pub invariant-loop-factor : goal.invariant-loop-factor
invariant-loop-factor l = record {
  body : IsSameBody l.fn.code l.code;
  rows : l.code.statements ++ product_code l.number l.left (drop l.factor-index l.factor-items) ≡ l.fn.code.statements
      ++ term_code l.number l.term;
  atom : product_atom l.number l.left (drop l.factor-index l.factor-items) ≡ term_atom l.number l.term;
}
