use Rattle.std.proofs.Common.{◌≡◌, ◌++◌, drop}
use Rattle.f95a_core.specs.Lowered.{IsSameBody, addends_code, addends_atom, sum_code, sum_atom}
use Rattle.f95a_core.proofs.lower.sum_code.Given as goal

abbrev pub invariant-loop-addend : goal.invariant-loop-addend
invariant-loop-addend l = record {
  body : IsSameBody l.fn.code l.code;
  rows : l.code.statements ++ addends_code l.left (drop l.addend-index l.addend-items) ≡ l.fn.code.statements ++ sum_code l.sum;
  atom : addends_atom l.left (drop l.addend-index l.addend-items) ≡ sum_atom l.sum;
}
