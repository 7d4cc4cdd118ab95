use Rattle.std.proofs.Common.{◌≡◌, ◌++◌, drop, ◌∷◌, false}
use Rattle.std.specs.Prelude.{map}
use Rattle.f95a_core.specs.Lowered.{show, extent_of, at_line}
use Rattle.f95a_core.proofs.lower.printing.Given as goal

abbrev pub invariant-loop-place : goal.invariant-loop-place
invariant-loop-place l = record {
  rows : l.code.statements ++ map (λ p. show l.line (extent_of l.arrays p) p) (drop l.place-index l.places)
      ≡ at_line l.line ∷ map (λ p. show l.line (extent_of l.arrays p) p) l.places;
  room : l.code.room ≡ 999;
  outside : l.code.in_loop ≡ false;
}
