use Rattle.std.proofs.Common.{◌≡◌, drop}
use Rattle.a95_base.specs.Text.{compare_padded}
use Rattle.a95_base.proofs.text.compare_padded.Given as goal

abbrev pub invariant-loop-i : goal.invariant-loop-i
invariant-loop-i l = compare_padded (drop l.i l.a) (drop l.i l.b) ≡ compare_padded l.a l.b
