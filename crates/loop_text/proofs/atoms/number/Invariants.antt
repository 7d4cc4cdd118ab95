use Rattle.std.proofs.Common.{◌≡◌, drop}
use Rattle.loop_text.specs.Guess.{number_onto, number_on}
use Rattle.loop_text.proofs.atoms.number.Given as goal

abbrev pub invariant-loop-place : goal.invariant-loop-place
invariant-loop-place l = number_onto l.n (drop l.place l.bytes) ≡ number_on l.bytes
