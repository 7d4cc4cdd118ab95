use Rattle.std.proofs.Common.{◌≡◌, [], drop}
use Rattle.loop_text.specs.Guess.{quoted_onto}
use Rattle.loop_text.proofs.atoms.quoted.Given as goal

abbrev pub invariant-loop-byte : goal.invariant-loop-byte
invariant-loop-byte l = quoted_onto l.done l.left l.value (drop l.byte-index l.bytes) ≡ quoted_onto [] 0 0 l.bytes
