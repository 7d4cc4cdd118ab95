use Rattle.std.proofs.Common.{◌≡◌, [], drop}
use Rattle.a95_base.specs.Text.{compare_padded}
use Rattle.a95_base.proofs.text.against_blanks.Given as goal

abbrev pub invariant-loop-byte : goal.invariant-loop-byte
invariant-loop-byte l = compare_padded (drop l.byte-index l.text) [] ≡ compare_padded l.text []
