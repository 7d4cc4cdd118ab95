use Rattle.std.proofs.Common.{◌≡◌, length}
use Rattle.f95_lexer.specs.Characters.{from_blank}
use Rattle.f95_lexer.proofs.splice.from_blank.Given as goal

abbrev pub invariant-loop-text : goal.invariant-loop-text
invariant-loop-text l = from_blank l.text ≡ from_blank l.fn.text

abbrev pub decreases-loop-text : goal.decreases-loop-text
decreases-loop-text l = length l.text
