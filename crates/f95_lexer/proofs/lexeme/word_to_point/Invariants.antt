use Rattle.std.proofs.Common.{◌≡◌, ◌++◌, length, map}
use Rattle.f95_lexer.specs.Lexeme.{bytes_of, front, behind_front}
use Rattle.f95_lexer.specs.Characters.{is_letter, lower}
use Rattle.f95_lexer.proofs.lexeme.word_to_point.Given as goal

abbrev pub invariant-loop-rest : goal.invariant-loop-rest
invariant-loop-rest l = record {
  letters : l.word ++ map lower (front is_letter (bytes_of l.rest)) ≡ map lower (front is_letter (bytes_of l.fn.rest));
  behind : behind_front is_letter (bytes_of l.rest) ≡ behind_front is_letter (bytes_of l.fn.rest);
}

abbrev pub decreases-loop-rest : goal.decreases-loop-rest
decreases-loop-rest l = length l.rest
