use Rattle.std.proofs.Common.{◌≡◌, ◌∷◌, ◌++◌, ◌+◌, length, map}
use Rattle.f95_lexer.specs.Lexeme.{bytes_of, front}
use Rattle.f95_lexer.specs.Characters.{is_name, lower}
use Rattle.f95_lexer.proofs.lexeme.word.Given as goal

abbrev pub invariant-loop-rest : goal.invariant-loop-rest
invariant-loop-rest l = record {
  letters : l.word ++ map lower (front is_name (bytes_of l.rest))
      ≡ lower l.fn.first ∷ map lower (front is_name (bytes_of l.fn.rest));
  count : l.further + length (front is_name (bytes_of l.rest)) ≡ length (front is_name (bytes_of l.fn.rest));
  within : l.further + length l.rest ≡ length l.fn.rest;
}

abbrev pub decreases-loop-rest : goal.decreases-loop-rest
decreases-loop-rest l = length l.rest
