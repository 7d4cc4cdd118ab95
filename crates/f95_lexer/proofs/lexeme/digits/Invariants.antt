use Rattle.std.proofs.Common.{◌≡◌, ◌≤◌, ◌+◌, ◌-◌, length}
use Rattle.a95_base.specs.Input.{is_digit}
use Rattle.f95_lexer.specs.Lexeme.{bytes_of, front, behind_front}
use Rattle.f95_lexer.proofs.Capped.{capped_from}
use Rattle.f95_lexer.proofs.lexeme.digits.Given as goal

abbrev pub invariant-loop-rest : goal.invariant-loop-rest
invariant-loop-rest l = record {
  small : l.value ≤ 2147483648;
  value : capped_from l.value (front is_digit (bytes_of l.rest))
      ≡ capped_from (l.fn.first - 48) (front is_digit (bytes_of l.fn.rest));
  count : l.further + length (front is_digit (bytes_of l.rest)) ≡ length (front is_digit (bytes_of l.fn.rest));
  within : l.further + length l.rest ≡ length l.fn.rest;
  behind : behind_front is_digit (bytes_of l.rest) ≡ behind_front is_digit (bytes_of l.fn.rest);
}

abbrev pub decreases-loop-rest : goal.decreases-loop-rest
decreases-loop-rest l = length l.rest
