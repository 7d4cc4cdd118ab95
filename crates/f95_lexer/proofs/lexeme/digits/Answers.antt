use Rattle.std.proofs.Common.{rules, ◌-◌, arith}
use Rattle.a95_base.specs.Input.{is_digit}
use Rattle.f95_lexer.specs.Lexeme.{bytes_of, front}
use Rattle.f95_lexer.proofs.Capped.{ended, none_left}
use Rattle.f95_lexer.proofs.lexeme.digits.Goals as goal
use Rattle.f95_lexer.proofs.lexeme.digits.Goals.{in_default, in-len1-up+then-not-is_digit}

pub returns-clause-value : goal.returns-clause-value
returns-clause-value c =
    elim c.if-rest-lt1.branch [
      | in_default w ↦ ended c.loop-rest.value (c.args.first - 48) (front is_digit (bytes_of c.loop-rest.rest.now))
          (front is_digit (bytes_of c.args.rest.now)) (none_left c.loop-rest.rest.now (omega arith)) c.loop-rest.invariant.value
      | in-len1-up+then-not-is_digit w ↦ ended c.loop-rest.value (c.args.first - 48)
          (front is_digit (bytes_of c.loop-rest.rest.now)) (front is_digit (bytes_of c.args.rest.now))
          (search rules) c.loop-rest.invariant.value
    ]
