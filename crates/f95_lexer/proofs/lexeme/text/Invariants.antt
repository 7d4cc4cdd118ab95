use Rattle.std.proofs.Common.{◌≡◌, ◌++◌, ◌+◌, false, length}
use Rattle.f95_lexer.specs.Lexeme.{bytes_of, literal}
use Rattle.f95_lexer.proofs.lexeme.text.Given as goal

abbrev pub invariant-loop-rest : goal.invariant-loop-rest
invariant-loop-rest l =
    let left = literal l.fn.delimiter l.behind (bytes_of l.rest) in
    let all = literal l.fn.delimiter false (bytes_of l.fn.rest) in
    record {
      bytes : l.bytes ++ left.bytes ≡ all.bytes;
      taken : l.further + left.taken ≡ all.taken;
      closed : left.closed ≡ all.closed;
      within : l.further + length l.rest ≡ length l.fn.rest;
    }

abbrev pub decreases-loop-rest : goal.decreases-loop-rest
decreases-loop-rest l = length l.rest
