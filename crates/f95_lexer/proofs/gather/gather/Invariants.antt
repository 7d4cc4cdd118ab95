use Rattle.std.proofs.Common.{◌≡◌, ◌++◌, [], length}
use Rattle.f95_lexer.specs.Statements.{reading, read_on, items_of, token_breaks, lexemes_behind}
use Rattle.f95_lexer.proofs.gather.gather.Given as goal

abbrev pub invariant-loop-rest : goal.invariant-loop-rest
invariant-loop-rest l = record {
  read : read_on (reading l.gatherer.list.items l.gatherer.line l.gatherer.tokens) (items_of (lexemes_behind 0 l.rest))
      ≡ read_on (reading [] 0 []) (items_of (lexemes_behind 0 l.text));
  breaks : l.gatherer.breaks.items ++ token_breaks (lexemes_behind 0 l.rest)
      ≡ l.fn.breaks.items ++ token_breaks (lexemes_behind 0 l.text);
}

abbrev pub decreases-loop-rest : goal.decreases-loop-rest
decreases-loop-rest l = length l.rest
