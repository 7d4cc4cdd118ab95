use Rattle.std.proofs.Common.{◌∙◌, sym, ap, arith}
use Rattle.std.proofs.lemmas.List.{nil_from_length}
use Rattle.f95_lexer.specs.Statements.{reading, read_on, items_of, lexemes_behind}
use Rattle.f95_lexer.proofs.Gathering.{ended}
use Rattle.f95_lexer.proofs.gather.gather.Goals as goal

pub returns-clause-list : goal.returns-clause-list
returns-clause-list c =
    let g = c.loop-rest.gatherer in
    let r = reading g.list.items g.line g.tokens in
    c.in_ok-end.ensures.list ∙ ended r (items_of (lexemes_behind 0 c.args.text.now))
    (sym (ap (λ rest. read_on r (items_of (lexemes_behind 0 rest))) (nil_from_length c.loop-rest.rest.now (omega arith)))
    ∙ c.loop-rest.invariant.read)
