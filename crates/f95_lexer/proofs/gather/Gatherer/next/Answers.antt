use Rattle.f95_lexer.specs.Statements.{reading}
use Rattle.f95_lexer.proofs.Gathering.{one_read, one_broken, shorter}
use Rattle.f95_lexer.proofs.gather.Gatherer.next.Goals as goal

pub returns : goal.returns
returns c =
    let before = c.args.self.now in
    let first = c.args.first in
    let more = c.args.more.now in
    let behind = c.behind.result.now in
    let found = c.in_ok-found.found in
    let taken = c.in_ok-take.ensures in
    let start = reading before.list.items before.line before.tokens in
    record {
      read = one_read start _ first more behind found c.in_ok-found.ensures taken.read c.behind.ensures;
      breaks = one_broken before.breaks.items _ first more behind found c.in_ok-found.ensures taken.breaks c.behind.ensures;
      shorter = shorter more behind found.further c.behind.ensures;
    }
