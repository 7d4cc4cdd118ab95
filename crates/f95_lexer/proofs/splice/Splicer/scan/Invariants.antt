use Rattle.std.proofs.Common.{◌≡◌, length}
use Rattle.f95_lexer.specs.Splicing.{scan, behind}
use Rattle.f95_lexer.proofs.splice.Splicer.scan.Given as goal

abbrev pub invariant-loop-rest : goal.invariant-loop-rest
invariant-loop-rest l =
    behind l.fn.self.text.items l.fn.self.breaks.items (scan l.fn.inside l.line l.fn.left l.text)
    ≡ behind l.self.text.items l.self.breaks.items (scan l.inside l.line l.left l.rest)

abbrev pub decreases-loop-rest : goal.decreases-loop-rest
decreases-loop-rest l = length l.rest
