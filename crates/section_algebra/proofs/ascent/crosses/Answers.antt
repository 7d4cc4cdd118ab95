use Rattle.std.proofs.Common.{arith}
use Rattle.section_algebra.proofs.Loops.{never}
use Rattle.section_algebra.proofs.Crossings.{first_crossing}
use Rattle.section_algebra.proofs.ascent.crosses.Goals as goal

pub returns : goal.returns
returns c =
    never _
    (λ x.
    let tried =
    first_crossing c.args.ascent.now.first c.args.ascent.now.step c.args.ascent.now.count c.args.other.now.first
    c.args.other.now.step c.args.other.now.count c.turns_before-skipped.result
    c.requires.other.rises c.turns_before-skipped.ensures.reached c.turns_before-skipped.ensures.least x in
    c.loop-turn.invariant tried.0 tried.1.0 (omega (arith, tried.1.1.0, c.min-end.ensures, c.loop-turn-test.false)) tried.1.1.1)
