use Rattle.std.proofs.Common.{arith}
use Rattle.std.proofs.lemmas.Bool.{iff_false}
use Rattle.section_algebra.proofs.Loops.{goes_on, stops, never, always}
use Rattle.section_algebra.proofs.Meetings.{meet_is, shares_next, all_shared}
use Rattle.section_algebra.proofs.section.Section.meets.Goals as goal

pub loop-dim-init : goal.loop-dim-init
loop-dim-init g c = (λ a. a, λ a. a)

pub loop-dim-preserved : goal.loop-dim-preserved
loop-dim-preserved g c =
    goes_on _ _ _ _ c.loop-dim.invariant
    (shares_next c.args.self.now c.args.other.now c.loop-dim.dim _ _ _ _ (omega (arith, c.known.ensures.section.long))
    (omega (arith, c.known-2.ensures.section.long)) c.triplet_at-triplet.ensures c.triplet_at-other_triplet.ensures)
    (c.shares.ensures.0 c.if-not-shares.false)

pub returns-then-not-shares : goal.returns-then-not-shares
returns-then-not-shares g c =
    never _
    (λ m.
    stops _ _ _ _ c.loop-dim.invariant
    (shares_next c.args.self.now c.args.other.now c.loop-dim.dim _ _ _ _ (omega (arith, c.known.ensures.section.long))
    (omega (arith, c.known-2.ensures.section.long)) c.triplet_at-triplet.ensures c.triplet_at-other_triplet.ensures)
    (iff_false c.shares.ensures c.if-not-shares.true) ((meet_is c.args.self.now c.args.other.now).1 m))

pub returns : goal.returns
returns g c =
    always _
    ((meet_is c.args.self.now c.args.other.now).0
    (c.loop-dim.invariant.1 (all_shared c.args.self.now c.args.other.now c.loop-dim.dim
    (omega (arith, c.known.ensures.section.long)) (omega (arith, c.known-2.ensures.section.long)))))
