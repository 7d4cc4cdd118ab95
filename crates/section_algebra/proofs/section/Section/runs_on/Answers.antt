use Rattle.std.proofs.Common.{FitsSigned, w64, rules, arith}
use Rattle.std.proofs.lemmas.Int.{to_z-of_z}
use Rattle.std.proofs.lemmas.Bool.{iff_false}
use Rattle.section_algebra.proofs.Loops.{goes_on, never, always}
use Rattle.section_algebra.proofs.Contiguous.{runs_next, goes_moved, all_run}
use Rattle.section_algebra.proofs.section.Section.runs_on.Goals as goal

pub loop-dim-init : goal.loop-dim-init
loop-dim-init g c = (λ a. a, λ a. a)

pub loop-dim-preserved : goal.loop-dim-preserved
loop-dim-preserved g c =
    let count_wide : FitsSigned w64 c.count.result = search rules in
    let extent_wide : FitsSigned w64 c.extent.result = search rules in
    let next_is = simp to_z-of_z at c.covers-full.ensures in
    goes_on _ _ _ _ c.loop-dim.invariant
    (runs_next c.loop-dim.full _ c.args.self.now c.args.whole.now c.loop-dim.dim _ _ _ _
    (omega (arith, c.known.ensures.section.long)) (omega (arith, c.known-2.ensures.long)) c.triplet_at-triplet.ensures
    c.count.ensures c.extent.ensures next_is)
    (c.goes_on.ensures.0 c.if-not-goes_on.false)

pub returns-then-not-goes_on : goal.returns-then-not-goes_on
returns-then-not-goes_on g c =
    never _
    (λ r.
    iff_false c.goes_on.ensures c.if-not-goes_on.true
    (goes_moved c.loop-dim.full c.args.self.now c.args.whole.now c.loop-dim.dim _ _
    (omega (arith, c.known.ensures.section.long)) (omega (arith, c.known-2.ensures.long)) c.triplet_at-triplet.ensures
    (c.loop-dim.invariant.0 r)))

pub returns : goal.returns
returns g c =
    always _ (c.loop-dim.invariant.1 (all_run c.loop-dim.full c.args.self.now c.args.whole.now c.loop-dim.dim
    (omega (arith, c.known.ensures.section.long)) (omega (arith, c.known-2.ensures.long))))
