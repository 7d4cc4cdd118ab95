use Rattle.std.proofs.Common.{pos, get_or, FitsSigned, w64, rules, arith}
use Rattle.std.proofs.lemmas.Int.{to_z-of_z}
use Rattle.std.proofs.lemmas.Bool.{iff_false}
use Rattle.section_algebra.proofs.Loops.{goes_on, stops, never, always}
use Rattle.section_algebra.proofs.Bounds.{within_next, some_at, all_within}
use Rattle.section_algebra.proofs.section.Section.each_within.Goals as goal

pub loop-dim-init : goal.loop-dim-init
loop-dim-init g c = (λ a. a, λ a. a)

pub is_within-requires : goal.is_within-requires
is_within-requires g c =
    some_at c.args.self.now c.loop-dim.dim _ _ c.requires.some (omega (arith, c.known.ensures.section.long))
    c.triplet_at-triplet.ensures

pub loop-dim-preserved : goal.loop-dim-preserved
loop-dim-preserved g c =
    let lower_wide : FitsSigned w64 (get_or c.args.lower.now c.loop-dim.dim (pos 0)) = search rules in
    let upper_wide : FitsSigned w64 (get_or c.args.upper.now c.loop-dim.dim (pos 0)) = search rules in
    goes_on _ _ _ _ c.loop-dim.invariant
    (within_next c.args.lower.now c.args.upper.now c.args.self.now c.loop-dim.dim _ _ (pos 0) (pos 0) _ _ (omega arith)
    (omega arith) (omega (arith, c.known.ensures.section.long)) (to_z-of_z w64 _ lower_wide) (to_z-of_z w64 _ upper_wide)
    c.triplet_at-triplet.ensures)
    (c.is_within.ensures.0 c.if-not-is_within.false)

pub returns-then-not-is_within : goal.returns-then-not-is_within
returns-then-not-is_within g c =
    let lower_wide : FitsSigned w64 (get_or c.args.lower.now c.loop-dim.dim (pos 0)) = search rules in
    let upper_wide : FitsSigned w64 (get_or c.args.upper.now c.loop-dim.dim (pos 0)) = search rules in
    never _
    (stops _ _ _ _ c.loop-dim.invariant
    (within_next c.args.lower.now c.args.upper.now c.args.self.now c.loop-dim.dim _ _ (pos 0) (pos 0) _ _ (omega arith)
    (omega arith) (omega (arith, c.known.ensures.section.long)) (to_z-of_z w64 _ lower_wide) (to_z-of_z w64 _ upper_wide)
    c.triplet_at-triplet.ensures)
    (iff_false c.is_within.ensures c.if-not-is_within.true))

pub returns : goal.returns
returns g c =
    always _ (c.loop-dim.invariant.1 (all_within c.args.lower.now c.args.upper.now c.args.self.now c.loop-dim.dim (omega arith)
    (omega arith) (omega (arith, c.known.ensures.section.long))))
