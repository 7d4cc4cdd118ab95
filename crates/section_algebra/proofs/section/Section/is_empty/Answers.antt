use Rattle.std.proofs.Common.{◌≡◌, pos, get_or, ◌∙◌, ap, of_z, w64, arith}
use Rattle.std.proofs.lemmas.Int.{ints}
use Rattle.section_algebra.specs.Section.{counts_of}
use Rattle.section_algebra.proofs.Loops.{never, always}
use Rattle.section_algebra.proofs.Sections.{none, one_none, none_later, none_at_the_end, count_at}
use Rattle.section_algebra.proofs.section.Section.is_empty.Goals as goal

pub loop-dim-init : goal.loop-dim-init
loop-dim-init g c = λ none. none

pub returns-then-count-eq0 : goal.returns-then-count-eq0
returns-then-count-eq0 g c =
    let zero : get_or (counts_of c.args.self.now) c.loop-dim.dim 0 ≡ 0 =
    omega (arith, ints, c.count.ensures, c.if-count-eq0.true) in
    always _ (one_none c.args.self.now c.loop-dim.dim (omega (arith, c.known.ensures.section.long)) zero)

pub loop-dim-preserved : goal.loop-dim-preserved
loop-dim-preserved g c = λ empty.
    none_later c.args.self.now c.loop-dim.dim none (omega (arith, c.known.ensures.section.long)) (c.loop-dim.invariant empty)
    (λ e. c.if-count-eq0.false (ap (of_z w64)
    (c.count.ensures ∙ ap pos (count_at c.args.self.now c.loop-dim.dim none (omega (arith, c.known.ensures.section.long)) ∙
    e))))

pub returns : goal.returns
returns g c =
    never _ (λ empty. none_at_the_end c.args.self.now c.loop-dim.dim (omega (arith, c.known.ensures.section.long))
    (c.loop-dim.invariant empty))
