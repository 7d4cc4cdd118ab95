use Rattle.std.proofs.Common.{arith, rules}
use Rattle.std.proofs.lemmas.Bool.{iff_false}
use Rattle.section_algebra.specs.Section.{IsWithin}
use Rattle.section_algebra.proofs.Loops.{always, and_so}
use Rattle.section_algebra.proofs.Bounds.{no_places, all_some, within_is}
use Rattle.section_algebra.proofs.section.Section.within.Goals as goal

pub returns-then-is_empty : goal.returns-then-is_empty
returns-then-is_empty g c =
    always _ (no_places c.args.self.now (c.is_empty.ensures.0 c.if-is_empty.true) (IsWithin c.args.lower.now c.args.upper.now))

pub each_within-requires : goal.each_within-requires
each_within-requires g c = (search rules, (search rules, iff_false c.is_empty.ensures c.if-is_empty.false))

pub returns : goal.returns
returns g c =
    and_so _ _ _ c.each_within.ensures
    (within_is c.args.lower.now c.args.upper.now c.args.self.now (omega (arith, c.known.ensures.section.long))
    (omega (arith, c.known.ensures.section.long)) (all_some c.args.self.now (iff_false c.is_empty.ensures c.if-is_empty.false)))
