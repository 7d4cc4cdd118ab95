use Rattle.std.proofs.Common.{pos, replicate, map}
use Rattle.std.proofs.lemmas.Bool.{iff_false}
use Rattle.section_algebra.proofs.Loops.{always, and_so}
use Rattle.section_algebra.proofs.Bounds.{all_some, within_is}
use Rattle.section_algebra.proofs.Contiguous.{from_one_is, runs_are_consecutive, no_numbers, ones_long, extents_long}
use Rattle.section_algebra.proofs.section.Section.is_contiguous.Goals as goal

pub returns-then-is_empty : goal.returns-then-is_empty
returns-then-is_empty g c = always _ (no_numbers c.args.whole.now c.args.self.now (c.is_empty.ensures.0 c.if-is_empty.true))

pub returns : goal.returns
returns g c =
    let some = all_some c.args.self.now (iff_false c.is_empty.ensures c.if-is_empty.false) in
    and_so _ _ _ c.runs_on.ensures
    (runs_are_consecutive c.args.whole.now c.args.self.now
    (from_one_is g.row.R c.args.whole.now c.args.self.now
    ((within_is (replicate g.row.R (pos 1)) (map pos c.args.whole.now) c.args.self.now
    (ones_long g.row.R c.args.self.now c.known.ensures.section.long)
    (extents_long g.row.R c.args.whole.now c.args.self.now c.known-2.ensures.long c.known.ensures.section.long) some).1
    c.requires)) some)
