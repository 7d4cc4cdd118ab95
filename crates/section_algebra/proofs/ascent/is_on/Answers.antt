use Rattle.std.proofs.lemmas.Bool.{ltb-true, lt-ltb}
use Rattle.section_algebra.proofs.Crossings.{on_from, on_whole}
use Rattle.section_algebra.proofs.ascent.is_on.Goals as goal

pub returns-then-gap-ascent-eq0 : goal.returns-then-gap-ascent-eq0
returns-then-gap-ascent-eq0 c = (
  λ fewer. on_from c.args.number c.args.ascent.now.first c.args.ascent.now.step c.args.ascent.now.count c.if-number-ascent.false
      c.if-gap-ascent-eq0.true (ltb-true _ _ fewer),
  λ on. lt-ltb _ _ (on_whole c.args.number c.args.ascent.now.first c.args.ascent.now.step c.args.ascent.now.count c.requires on).1,
)
