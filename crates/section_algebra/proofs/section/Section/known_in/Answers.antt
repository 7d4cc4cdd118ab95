use Rattle.section_algebra.proofs.Sections.{numbers_below, numbers_once}
use Rattle.section_algebra.proofs.section.Section.known_in.Goals as goal

pub returns-clause-below : goal.returns-clause-below
returns-clause-below g c = numbers_below g.row.R c.args.whole.now c.args.self.now c.requires

pub returns-clause-once : goal.returns-clause-once
returns-clause-once g c = numbers_once g.row.R c.args.whole.now c.args.self.now c.known.ensures.section.each c.requires
