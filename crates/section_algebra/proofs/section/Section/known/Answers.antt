use Rattle.std.proofs.Common.{subst}
use Rattle.std.specs.Prelude.{List, ◌≢◌}
use Rattle.a95_base.specs.Lists.{Pairwise}
use Rattle.section_algebra.specs.Section.{Progression, IsSection, places_of}
use Rattle.section_algebra.proofs.Places.{length-places_of}
use Rattle.section_algebra.proofs.Sections.{places_are_once}
use Rattle.section_algebra.proofs.section.Section.known.Goals as goal

pub returns-clause-section : goal.returns-clause-section
returns-clause-section g c =
    let P : List Progression → Type 0 = IsSection g.row.R in subst P c.self.view_is c.self.invariant.section

pub returns-clause-once : goal.returns-clause-once
returns-clause-once g c =
    let P : List Progression → Type 0 = λ s. Pairwise (λ place later. place ≢ later) (places_of s) in
    subst P c.self.view_is (places_are_once _ c.self.invariant.section.each)

pub returns-clause-size : goal.returns-clause-size
returns-clause-size g c = length-places_of c.args.self.now
