use Rattle.std.proofs.Common.{pos, get_or, subst, sym, ap, ◌∙◌, FitsSigned, w64, rules}
use Rattle.section_algebra.specs.Section.{Progression, IsProgression, progression_at}
use Rattle.section_algebra.proofs.Sections.{field_is, field_read}
use Rattle.section_algebra.proofs.section.Section.triplet_at.Goals as goal

pub new-requires-clause-progression : goal.new-requires-clause-progression
new-requires-clause-progression g c =
    let wide : FitsSigned w64 (get_or c.self.inside.count c.args.dim (pos 0)) = search rules in
    let P : Progression → Type 0 = IsProgression in
    subst P (sym (field_read g.row.R c.args.dim c.self.inside.start c.self.inside.stride c.self.inside.count c.self.invariant
    c.requires wide))
    (field_is g.row.R c.args.dim c.self.inside.start c.self.inside.stride c.self.inside.count c.self.invariant c.requires)

pub returns : goal.returns
returns g c =
    let wide : FitsSigned w64 (get_or c.self.inside.count c.args.dim (pos 0)) = search rules in
    c.new.ensures ∙ field_read g.row.R c.args.dim c.self.inside.start c.self.inside.stride c.self.inside.count c.self.invariant
    c.requires wide ∙ ap (λ s. progression_at s c.args.dim) c.self.view_is
