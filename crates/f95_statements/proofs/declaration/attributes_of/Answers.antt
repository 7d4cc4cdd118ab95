use Rattle.std.proofs.Common.{◌≡◌, sym, ◌∙◌, ap, Some}
use Rattle.std.specs.Prelude.{option_map}
use Rattle.f95_tree.specs.declared.declaration.Attribute.{Attribute}
use Rattle.f95_tree.specs.Spelling.{Text}
use Rattle.f95_statements.specs.declared.declaration.Attributed.{Attributed}
use Rattle.f95_statements.specs.Declarations.{next_attribute, attributes_of}
use Rattle.f95_statements.proofs.AttributeSteps.{shorter, attribute_step}
use Rattle.f95_statements.proofs.declaration.attributes_of.Goals as goal

abbrev seen : Attributed → Attribute × Text
seen a = (a.attribute, a.rest.now)

pub gathering-smaller : goal.gathering-smaller
gathering-smaller c =
    shorter c.gathering.rest.now (seen c.in-Some.next) (sym c.in_ok-next.ensures ∙ ap (option_map seen) c.in-Some.is)

pub gathering-preserved : goal.gathering-preserved
gathering-preserved c =
    ap (λ done. attributes_of done c.in-Some.next.rest.now) c.in_ok-push.ensures.ok
    ∙ sym (attribute_step c.gathering.attributes c.gathering.rest.now (seen c.in-Some.next)
    (sym c.in_ok-next.ensures ∙ ap (option_map seen) c.in-Some.is))
    ∙ c.gathering.invariant
