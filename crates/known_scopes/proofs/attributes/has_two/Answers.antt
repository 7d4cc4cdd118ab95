use Rattle.std.proofs.Common.{◌≡◌, ◌∷◌, ◌+◌, Bool, false, suc, drop, drop-cons, map, sym, ap, ◌∙◌, arith}
use Rattle.f95_tree.specs.declared.declaration.Attribute.{Attribute}
use Rattle.names_types.specs.View.{attribute_of}
use Rattle.known_scopes.specs.Sorts.{is_of_sort}
use Rattle.known_scopes.proofs.Lists.{second, second_step, second_skip}
use Rattle.known_scopes.proofs.attributes.has_two.Goals as goal
use Rattle.known_scopes.proofs.attributes.has_two.Goals.{then-is_of_sort+else-seen, else-is_of_sort}

pub loop-attribute-preserved : goal.loop-attribute-preserved
loop-attribute-preserved c =
    let i = c.loop-attribute.attribute-index in
    let all = c.args.attributes.now in
    let one = c.attribute-item.result in
    let test = is_of_sort c.args.which in
    let rest = drop (i + 1) all in
    let next : suc i ≡ i + 1 = omega arith in
    let split : drop i all ≡ one ∷ rest =
    drop-cons all i one (omega arith) ∙ (ap (λ (b : Attribute). b ∷ drop (suc i) all) (sym c.attribute-item.is)
    ∙ ap (λ n. one ∷ drop n all) next) in
    let whole : Bool = second false test (map attribute_of all) in
    let before : second c.loop-attribute.seen test (attribute_of one ∷ map attribute_of rest) ≡ whole =
    ap (λ xs. second c.loop-attribute.seen test (map attribute_of xs)) (sym split) ∙ c.loop-attribute.invariant in
    elim c.if-is_of_sort.branch [
      | then-is_of_sort+else-seen w ↦
          second_step c.loop-attribute.seen c.if-is_of_sort.seen test (attribute_of one) (map attribute_of rest) whole before
          (sym c.is_of_sort.ensures ∙ w.if-is_of_sort.true) w.if-seen.false w.seen-is
      | else-is_of_sort w ↦
          second_skip c.loop-attribute.seen c.if-is_of_sort.seen test (attribute_of one) (map attribute_of rest) whole before
          (sym c.is_of_sort.ensures ∙ w.if-is_of_sort.false) w.seen-is
    ]
