use Rattle.std.proofs.Common.{◌≡◌, sym, ap, ◌∙◌, rules}
use Rattle.std.specs.Prelude.{nat_eq}
use Rattle.std.specs.List.{list_any}
use Rattle.std.specs.Cmp.Lexicographic.{pointwise}
use Rattle.names_types.specs.Scopes.{has_intent}
use Rattle.known_scopes.specs.declared.attributes.AttributeSort.TheVariants as sort
use Rattle.known_scopes.specs.Asked.{has_such, integers_in, names_with}
use Rattle.known_scopes.specs.View.{declared_in}
use Rattle.known_scopes.proofs.Lists.{integer_is, some_is}
use Rattle.known_scopes.proofs.specification.is_first_integer.Goals as goal

pub returns : goal.returns
returns c =
    let name = c.args.name.now in
    let known = c.args.known.now in
    let es = declared_in known.scope in
    let held : known.integers ≡ integers_in es = search rules in
    let word : c.as_slice.result.now ≡ name = search rules in
    c.contains.ensures ∙ (ap (λ w. list_any (pointwise nat_eq w) known.integers) word ∙ integer_is name es known.integers held)
