use Rattle.std.proofs.Common.{◌≡◌, get_or, take, drop, length, ◌-◌, true, sym, ap, ◌∙◌, arith, rules}
use Rattle.std.specs.List.{list_all}
use Rattle.std.specs.Option.{is_some}
use Rattle.constant_operators.specs.declared.value.Argument.{Argument}
use Rattle.constant_values.proofs.ArgumentLists.{keywords_behind_first}
use Rattle.constant_values.proofs.arguments.keywords_last.Goals as goal

pub returns-then-is_some : goal.returns-then-is_some
returns-then-is_some c =
    let rest = c.looking.rest.now in
    let item = c.argument-item.result in
    let is : item ≡ get_or rest 0 item = c.argument-item.is in
    let keyed : is_some item.keyword ≡ true = search rules in
    let all : c.all_have_keywords.result ≡ list_all (λ (b : Argument). is_some b.keyword) (take (length rest - 1) (drop 1 rest)) =
    c.all_have_keywords.ensures in
    all ∙ (keywords_behind_first rest item (omega arith) (ap (λ (a : Argument). is_some a.keyword) (sym is) ∙ keyed)
    ∙ c.looking.invariant)
