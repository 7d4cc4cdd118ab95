use Rattle.std.proofs.Common.{◌≡◌, ◌+◌, suc, [], ◌∷◌, ◌++◌, drop, drop-cons, sym, ap, subst, ◌∙◌, arith, rules}
use Rattle.std.specs.Prelude.{option_map, Some, get_or, List}
use Rattle.names_types.specs.Constants.{Placed, argument_place, placed_from}
use Rattle.constant_operators.specs.declared.value.Argument.{Argument}
use Rattle.constant_values.proofs.ArgumentLists.{placed_more}
use Rattle.constant_values.proofs.arguments.placed.Goals as goal

pub loop-argument-preserved : goal.loop-argument-preserved
loop-argument-preserved c =
    let i = c.loop-argument.argument-index in
    let items = c.args.arguments.now in
    let item = c.argument-item.result in
    let is : item ≡ get_or items i item = c.argument-item.is in
    let here : drop i items ≡ get_or items i item ∷ drop (suc i) items = drop-cons items i item (omega arith) in
    let next : suc i ≡ i + 1 = omega arith in
    let at : argument_place c.args.which c.loop-argument.next item.keyword ≡ Some c.in-Some.place = search rules in
    let split : drop i items ≡ item ∷ drop (i + 1) items =
    here ∙ (ap (λ (a : Argument). a ∷ drop (suc i) items) (sym is) ∙ ap (λ n. item ∷ drop n items) next) in
    let before : option_map (λ ys. c.loop-argument.made.items ++ ys)
    (placed_from c.args.which c.loop-argument.next (item ∷ drop (i + 1) items))
    ≡ placed_from c.args.which 0 items =
    subst (λ (rest : List Argument). option_map (λ ys. c.loop-argument.made.items ++ ys)
    (placed_from c.args.which c.loop-argument.next rest) ≡ placed_from c.args.which 0 items)
    split c.loop-argument.invariant.same in
    let made : c.push.new.self.items ≡ c.loop-argument.made.items ++ (c.in-Some.place, item) ∷ [] =
    c.in_ok-push.ensures.items ∙ ap (λ (a : Argument). c.loop-argument.made.items ++ (c.in-Some.place, a) ∷ [])
    c.in_ok-copy_argument.ensures in
    record {
      counted = omega (arith, c.loop-argument.invariant.counted);
      same = subst
          (λ (ps : List Placed). option_map (λ ys. ps ++ ys)
          (placed_from c.args.which (c.loop-argument.next + 1) (drop (i + 1) items)) ≡ placed_from c.args.which 0 items)
          (sym made)
          (placed_more c.args.which c.loop-argument.next c.in-Some.place item c.loop-argument.made.items (drop (i + 1) items)
          (placed_from c.args.which 0 items) at before);
    }
