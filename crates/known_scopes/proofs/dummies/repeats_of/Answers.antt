use Rattle.std.proofs.Common.{◌≡◌, ◌∷◌, [], ◌++◌, ◌+◌, List, suc, drop, drop-cons, sym, ap, subst, ◌∙◌, arith, rules}
use Rattle.std.specs.Prelude.{nat_eq}
use Rattle.std.specs.List.{list_any}
use Rattle.std.specs.Cmp.Lexicographic.{pointwise}
use Rattle.f95_tree.specs.Forms.{Word}
use Rattle.names_types.specs.Scopes.{is_among}
use Rattle.known_scopes.specs.Asked.{repeats_from, repeats_of}
use Rattle.known_scopes.proofs.Lists.{repeats_taken, repeats_left}
use Rattle.known_scopes.proofs.dummies.repeats_of.Goals as goal
use Rattle.known_scopes.proofs.dummies.repeats_of.Goals.{then-contains+in_ok-push, else-contains}

pub loop-word-preserved : goal.loop-word-preserved
loop-word-preserved c =
    let i = c.loop-word.word-index in
    let all = c.args.words.now in
    let one = c.word-item.result in
    let before = c.loop-word.before in
    let repeats = c.loop-word.repeats in
    let rest = drop (i + 1) all in
    let whole = repeats_of all in
    let next : suc i ≡ i + 1 = omega arith in
    let split : drop i all ≡ one ∷ rest =
    drop-cons all i one (omega arith) ∙ (ap (λ (b : Word). b ∷ drop (suc i) all) (sym c.word-item.is)
    ∙ ap (λ n. one ∷ drop n all) next) in
    let left : repeats ++ repeats_from before (one ∷ rest) ≡ whole =
    ap (λ xs. repeats ++ repeats_from before xs) (sym split) ∙ c.loop-word.invariant in
    let made : c.push-in-loop-word.new.self ≡ before ++ one ∷ [] = search rules in
    let held : is_among before one ≡ c.contains.result =
    ap (λ w. list_any (pointwise nat_eq w) before) (sym c.as_slice.ensures) ∙ sym c.contains.ensures in
    elim c.if-contains.branch [
      | then-contains+in_ok-push w ↦
          let more : c.if-contains.repeats ≡ repeats ++ one ∷ [] = search rules in
          ap (λ bs. c.if-contains.repeats ++ repeats_from bs rest) made
          ∙ (ap (λ rs. rs ++ repeats_from (before ++ one ∷ []) rest) more
          ∙ repeats_taken before repeats rest whole one (held ∙ w.if-contains.true) left)
      | else-contains w ↦
          let same : c.if-contains.repeats ≡ repeats = search rules in
          ap (λ bs. c.if-contains.repeats ++ repeats_from bs rest) made
          ∙ (ap (λ rs. rs ++ repeats_from (before ++ one ∷ []) rest) same
          ∙ repeats_left before repeats rest whole one (held ∙ w.if-contains.false) left)
    ]
