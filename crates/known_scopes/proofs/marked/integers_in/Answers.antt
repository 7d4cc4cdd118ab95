use Rattle.std.proofs.Common.{◌≡◌, ◌∷◌, [], ◌++◌, ◌+◌, List, suc, drop, drop-cons, sym, ap, subst, ◌∙◌, arith, rules}
use Rattle.scope_entries.specs.View.{entries_of, entry_of}
use Rattle.scope_entries.specs.declared.entry.Entry.{Entry}
use Rattle.known_scopes.specs.Asked.{integers_from, integers_in}
use Rattle.known_scopes.proofs.Lists.{integers_taken, integers_left}
use Rattle.known_scopes.proofs.marked.integers_in.Goals as goal
use Rattle.known_scopes.proofs.marked.integers_in.Goals.{then-begins_integer+in_ok-push, else-begins_integer}

pub loop-entry-preserved : goal.loop-entry-preserved
loop-entry-preserved c =
    let i = c.loop-entry.entry-index in
    let all = c.args.entries.now in
    let one = c.entry-item.result in
    let before = c.loop-entry.before in
    let names = c.loop-entry.names in
    let rest = entries_of (drop (i + 1) all) in
    let whole = integers_in (entries_of all) in
    let next : suc i ≡ i + 1 = omega arith in
    let split : drop i all ≡ one ∷ drop (i + 1) all =
    drop-cons all i one (omega arith) ∙ (ap (λ (b : Entry). b ∷ drop (suc i) all) (sym c.entry-item.is)
    ∙ ap (λ n. one ∷ drop n all) next) in
    let left : names ++ integers_from before (entry_of one ∷ rest) ≡ whole =
    ap (λ xs. names ++ integers_from before (entries_of xs)) (sym split) ∙ c.loop-entry.invariant in
    let made : c.push-in-loop-entry.new.self ≡ before ++ (entry_of one).name ∷ [] = search rules in
    elim c.if-begins_integer.branch [
      | then-begins_integer+in_ok-push w ↦
          let more : c.if-begins_integer.names ≡ names ++ (entry_of one).name ∷ [] = search rules in
          ap (λ bs. c.if-begins_integer.names ++ integers_from bs rest) made
          ∙ (ap (λ ns. ns ++ integers_from (before ++ (entry_of one).name ∷ []) rest) more
          ∙ integers_taken before names rest whole (entry_of one) (sym c.begins_integer.ensures ∙ w.if-begins_integer.true) left)
      | else-begins_integer w ↦
          let same : c.if-begins_integer.names ≡ names = search rules in
          ap (λ bs. c.if-begins_integer.names ++ integers_from bs rest) made
          ∙ (ap (λ ns. ns ++ integers_from (before ++ (entry_of one).name ∷ []) rest) same
          ∙ integers_left before names rest whole (entry_of one) (sym c.begins_integer.ensures ∙ w.if-begins_integer.false) left)
    ]
