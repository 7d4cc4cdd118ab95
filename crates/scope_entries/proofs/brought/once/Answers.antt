use Rattle.std.proofs.Common.{◌≡◌, [], ◌∷◌, ◌++◌, ◌+◌, ◌==◌, ◌&&◌, not, List, suc, get_or, drop, drop-cons, Bool, nat_eq, sym, ap}
use Rattle.std.proofs.Common.{subst, ◌∙◌, arith, rules}
use Rattle.std.specs.Prelude.{if◌then◌else◌}
use Rattle.std.specs.List.{list_any}
use Rattle.std.specs.Cmp.Lexicographic.{pointwise}
use Rattle.names_types.specs.Scopes.{brought_once}
use Rattle.scope_entries.specs.View.{all_brought}
use Rattle.scope_entries.specs.declared.brought.Brought.{Brought}
use Rattle.scope_entries.proofs.Again.{key_of, seen_as, Kept, kept_new, kept_again}
use Rattle.scope_entries.proofs.brought.once.Goals as goal
use Rattle.scope_entries.proofs.brought.once.Goals.{then-is_new+in_ok-push, else-is_new}

pub loop-one-preserved : goal.loop-one-preserved
loop-one-preserved c =
    let i = c.loop-one.one-index in
    let all = c.args.brought.now in
    let one = c.one-item.result in
    let keys = c.loop-one.seen.keys in
    let kept = c.loop-one.kept.items in
    let whole = brought_once [] (all_brought all) in
    let rest = drop (i + 1) all in
    let is : one ≡ get_or all i one = c.one-item.is in
    let next : suc i ≡ i + 1 = omega arith in
    let split : drop i all ≡ one ∷ rest =
    drop-cons all i one (omega arith) ∙ (ap (λ (b : Brought). b ∷ drop (suc i) all) (sym is) ∙ ap (λ n. one ∷ drop n all) next) in
    let before : Kept keys kept (one ∷ rest) whole = subst (λ (bs : List Brought). Kept keys kept bs whole) split
    c.loop-one.invariant in
    let named : c.in_ok-name.name.items ≡ one.share.now.name = search rules in
    let key : seen_as (c.in_ok-name.name, one.share.now.place) ≡ key_of one = ap (λ n. (n, one.share.now.place)) named in
    let made = c.insert_full.new.self.keys in
    elim c.if-is_new.branch [
      | then-is_new+in_ok-push w ↦
          subst (λ (bs : List Brought). Kept made bs rest whole) (sym (ap (λ v. v.items) w.kept-is ∙ w.in_ok-push.ensures.items))
          (kept_new (c.in_ok-name.name, one.share.now.place) keys made one kept rest whole before key
          (sym c.in_ok-is_new.ensures.added ∙ w.if-is_new.true) c.in_ok-is_new.ensures.keys)
      | else-is_new w ↦
          subst (λ (bs : List Brought). Kept made bs rest whole) (sym (ap (λ v. v.items) w.kept-is))
          (kept_again (c.in_ok-name.name, one.share.now.place) keys made one kept rest whole before key
          (sym c.in_ok-is_new.ensures.added ∙ w.if-is_new.false) c.in_ok-is_new.ensures.keys)
    ]
