use Rattle.std.proofs.Common.{◌≡◌, ℕ, List, ◌<◌, ◌≤◌, ◌∷◌, ◌∙◌, length, arith, ap, sym, take}
use Rattle.std.specs.List.{flat_map}
use Rattle.std.proofs.lemmas.List.{take_all}
use Rattle.rank_one.specs.declared.form.NamedAddend.{NamedAddend}
use Rattle.rank_one.specs.declared.resolve.Seen.{Seen}
use Rattle.rank_one.specs.Conditions.{names_in_term}
use Rattle.rank_one.specs.Placing.{placed_addend}
use Rattle.rank_one.specs.Resolving.{see_all}
use Rattle.rank_one.proofs.SeenLaws.{map_one_more, see_more, see_append}
use Rattle.rank_one.proofs.resolve.sum.Goals as goal

pub loop-addend-preserved : goal.loop-addend-preserved
loop-addend-preserved c =
    let items = c.as_slice-addend-items.result.now in
    let within : c.loop-addend.addend-index < length items = omega arith in
    record {
      placed = cc (
        map_one_more (placed_addend c.args.symbols.now) items c.loop-addend.addend-index c.addend-item.result within
            c.addend-item.is,
        c.in_ok-push.ensures.ok,
        c.in_ok-term.ensures.term,
        c.loop-addend.invariant.placed,
      );
      seen = cc (
        see_more c.args.symbols.now c.term.new.seen (λ a. names_in_term a.term) items c.loop-addend.addend-index
            c.addend-item.result within c.addend-item.is,
        c.in_ok-term.ensures.seen,
        c.loop-addend.invariant.seen,
      );
    }

pub returns-clause-seen : goal.returns-clause-seen
returns-clause-seen c =
    let symbols = c.args.symbols.now in
    let items = c.as_slice-addend-items.result.now in
    let names : List NamedAddend → List (List ℕ) = λ addends. flat_map (λ a. names_in_term a.term) addends in
    c.loop-addend.invariant.seen
    ∙ (ap (λ addends. see_all symbols c.term.new.seen (names addends))
    (take_all c.loop-addend.addend-index items c.loop-addend-test.false ∙ c.as_slice-addend-items.ensures)
    ∙ (ap (λ (s : Seen). see_all symbols s (names c.args.value.now.rest)) c.in_ok-first.ensures.seen
    ∙ sym (see_append symbols c.args.seen.now (names_in_term c.args.value.now.first) (names c.args.value.now.rest))))
