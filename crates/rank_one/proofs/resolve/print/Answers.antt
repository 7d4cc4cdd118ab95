use Rattle.std.proofs.Common.{◌≡◌, ◌<◌, ◌∷◌, ◌++◌, ◌∙◌, [], length, arith, ap, sym, take, map}
use Rattle.std.proofs.lemmas.List.{take_all}
use Rattle.rank_one.specs.declared.resolve.Seen.{Seen}
use Rattle.rank_one.specs.Conditions.{extent_of}
use Rattle.rank_one.specs.Placing.{placed_name}
use Rattle.rank_one.specs.Resolving.{unseen, seen_with, see_all}
use Rattle.rank_one.proofs.SeenLaws.{map_one_more, see_one_more, declared_is}
use Rattle.rank_one.proofs.resolve.print.Goals as goal

pub loop-word-preserved : goal.loop-word-preserved
loop-word-preserved c =
    let symbols = c.args.symbols.now in
    let first = placed_name symbols c.args.first.now in
    let before = take c.loop-word.word-index c.args.rest.now in
    let within : c.loop-word.word-index < length c.args.rest.now = omega arith in
    record {
      placed = c.in_ok-push-2.ensures.ok
          ∙ (ap (λ arrays. arrays ++ c.name-in-loop-word.result ∷ []) c.loop-word.invariant.placed
          ∙ (ap (λ place. (first ∷ map (placed_name symbols) before) ++ place ∷ []) c.name-in-loop-word.ensures.place
          ∙ ap (λ arrays. first ∷ arrays)
          (sym (map_one_more (placed_name symbols) c.args.rest.now c.loop-word.word-index c.word-item.result within
          c.word-item.is))));
      seen = c.name-in-loop-word.ensures.seen
          ∙ (ap (λ (s : Seen). seen_with s (extent_of symbols c.word-item.result)) c.loop-word.invariant.seen
          ∙ sym (see_one_more symbols c.name.new.seen c.args.rest.now c.loop-word.word-index c.word-item.result within
          c.word-item.is));
    }

pub returns-clause-declared : goal.returns-clause-declared
returns-clause-declared c =
    let symbols = c.args.symbols.now in
    let all : c.loop-word.seen ≡ see_all symbols unseen (c.args.first.now ∷ c.args.rest.now) =
    c.loop-word.invariant.seen
    ∙ (ap (λ names. see_all symbols c.name.new.seen names) (take_all c.loop-word.word-index c.args.rest.now c.loop-word-test.false)
    ∙ (ap (λ (s : Seen). see_all symbols s c.args.rest.now) c.name.ensures.seen
    ∙ ap (λ (s : Seen). see_all symbols (seen_with s (extent_of symbols c.args.first.now)) c.args.rest.now) c.new-seen.ensures)) in
    ap (λ (s : Seen). s.declared) all ∙ declared_is symbols (c.args.first.now ∷ c.args.rest.now)
