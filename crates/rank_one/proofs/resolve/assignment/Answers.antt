use Rattle.std.proofs.Common.{◌≡◌, ◌∙◌, ◌∷◌, ap}
use Rattle.rank_one.specs.declared.resolve.Seen.{Seen}
use Rattle.rank_one.specs.Conditions.{names_in_sum, extent_of}
use Rattle.rank_one.specs.Resolving.{unseen, seen_with, see_all}
use Rattle.rank_one.proofs.SeenLaws.{conforming_is, declared_is}
use Rattle.rank_one.proofs.resolve.assignment.Goals as goal

pub returns-clause-conforming : goal.returns-clause-conforming
returns-clause-conforming c =
    let symbols = c.args.symbols.now in
    let names = names_in_sum c.args.value.now in
    let all : c.sum.new.seen ≡ see_all symbols unseen (c.args.target.now ∷ names) =
    c.in_ok-value.ensures.seen
    ∙ (ap (λ (s : Seen). see_all symbols s names) c.name-target.ensures.seen
    ∙ ap (λ (s : Seen). see_all symbols (seen_with s (extent_of symbols c.args.target.now)) names) c.new-seen.ensures) in
    ap (λ (s : Seen). s.conforming) all ∙ conforming_is symbols (c.args.target.now ∷ names)

pub returns-clause-declared : goal.returns-clause-declared
returns-clause-declared c =
    let symbols = c.args.symbols.now in
    let names = names_in_sum c.args.value.now in
    let all : c.sum.new.seen ≡ see_all symbols unseen (c.args.target.now ∷ names) =
    c.in_ok-value.ensures.seen
    ∙ (ap (λ (s : Seen). see_all symbols s names) c.name-target.ensures.seen
    ∙ ap (λ (s : Seen). see_all symbols (seen_with s (extent_of symbols c.args.target.now)) names) c.new-seen.ensures) in
    ap (λ (s : Seen). s.declared) all ∙ declared_is symbols (c.args.target.now ∷ names)
