use Rattle.std.proofs.Common.{◌≡◌, ◌<◌, ◌∷◌, length, arith}
use Rattle.rank_one.specs.Conditions.{names_in_factor}
use Rattle.rank_one.specs.Placing.{placed_factor}
use Rattle.rank_one.proofs.SeenLaws.{map_one_more, see_more}
use Rattle.rank_one.proofs.resolve.term.Goals as goal

pub loop-named-preserved : goal.loop-named-preserved
loop-named-preserved c =
    let items = c.as_slice-named-items.result.now in
    let within : c.loop-named.named-index < length items = omega arith in
    record {
      placed = cc (
        map_one_more (placed_factor c.args.symbols.now) items c.loop-named.named-index c.named-item.result within c.named-item.is,
        c.in_ok-push.ensures.ok,
        c.factor.ensures.factor,
        c.loop-named.invariant.placed,
      );
      seen = cc (
        see_more c.args.symbols.now c.factor-first.new.seen names_in_factor items c.loop-named.named-index c.named-item.result
            within c.named-item.is,
        c.factor.ensures.seen,
        c.loop-named.invariant.seen,
      );
    }
