use Rattle.std.proofs.Common.{arith, max, ap, ◌∙◌, sym}
use Rattle.f95_parser.specs.Rules.{most_open}
use Rattle.f95_parser.proofs.Depths.{deeper, none_left}
use Rattle.f95_parser.proofs.tokens.most_open.Goals as goal

pub loop-token-preserved : goal.loop-token-preserved
loop-token-preserved c = record {
  counted = deeper c.token-item.result c.args.tokens.now c.loop-token.token-index c.loop-token.most c.loop-token.depth
      c.larger-most.result c.open_behind-depth.result _
      c.loop-token-test.true c.token-item.is c.larger-most.ensures c.open_behind-depth.ensures.count c.loop-token.invariant.counted;
  few = omega arith;
}

pub returns : goal.returns
returns c = c.larger.ensures
    ∙ sym (ap (λ ts. max c.loop-token.most (most_open c.loop-token.depth ts))
    (none_left c.args.tokens.now c.loop-token.token-index c.loop-token-test.false))
    ∙ c.loop-token.invariant.counted
