use Rattle.std.proofs.Common.{arith}
use Rattle.f95_parser.proofs.Depths.{further}
use Rattle.f95_parser.proofs.tokens.terminals_of.Goals as goal

pub loop-token-preserved : goal.loop-token-preserved
loop-token-preserved c = record {
  read = further c.token-item.result c.args.tokens.now c.loop-token.token-index c.loop-token.depth c.open_behind-depth.result
      c.loop-token.terminals c.put_token.new.terminals _
      c.loop-token-test.true c.token-item.is c.in_ok-put_token.ensures c.open_behind-depth.ensures.count
      c.loop-token.invariant.read;
  few = omega arith;
}
