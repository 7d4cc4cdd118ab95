use Rattle.std.proofs.Common.{arith}
use Rattle.std.proofs.KnownBytes.{Consumes-more}
use Rattle.std.proofs.Transfers.{starts_with_trans}
use Rattle.io_edge.proofs.files.append_all.Goals as goal

pub loop-reader-preserved : goal.loop-reader-preserved
loop-reader-preserved g c =
    let remaining = g.R.Read.remaining in
    let start = c.args.into.now.items in
    let before = c.loop-reader.into.items in
    let after = c.append_piece.new.into.items in
    let front = c.loop-reader.invariant.front in
    record {
      longer = omega (arith, c.in-Ok.ensures.count);
      front = starts_with_trans after before start c.append_piece.ensures.front front;
      taken =
          Consumes-more (remaining c.args.reader.now) (remaining c.loop-reader.reader) (remaining c.append_piece.new.reader)
          start before after front c.append_piece.ensures.front c.loop-reader.invariant.taken c.in-Ok.ensures.taken;
    }
