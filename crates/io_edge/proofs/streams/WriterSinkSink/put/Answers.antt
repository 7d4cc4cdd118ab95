use Rattle.std.proofs.Common.{take, drop, sym, subst, arith, take-add}
use Rattle.std.proofs.lemmas.List.{take_rest}
use Rattle.std.specs.Io.KnownBytes.{Appends}
use Rattle.std.proofs.KnownBytes.{Appends-trans}
use Rattle.io_edge.proofs.streams.WriterSinkSink.put.Goals as goal

pub loop-at-preserved : goal.loop-at-preserved
loop-at-preserved g c =
    let contents = g.W.Write.contents in
    let bytes = c.args.bytes.now in
    let was = contents c.args.self.now.writer in
    let is = contents c.write.new.self in
    record {
      within = omega (arith, c.in-Ok.ensures.bound);
      front = subst (Appends was is) (sym (take-add c.loop-at.at c.in-Ok.count bytes))
          (Appends-trans was (contents c.loop-at.self.writer) is (take c.loop-at.at bytes)
          (take c.in-Ok.count (drop c.loop-at.at bytes))
          c.loop-at.invariant.front (rw take_rest at c.in-Ok.ensures.bytes));
      count = c.loop-at.invariant.count;
    }
