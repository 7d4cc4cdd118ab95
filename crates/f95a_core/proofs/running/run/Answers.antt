use Rattle.std.proofs.Common.{◌≡◌, ap, sym, subst}
use Rattle.loop_machine.specs.Running as machine
use Rattle.f95a_core.specs.declared.status.Status.{Status}
use Rattle.f95a_core.specs.Outside.{files, stream}
use Rattle.f95a_core.specs.Running.{RunComesTo}
use Rattle.f95a_core.proofs.Ends.{told_by, executed}
use Rattle.f95a_core.proofs.running.run.Goals as goal

pub returns-in-Ok-new : goal.returns-in-Ok-new
returns-in-Ok-new g c =
    let name = c.args.name.now in
    let before = files (g.H.Shelf.file c.args.shelf.now) (g.H.Shelf.failed c.args.shelf.now) (g.H.Shelf.faults c.args.shelf.now) in
    let after = files (g.H.Shelf.file c.load.new.self) (g.H.Shelf.failed c.load.new.self) (g.H.Shelf.faults c.load.new.self) in
    let input = stream (g.S.Source.left c.args.input.now) (g.S.Source.faults c.args.input.now) in
    let taken = stream (g.S.Source.left c.take_all.new.input) (g.S.Source.faults c.take_all.new.input) in
    let out = stream (g.K.Sink.written c.args.out.now) (g.K.Sink.faults c.args.out.now) in
    let written = stream (g.K.Sink.written c.run.new.sink) (g.K.Sink.faults c.run.new.sink) in
    let came = c.run.ensures.runs (ap (λ (m : machine.Running). m.ended) c.in-Ok-new.ensures) in
    let there =
    subst (λ (m : machine.Running). machine.RunsTo m.functions m.state c.args.turns c.run.result c.run.new.self.state out.bytes
    written.bytes) c.in-Ok-new.ensures came in
    record {
      comes = subst
          (λ (s : Status). RunComesTo name c.args.turns before after input taken out written
          (c.take_all.new.input ≡ c.args.input.now) (c.run.new.sink ≡ c.args.out.now) s) (sym c.status_of.ensures)
          (executed name c.args.turns before after input taken out written c.in-Ok-read.program c.in-Ok-take_all.bytes.items
          (record {
            loaded = record { failed = c.in-Ok.ensures.ok.1; faults = c.in-Ok.ensures.ok.0 };
            text = c.as_slice.result.now;
            file = told_by _ _ _ c.as_slice.result.now c.new-text.ensures.items c.as_slice.ensures.value c.in-Ok.ensures.loaded;
            reads = c.in-Ok-read.ensures.found;
            taken = c.in-Ok-take_all.ensures.taken;
          })
          (c.take_all.new.input ≡ c.args.input.now) (c.run.new.sink ≡ c.args.out.now) c.run.result c.run.new.self.state there
          (c.run.ensures.counted (ap (λ (m : machine.Running). m.ended) c.in-Ok-new.ensures)));
    }
