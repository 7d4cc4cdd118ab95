use Rattle.std.proofs.Common.{inr, ap, Err}
use Rattle.f95a_core.specs.Outside.{stream}
use Rattle.f95a_core.proofs.Ends.{told_by}
use Rattle.f95a_core.proofs.Built.{writes_text, writes_prefix}
use Rattle.f95a_core.proofs.building.build.Goals as goal

pub returns-in-Ok-write : goal.returns-in-Ok-write
returns-in-Ok-write g c = record {
  comes = (
    record { failed = c.in-Ok.ensures.ok.1; faults = c.in-Ok.ensures.ok.0 },
    writes_text (g.H.Shelf.file c.args.shelf.now c.args.name.now) c.as_slice.result.now c.in-Ok-read.unit _
        (stream (g.K.Sink.written c.args.out.now) (g.K.Sink.faults c.args.out.now))
        (stream (g.K.Sink.written c.write.new.out) (g.K.Sink.faults c.write.new.out))
        (told_by _ _ _ c.as_slice.result.now c.new-source.ensures.items c.as_slice.ensures.value c.in-Ok.ensures.loaded)
        (record { reads = c.in-Ok-read.ensures.reads; typed = c.in-Ok-read.ensures.typed; size = c.in-Ok-read.ensures.size })
        c.new.ensures c.in-Ok-write.ensures.whole,
  );
}

pub returns-in-Err-Failed-write : goal.returns-in-Err-Failed-write
returns-in-Err-Failed-write g c = record {
  comes = (
    record { failed = c.in-Ok.ensures.ok.1; faults = c.in-Ok.ensures.ok.0 },
    writes_prefix (g.H.Shelf.file c.args.shelf.now c.args.name.now) c.as_slice.result.now c.in-Ok-read.unit _
        (stream (g.K.Sink.written c.args.out.now) (g.K.Sink.faults c.args.out.now))
        (stream (g.K.Sink.written c.write.new.out) (g.K.Sink.faults c.write.new.out))
        (told_by _ _ _ c.as_slice.result.now c.new-source.ensures.items c.as_slice.ensures.value c.in-Ok.ensures.loaded)
        (record { reads = c.in-Ok-read.ensures.reads; typed = c.in-Ok-read.ensures.typed; size = c.in-Ok-read.ensures.size })
        c.new.ensures c.in-Err-Failed-write.ensures.prefix,
    c.in-Err-Failed-write.ensures.counted (ap Err c.in-Err-Failed-write.field-0-is),
  );
}

pub returns-in-Ok-read : goal.returns-in-Ok-read
returns-in-Ok-read g c = record {
  comes = (
    record { failed = c.in-Ok.ensures.ok.1; faults = c.in-Ok.ensures.ok.0 },
    inr (writes_prefix (g.H.Shelf.file c.args.shelf.now c.args.name.now) c.as_slice.result.now c.in-Ok-read.unit _
        (stream (g.K.Sink.written c.args.out.now) (g.K.Sink.faults c.args.out.now))
        (stream (g.K.Sink.written c.write.new.out) (g.K.Sink.faults c.write.new.out))
        (told_by _ _ _ c.as_slice.result.now c.new-source.ensures.items c.as_slice.ensures.value c.in-Ok.ensures.loaded)
        (record { reads = c.in-Ok-read.ensures.reads; typed = c.in-Ok-read.ensures.typed; size = c.in-Ok-read.ensures.size })
        c.new.ensures c.in-Err-Memory-write.ensures.prefix),
  );
}
