use Rattle.std.proofs.Common.{◌∙◌, refl, string_bytes}
use Rattle.loop_writer.proofs.Progress.{is_next, is_last, is_program}
use Rattle.loop_writer.proofs.Written.{begins, stops, stops_cut, goes_on, breaks_in_piece, cut_in_piece, all_written, breaks_at_end}
use Rattle.loop_writer.proofs.Written.{cut_at_end, cut_at_first, on_ok, always_ok, on_err, always_err}
use Rattle.loop_writer.proofs.writing.write.Goals as goal

pub returns-in_default-clause-cut : goal.returns-in_default-clause-cut
returns-in_default-clause-cut g c = cut_at_first _ (g.P.Producer.left c.args.pieces.now) c.requires

pub loop-held-init : goal.loop-held-init
loop-held-init g c = record {
  written = begins (g.K.Sink.written c.args.out.now) (g.P.Producer.left c.args.pieces.now)
      (g.P.Producer.left c.begun_text.new.pieces) (string_bytes c.in-Ok.held) c.in-Ok.ensures.begun c.in-Ok.ensures.text;
  faults = refl;
}

pub returns-in_err-piece-clause-prefix : goal.returns-in_err-piece-clause-prefix
returns-in_err-piece-clause-prefix g c = always_err c.from_residual.result (stops _ _ _ _ _ _ c.loop-held.invariant.written)

pub returns-in_err-piece-clause-cut : goal.returns-in_err-piece-clause-cut
returns-in_err-piece-clause-cut g c = always_err c.from_residual.result (stops_cut _ _ _ _ _ _ c.loop-held.invariant.written)

pub returns-in_default-put_piece-clause-prefix : goal.returns-in_default-put_piece-clause-prefix
returns-in_default-put_piece-clause-prefix g c = stops _ _ _ _ _ _ c.loop-held.invariant.written

pub returns-in_default-put_piece-clause-cut : goal.returns-in_default-put_piece-clause-cut
returns-in_default-put_piece-clause-cut g c = stops_cut _ _ _ _ _ _ c.loop-held.invariant.written

pub returns-in_err-put_grown-clause-prefix : goal.returns-in_err-put_grown-clause-prefix
returns-in_err-put_grown-clause-prefix g c =
    let next = is_next (g.P.Producer.left c.loop-held.pieces) (g.P.Producer.left c.next_piece.new.pieces) c.in_ok-piece.field-0
    c.in-Some.piece c.in_ok-piece.ensures.next c.in-Some.is in
    always_err c.from_residual-in_err-put_grown.result
    (breaks_in_piece _ _ _ _ _ _ c.loop-held.invariant.written _ _ c.in-Ok-put_piece.behind next c.in-Ok-put_piece.ensures.fits
    c.in-Ok-put_piece.ensures.count c.in-Ok-put_piece.ensures.few
    _ c.in-Ok-put_piece.ensures.text _ c.in_err-put_grown.ensures.prefix)

pub returns-in_err-put_grown-clause-cut : goal.returns-in_err-put_grown-clause-cut
returns-in_err-put_grown-clause-cut g c =
    let next = is_next (g.P.Producer.left c.loop-held.pieces) (g.P.Producer.left c.next_piece.new.pieces) c.in_ok-piece.field-0
    c.in-Some.piece c.in_ok-piece.ensures.next c.in-Some.is in
    always_err c.from_residual-in_err-put_grown.result
    (cut_in_piece _ _ _ _ _ _ c.loop-held.invariant.written _ _ c.in-Ok-put_piece.behind next c.in-Ok-put_piece.ensures.fits
    c.in-Ok-put_piece.ensures.count c.in-Ok-put_piece.ensures.few
    _ c.in-Ok-put_piece.ensures.text _ c.in_err-put_grown.ensures.prefix)

pub loop-held-preserved : goal.loop-held-preserved
loop-held-preserved g c =
    let next = is_next (g.P.Producer.left c.loop-held.pieces) (g.P.Producer.left c.next_piece.new.pieces) c.in_ok-piece.field-0
    c.in-Some.piece c.in_ok-piece.ensures.next c.in-Some.is in
    record {
      written = goes_on _ _ _ _ _ _ c.loop-held.invariant.written _ _ c.in-Ok-put_piece.behind next c.in-Ok-put_piece.ensures.fits
          c.in-Ok-put_piece.ensures.count c.in-Ok-put_piece.ensures.few
          _ c.in-Ok-put_piece.ensures.text _ _ c.in_ok-put_grown.ensures.left;
      faults = c.in_ok-put_grown.ensures.ok ∙ c.loop-held.invariant.faults;
    }

pub returns-in_default-put_end-clause-prefix : goal.returns-in_default-put_end-clause-prefix
returns-in_default-put_end-clause-prefix g c = stops _ _ _ _ _ _ c.loop-held.invariant.written

pub returns-in_default-put_end-clause-cut : goal.returns-in_default-put_end-clause-cut
returns-in_default-put_end-clause-cut g c = stops_cut _ _ _ _ _ _ c.loop-held.invariant.written

pub returns-clause-whole : goal.returns-clause-whole
returns-clause-whole g c =
    let last = is_last (g.P.Producer.left c.loop-held.pieces) (g.P.Producer.left c.next_piece.new.pieces) c.in_ok-piece.field-0
    c.in_ok-piece.ensures.next c.in_default-2.not-Some in
    on_ok c.put_held.result (all_written _ _ _ _ _ _ c.loop-held.invariant.written last.0 _ c.in-Ok-put_end.ensures _)
    c.put_held.ensures.appended

pub returns-clause-program : goal.returns-clause-program
returns-clause-program g c =
    let last = is_last (g.P.Producer.left c.loop-held.pieces) (g.P.Producer.left c.next_piece.new.pieces) c.in_ok-piece.field-0
    c.in_ok-piece.ensures.next c.in_default-2.not-Some in
    always_ok c.put_held.result (is_program _ _ _ c.loop-held.invariant.written.progress last.0)

pub returns-clause-prefix : goal.returns-clause-prefix
returns-clause-prefix g c =
    let last = is_last (g.P.Producer.left c.loop-held.pieces) (g.P.Producer.left c.next_piece.new.pieces) c.in_ok-piece.field-0
    c.in_ok-piece.ensures.next c.in_default-2.not-Some in
    on_err c.put_held.result (breaks_at_end _ _ _ _ _ _ c.loop-held.invariant.written last.0 _ c.in-Ok-put_end.ensures _)
    c.put_held.ensures.prefix

pub returns-clause-cut : goal.returns-clause-cut
returns-clause-cut g c =
    let last = is_last (g.P.Producer.left c.loop-held.pieces) (g.P.Producer.left c.next_piece.new.pieces) c.in_ok-piece.field-0
    c.in_ok-piece.ensures.next c.in_default-2.not-Some in
    on_err c.put_held.result (cut_at_end _ _ _ _ _ _ c.loop-held.invariant.written last.0 _ c.in-Ok-put_end.ensures _)
    c.put_held.ensures.prefix
