use Rattle.std.proofs.Common.{◌+◌, ◌∙◌, length, sym, subst}
use Rattle.loop_tree.specs.Program.{IsProgram}
use Rattle.loop_writer.proofs.Progress.{is_next, is_last, one_more, is_program}
use Rattle.loop_writer.proofs.Collected.{goes_on, all_closed}
use Rattle.loop_writer.proofs.collecting.collect.Goals as goal

pub loop-begun-preserved : goal.loop-begun-preserved
loop-begun-preserved g c =
    let next = is_next (g.P.Producer.left c.loop-begun.pieces) (g.P.Producer.left c.next.new.self) c.in_ok-piece.field-0
    c.in-Some.piece c.in_ok-piece.ensures.next c.in-Some.is in
    record {
      functions = goes_on c.loop-begun.begun c.push.new.self c.in-Some.piece _ _ _ c.loop-begun.invariant.functions next
          c.in_ok-push.ensures.pushed;
      progress = one_more _ _ _ (length c.loop-begun.begun.functions + 1) (length c.push.new.self.functions + 1) c.in-Some.piece
          c.loop-begun.invariant.progress next
          c.in_ok-push.ensures.fits c.in_ok-push.ensures.count c.in_ok-push.ensures.few;
    }

pub new-requires-4 : goal.new-requires-4
new-requires-4 g c =
    let last = is_last (g.P.Producer.left c.loop-begun.pieces) (g.P.Producer.left c.next.new.self) c.in_ok-piece.field-0
    c.in_ok-piece.ensures.next c.in_default.not-Some in
    subst IsProgram (sym (c.in_ok-close.ensures ∙ all_closed _ _ _ c.loop-begun.invariant.functions last.0))
    (is_program _ _ _ c.loop-begun.invariant.progress last.0)
