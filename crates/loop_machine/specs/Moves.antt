-- What the code of one line comes to, against the definition's step. No public clause cites this.
use Rattle.std.specs.Prelude.{◌≡◌, Bool, true, false, List, [], ◌∷◌, ◌++◌}
use Rattle.a95_base.specs.Outcome.{Ended, Faulted}
use Rattle.a95_base.specs.Record.{record_text}
use Rattle.loop_tree.specs.declared.tree.Function.{Function}
use Rattle.loop_tree.specs.State.{Comes, Next, Goes, Ends}
use Rattle.loop_tree.specs.Run.{begins_turn}
use Rattle.loop_rows.specs.declared.state.Core.{Core}
use Rattle.loop_rows.specs.Shown.{shown}
use Rattle.loop_rows.specs.Rows.{HaltsSo, without_record}
use Rattle.loop_machine.specs.declared.moves.Move.{Move}
use Rattle.loop_machine.specs.declared.moves.Move.TheVariants as move

-- the move is what `next` says of the state before it, where a turn may begin or not
abbrev pub Did : Next → Bool → List Function → Core → Core → Move → Type 0
Did next may functions old new move.Quiet = next ≡ Goes false [] (shown functions new)
Did next may functions old new move.Turn = (may ≡ true) × (next ≡ Goes true [] (shown functions new))
Did next may functions old new move.Record =
    next ≡ Goes false (record_text new.pending ++ 10 ∷ []) (without_record (shown functions new))
Did next may functions old new move.Waits = (may ≡ false) × (new ≡ old) × (begins_turn next ≡ true)
Did next may functions old new move.Ended = next ≡ Ends (Comes Ended)
Did next may functions old new move.Fault = next ≡ Ends (Comes (Faulted new.fault new.active.line))
Did next may functions old new move.Halt = HaltsSo next new.halt
