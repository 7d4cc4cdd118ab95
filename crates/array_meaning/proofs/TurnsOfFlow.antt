-- One more turn, for what comes behind a statement and behind a turn of a loop, whatever the state.
use Rattle.std.proofs.Common.{zero, suc}
use Rattle.a95_base.specs.Steps.{Ran}
use Rattle.a95_base.proofs.Turns.{Clock, Grows, Steady, steady_pure}
use Rattle.array_meaning.specs.Control.{Flow, Next, Exits, Cycles, Returns, behind, behind_turn}

module _ {E S : Type 0} {clock : Clock E S} where
  pub grows_behind_turn : (flow : Flow) {more more' : S → Ran E S Flow} → Grows clock more more'
      → Grows clock (behind_turn flow more) (behind_turn flow more')
  grows_behind_turn Next h = h
  grows_behind_turn (Cycles zero) h = h
  grows_behind_turn (Cycles (suc out)) h = steady_pure _
  grows_behind_turn (Exits zero) h = steady_pure _
  grows_behind_turn (Exits (suc out)) h = steady_pure _
  grows_behind_turn Returns h = steady_pure _

  pub steady_behind : (flow : Flow) {more : S → Ran E S Flow} → Steady clock more → Steady clock (behind flow more)
  steady_behind Next h = h
  steady_behind (Exits out) h = steady_pure _
  steady_behind (Cycles out) h = steady_pure _
  steady_behind Returns h = steady_pure _
