-- All that a closed run has to open: a proof that unfolds `running` computes what a unit comes to.
use Rattle.a95_base.specs.Steps.{pure, stop, behind, ◌>>=◌, ◌>>◌}
use Rattle.a95_base.specs.Integer.{wrapped}
use Rattle.array_meaning.specs.State.{fault_at, unless, turn_from, turn, unread, pass}
use Rattle.nest_tree.specs.State.{found, given, sees, pick, changes, within, enter, turns_left, joins, writes, inside}
use Rattle.nest_tree.specs.Statements.{each_turn, loops, rounds, given_all}

unfoldable pub running : Unit {0}
unfolding pure stop behind ◌>>=◌ ◌>>◌ wrapped fault_at unless turn_from turn unread pass found given sees pick changes within enter
    turns_left joins writes inside each_turn loops rounds given_all
running = tt
