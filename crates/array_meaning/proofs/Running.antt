-- All that a closed run has to open: a proof that unfolds `running` computes what a unit comes to.
use Rattle.a95_base.specs.Steps.{pure, stop, behind, ◌>>=◌, ◌>>◌}
use Rattle.a95_base.specs.Integer.{wrapped}
use Rattle.array_meaning.specs.State.{fault_at, unless, choose, given, allocated_array, turn_from, turn, turns_left, variable}
use Rattle.array_meaning.specs.State.{set_variable, store_all, put, unread, pass, inside}
use Rattle.array_meaning.specs.Trees.{all_from, masked_from, pairs_from, whole}
use Rattle.array_meaning.specs.Expressions.{rounds}
use Rattle.array_meaning.specs.Assignments.{index_lists, active_of, each_combination, indexed}
use Rattle.array_meaning.specs.InputOutput.{read_places, printed, read_items}
use Rattle.array_meaning.specs.Control.{counted, while_true, dimensions, allocates, deallocates}
use Rattle.array_meaning.specs.Calls.{lower_bounds, declarations_act, initials_act, copies_back}

unfoldable pub running : Unit {0}
unfolding pure stop behind ◌>>=◌ ◌>>◌ wrapped fault_at unless choose given allocated_array turn_from turn turns_left variable
    set_variable store_all put unread pass inside all_from masked_from pairs_from whole rounds index_lists active_of
    each_combination indexed read_places printed read_items counted while_true dimensions allocates deallocates lower_bounds
    declarations_act initials_act copies_back
running = tt
