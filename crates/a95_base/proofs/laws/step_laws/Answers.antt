use Rattle.a95_base.proofs.Steps.{assoc, left_unit, right_unit, stop_ends, then_same, instead, value_unread}
use Rattle.a95_base.proofs.laws.step_laws.Goals as goal

pub returns-clause-brackets_move : goal.returns-clause-brackets_move
returns-clause-brackets_move g c = assoc

pub returns-clause-value_passes : goal.returns-clause-value_passes
returns-clause-value_passes g c = left_unit

pub returns-clause-value_ends : goal.returns-clause-value_ends
returns-clause-value_ends g c = right_unit

pub returns-clause-error_ends : goal.returns-clause-error_ends
returns-clause-error_ends g c = stop_ends

pub returns-clause-next_same : goal.returns-clause-next_same
returns-clause-next_same g c = then_same

pub returns-clause-first_same : goal.returns-clause-first_same
returns-clause-first_same g c = instead

pub returns-clause-value_unread : goal.returns-clause-value_unread
returns-clause-value_unread g c = value_unread
