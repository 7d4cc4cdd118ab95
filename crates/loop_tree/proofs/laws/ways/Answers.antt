use Rattle.loop_tree.proofs.Runs.{joins, linear, last, not_past}
use Rattle.loop_tree.proofs.laws.ways.Goals as goal

pub returns : goal.returns
returns c = record { join = joins; meet = linear; end = last; turn = not_past }
