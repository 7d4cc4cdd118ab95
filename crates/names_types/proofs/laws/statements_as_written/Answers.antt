use Rattle.names_types.proofs.SeeingStatements.{actions, ifs, if_blocks, selects, loops, wheres, foralls}
use Rattle.names_types.proofs.laws.statements_as_written.Goals as goal

pub returns : goal.returns
returns c = record {
  actions = actions;
  ifs = ifs;
  if_blocks = if_blocks;
  selects = selects;
  loops = loops;
  wheres = wheres;
  foralls = foralls;
}
