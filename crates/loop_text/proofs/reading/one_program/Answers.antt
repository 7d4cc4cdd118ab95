use Rattle.loop_text.proofs.Progress.{one_program}
use Rattle.loop_text.proofs.reading.one_program.Goals as goal

pub returns : goal.returns
returns c = one_program
