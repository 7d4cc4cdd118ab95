use Rattle.loop_text.proofs.Progress.{one_line}
use Rattle.loop_text.proofs.reading.one_line.Goals as goal

pub returns : goal.returns
returns c = one_line
