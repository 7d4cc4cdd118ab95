use Rattle.std.proofs.Common.{◌≡◌, true, take}
use Rattle.loop_text.specs.Refused.{is_one_line}
use Rattle.loop_text.proofs.reading.line_end.Given as goal

abbrev pub invariant-loop-place : goal.invariant-loop-place
invariant-loop-place l = is_one_line (take l.place l.rest) ≡ true
