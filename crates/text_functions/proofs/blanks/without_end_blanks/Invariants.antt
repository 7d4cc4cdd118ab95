use Rattle.std.proofs.Common.{◌≡◌, ◌≤◌, length, take}
use Rattle.a95_base.specs.Text.{trim}
use Rattle.text_functions.proofs.blanks.without_end_blanks.Given as goal

abbrev pub invariant-loop-length : goal.invariant-loop-length
invariant-loop-length l = record {
  within : l.length ≤ length l.text;
  same : trim (take l.length l.text) ≡ trim l.text;
}

abbrev pub decreases-loop-length : goal.decreases-loop-length
decreases-loop-length l = l.length
