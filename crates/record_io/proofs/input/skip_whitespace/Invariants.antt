use Rattle.std.proofs.Common.{◌≡◌, ◌≤◌, length}
use Rattle.a95_base.specs.Input.{past_whitespace}
use Rattle.record_io.proofs.input.skip_whitespace.Given as goal

abbrev pub invariant-loop-rest : goal.invariant-loop-rest
invariant-loop-rest l = record {
  blanks : past_whitespace l.rest ≡ past_whitespace l.text;
  within : length l.rest ≤ length l.text;
}

abbrev pub decreases-loop-rest : goal.decreases-loop-rest
decreases-loop-rest l = length l.rest
