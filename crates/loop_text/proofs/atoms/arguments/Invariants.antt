use Rattle.std.proofs.Common.{◌≡◌, ◌-◌, length}
use Rattle.loop_text.specs.Guess.{arguments_onto, arguments_on}
use Rattle.loop_text.proofs.atoms.arguments.Given as goal

abbrev pub invariant-loop-turn : goal.invariant-loop-turn
invariant-loop-turn l = arguments_onto l.all (length l.bytes - l._turn) l.rest ≡ arguments_on l.bytes
