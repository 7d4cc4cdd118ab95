use Rattle.std.proofs.Common.{◌≡◌, drop}
use Rattle.loop_text.specs.Guess.{behind_quote}
use Rattle.loop_text.proofs.atoms.behind_quote.Given as goal

abbrev pub invariant-loop-place : goal.invariant-loop-place
invariant-loop-place l = behind_quote l.left (drop l.place l.bytes) ≡ behind_quote 0 l.bytes
