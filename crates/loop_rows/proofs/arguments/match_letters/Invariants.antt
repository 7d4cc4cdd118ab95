use Rattle.std.proofs.Common.{◌≡◌, drop}
use Rattle.loop_tree.specs.Machine.{match_letters}
use Rattle.loop_rows.proofs.arguments.match_letters.Given as goal

abbrev pub invariant-loop-argument : goal.invariant-loop-argument
invariant-loop-argument l = match_letters (drop l.argument-index l.arguments) l.left ≡ match_letters l.arguments l.parameters
