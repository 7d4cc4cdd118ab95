use Rattle.std.proofs.Common.{take}
use Rattle.loop_tree.specs.Program.{FitsArguments}
use Rattle.loop_tree.proofs.fits.arguments.Given as goal

abbrev pub invariant-loop-one : goal.invariant-loop-one
invariant-loop-one l = FitsArguments (take l.one-index l.arguments)
