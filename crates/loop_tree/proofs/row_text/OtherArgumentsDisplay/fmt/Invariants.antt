use Rattle.std.proofs.Common.{take, codes, flat_map, ◌++◌}
use Rattle.std.specs.Fmt.{HasWritten, IsPlainFormatter}
use Rattle.loop_tree.specs.Text.{argument_text}
use Rattle.loop_tree.proofs.row_text.OtherArgumentsDisplay.fmt.Given as goal

abbrev pub invariant-loop-argument : goal.invariant-loop-argument
invariant-loop-argument g l =
    IsPlainFormatter l.initial.f → HasWritten g.W.Write.write_str_gives l.initial.f
    (flat_map (λ y. codes ", " ++ argument_text y) (take l.argument-index l.argument-items)) l.f
