use Rattle.std.proofs.Common.{◌≡◌, ◌+◌, ◌++◌, ◌∷◌, length}
use Rattle.loop_writer.specs.Pieces.{body_of, functions_of}
use Rattle.loop_writer.proofs.Progress.{Progress}
use Rattle.loop_writer.proofs.collecting.collect.Given as goal

-- the open function gets the statements to come, and the other functions follow
abbrev pub invariant-loop-begun : goal.invariant-loop-begun
invariant-loop-begun g l = record {
  functions : l.begun.functions
      ++ record { parameters = l.begun.parameters; body = l.begun.body ++ body_of (g.P.Producer.left l.pieces) }
      ∷ functions_of (g.P.Producer.left l.pieces)
      ≡ functions_of (g.P.Producer.left l.fn.pieces);
  progress : Progress (g.P.Producer.left l.fn.pieces) (g.P.Producer.left l.pieces) (length l.begun.functions + 1);
}

abbrev pub decreases-loop-begun : goal.decreases-loop-begun
decreases-loop-begun g l = length (g.P.Producer.left l.pieces)
