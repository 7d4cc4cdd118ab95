use Rattle.std.proofs.Common.{◌≡◌, drop}
use Rattle.well_typed.specs.Shapes.{all_have_rank}
use Rattle.typed_facts.proofs.shapes.all_have_rank.Given as goal

abbrev pub invariant-loop-ms : goal.invariant-loop-ms
invariant-loop-ms l = all_have_rank l.rank (drop l.ms-index l.shapes) ≡ all_have_rank l.rank l.shapes
