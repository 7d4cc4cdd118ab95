use Rattle.std.proofs.Common.{◌≡◌, max, length, fold, drop}
use Rattle.well_typed.specs.Shapes.{greatest_rank}
use Rattle.typed_facts.proofs.shapes.greatest_rank.Given as goal

abbrev pub invariant-loop-ms : goal.invariant-loop-ms
invariant-loop-ms l = fold (λ n ms. max n (length ms)) l.greatest (drop l.ms-index l.shapes) ≡ greatest_rank l.shapes
