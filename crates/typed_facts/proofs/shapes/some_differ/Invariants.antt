use Rattle.std.proofs.Common.{◌≡◌, drop}
use Rattle.well_typed.specs.Shapes.{differ_from, some_differ}
use Rattle.typed_facts.proofs.shapes.some_differ.Given as goal

abbrev pub invariant-loop-ms : goal.invariant-loop-ms
invariant-loop-ms l = differ_from l.before (drop l.ms-index l.shapes) ≡ some_differ l.shapes
