use Rattle.std.proofs.Common.{◌≡◌, fold, drop}
use Rattle.well_typed.specs.Shapes.{joint, joint_of}
use Rattle.typed_facts.proofs.shapes.joint_of.Given as goal

abbrev pub invariant-loop-ms : goal.invariant-loop-ms
invariant-loop-ms l = fold joint l.made (drop l.ms-index l.shapes) ≡ joint_of l.shapes
