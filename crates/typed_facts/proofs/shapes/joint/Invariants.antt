use Rattle.std.proofs.Common.{◌≡◌, ◌++◌, drop}
use Rattle.well_typed.specs.Shapes.{joint}
use Rattle.typed_facts.proofs.shapes.joint.Given as goal

abbrev pub invariant-loop-m : goal.invariant-loop-m
invariant-loop-m l = l.made ++ joint (drop l.m-index l.ms) l.rest ≡ joint l.ms l.ns
