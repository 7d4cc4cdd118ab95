use Rattle.std.proofs.Common.{◌≡◌, drop}
use Rattle.well_typed.specs.Shapes.{differ}
use Rattle.typed_facts.proofs.shapes.differ.Given as goal

abbrev pub invariant-loop-m : goal.invariant-loop-m
invariant-loop-m l = differ (drop l.m-index l.ms) l.rest ≡ differ l.ms l.ns
