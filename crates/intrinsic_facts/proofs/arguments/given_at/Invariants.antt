use Rattle.std.proofs.Common.{◌≡◌, drop}
use Rattle.well_typed.specs.Intrinsics.{given_at}
use Rattle.intrinsic_facts.proofs.arguments.given_at.Given as goal

abbrev pub invariant-loop-g : goal.invariant-loop-g
invariant-loop-g l = given_at l.place (drop l.g-index l.gs) ≡ given_at l.place l.gs
