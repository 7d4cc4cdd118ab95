use Rattle.std.proofs.Common.{◌≡◌, drop}
use Rattle.a95_base.specs.Breaks.{first_from}
use Rattle.a95_base.proofs.breaks.first_from.Given as goal

abbrev pub invariant-loop-b : goal.invariant-loop-b
invariant-loop-b l = first_from l.first (drop l.b-index l.breaks) ≡ first_from l.fn.first l.breaks
