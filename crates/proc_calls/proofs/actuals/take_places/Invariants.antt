use Rattle.std.proofs.Common.{◌≡◌, drop}
use Rattle.proc_calls.specs.View.{arguments_of}
use Rattle.proc_calls.specs.Rules.{take_places}
use Rattle.proc_calls.proofs.actuals.take_places.Given as goal

abbrev pub invariant-loop-a : goal.invariant-loop-a
invariant-loop-a l = take_places l.free.items (arguments_of (drop l.a-index l.es)) ≡ take_places l.fn.free.items (arguments_of l.es)
