use Rattle.std.proofs.Common.{◌≡◌, ◌++◌, drop}
use Rattle.proc_calls.specs.View.{arguments_of}
use Rattle.well_typed.specs.Known.{seen_in}
use Rattle.known_values.proofs.worth.+values.Given as goal

abbrev pub invariant-seen_in-loop-a : goal.invariant-seen_in-loop-a
invariant-seen_in-loop-a l =
    l.seen.items ++ seen_in l.constants (arguments_of (drop l.a-index l.es)) ≡ seen_in l.constants (arguments_of l.es)
