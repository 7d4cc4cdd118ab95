use Rattle.std.proofs.Common.{◌≡◌, ◌++◌, drop, map}
use Rattle.f95_unit.specs.View.{procedure_of}
use Rattle.proc_calls.specs.Interfaces.{interface_of}
use Rattle.proc_calls.proofs.interface.interfaces_of.Given as goal

abbrev pub invariant-loop-p : goal.invariant-loop-p
invariant-loop-p l =
    l.interfaces ++ map interface_of (map procedure_of (drop l.p-index l.procedures))
    ≡ map interface_of (map procedure_of l.procedures)
