use Rattle.std.proofs.Common.{◌≡◌, ◌++◌, drop}
use Rattle.proc_calls.specs.View.{subscripts_of}
use Rattle.well_typed.specs.Known.{section_extents}
use Rattle.known_values.proofs.designators.section_extents.Given as goal

abbrev pub invariant-loop-d : goal.invariant-loop-d
invariant-loop-d l =
    l.made ++ section_extents l.constants (drop l.d-index l.dims) (subscripts_of l.rest)
    ≡ section_extents l.constants l.dims (subscripts_of l.subscripts)
