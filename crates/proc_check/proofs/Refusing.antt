-- What the first break of the walk says of a unit.
use Rattle.std.proofs.Common.{◌≡◌, sym, ◌∙◌, Some, None}
use Rattle.a95_base.specs.declared.breaks.Break.{Break}
use Rattle.a95_base.specs.Breaks.{IsLeast}
use Rattle.f95_unit.specs.declared.unit.Unit.{Unit as Typed}
use Rattle.f95_unit.specs.View.{program_of}
use Rattle.proc_check.specs.Broken.{IsBroken, IsUnbroken}
use Rattle.proc_check.specs.Walk.{through_unit}
use Rattle.proc_check.proofs.Listing.{first_is_least_of, none_is_unbroken}
use Rattle.proc_check.proofs.Walking.{unit_is}

pub unbroken : (u : Typed) → through_unit (program_of u) ≡ None → IsUnbroken u
unbroken u e = none_is_unbroken (program_of u) (sym (unit_is (program_of u)) ∙ e)

pub refused : (u : Typed) (b : Break) → through_unit (program_of u) ≡ Some b → IsLeast (IsBroken u) b.line b.rule
refused u b e = first_is_least_of (program_of u) b (sym (unit_is (program_of u)) ∙ e)
