-- When a source has no program.
use Rattle.std.specs.Prelude.{ℕ, List}
use Rattle.f95a_core.specs.Source.{IsLeastBroken}
use Rattle.f95a_core.specs.declared.compiling.CompileRefusal.{CompileRefusal}
use Rattle.f95a_core.specs.declared.compiling.CompileRefusal.TheVariants as refusal

-- it breaks this rule, and none that is less; want of memory is free
abbrev pub IsRefusedFor : CompileRefusal → List ℕ → Type 0
IsRefusedFor (refusal.Refused phase line rule) bytes = IsLeastBroken bytes phase line.0 rule.0
IsRefusedFor refusal.Memory bytes = Unit {0}
