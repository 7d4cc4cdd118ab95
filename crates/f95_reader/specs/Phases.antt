-- What a phase answers, with its number.
use Rattle.std.specs.Prelude.{ℕ}
use Rattle.a95_base.specs.declared.source.PhaseError.{PhaseError}
use Rattle.a95_base.specs.declared.source.PhaseError.TheVariants as error
use Rattle.f95_reader.specs.declared.refusal.Refusal.{Refusal}
use Rattle.f95_reader.specs.declared.refusal.Refusal.TheVariants as refusal

abbrev pub in_phase : ℕ → PhaseError → Refusal
in_phase phase (error.Broken line rule) = refusal.Refused phase line rule
in_phase phase error.Memory = refusal.Memory
