use Rattle.std.proofs.Common.{◌≡◌, drop}
use Rattle.f95_statements.proofs.declaration.no_initials.Given as goal
use Rattle.f95_statements.specs.Declarations.{no_initials}

abbrev pub invariant-loop-entity : goal.invariant-loop-entity
invariant-loop-entity l = no_initials (drop l.entity-index l.entities) ≡ no_initials l.entities
