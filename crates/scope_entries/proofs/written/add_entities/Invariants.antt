use Rattle.std.proofs.Common.{◌≡◌, ◌++◌, drop, map}
use Rattle.names_types.specs.Plain.{Entity}
use Rattle.names_types.specs.Scopes.{Declares, entry, object_of}
use Rattle.names_types.specs.View.{declaration_of, entity_of}
use Rattle.scope_entries.specs.View.{entries_of}
use Rattle.scope_entries.proofs.written.add_entities.Given as goal

abbrev pub invariant-loop-entity : goal.invariant-loop-entity
invariant-loop-entity l =
    entries_of l.entries.items
    ++ map (λ (e : Entity). entry l.declaration.0.0 e.name (Declares (object_of (declaration_of l.declaration) e)))
    (map entity_of (drop l.entity-index l.declaration.1.entities))
    ≡ entries_of l.initial.entries.items
    ++ map (λ (e : Entity). entry l.declaration.0.0 e.name (Declares (object_of (declaration_of l.declaration) e)))
    (map entity_of l.declaration.1.entities)
