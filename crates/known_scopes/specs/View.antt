-- A scope as `names_types` has it, and what stands in it.
use Rattle.std.specs.Prelude.{List, map, reverse, Option, Some, None}
use Rattle.std.specs.List.{filter, filter_map}
use Rattle.f95_tree.specs.Forms.{Word}
use Rattle.names_types.specs.declared.sense.Sense.{Sense}
use Rattle.names_types.specs.Scopes as scopes
use Rattle.names_types.specs.Rules.{brought_meaning}
use Rattle.names_types.specs.View.{part_of, procedure_of}
use Rattle.scope_entries.specs.View.{place_of}
use Rattle.scope_names.specs.Tables.{meant_by, meant_in}
use Rattle.scope_names.specs.declared.senses.ConstantSenses.{ConstantSenses}
use Rattle.known_scopes.specs.declared.scope.Scope.{Scope}

abbrev pub scope_of : Scope → scopes.Scope
scope_of s = scopes.scope (reverse s.above.now) (meant_in s.host.now) (place_of s.place) (part_of s.section.now s.body.now)
    (map procedure_of s.procedures.now)

abbrev pub declared_in : Scope → List scopes.Entry
declared_in s = scopes.entries (scope_of s)

abbrev pub meant_there : Scope → List scopes.Meant
meant_there s = scopes.meanings (scope_of s)

abbrev pub brought_to : List scopes.Entry → List scopes.Meant
brought_to es = filter_map (λ (e : scopes.Entry). brought_meaning e e.form) es

abbrev pub dummies_there : Scope → List Word
dummies_there s = scopes.dummies_of (place_of s.place)

-- what names mean in constant expressions
abbrev pub senses_of : ConstantSenses → Word → Sense
senses_of s = scopes.constant_sense s.own.now (meant_in s.host.now) (meant_by s.names.now s.before.now)
