-- The names of a scope with what they mean.
use Rattle.std.specs.Prelude.{List, [], ◌∷◌, map}
use Rattle.f95_tree.specs.Forms.{Word}
use Rattle.names_types.specs.declared.meaning.Meaning.{Meaning}
use Rattle.names_types.specs.Scopes.{Meant, meant, Entry, Sited, sited_from}
use Rattle.scope_names.specs.declared.meanings.Meanings.{Meanings}

-- names with their meanings, as far as there are meanings
abbrev pub meant_by : List Word → List Meaning → List Meant
meant_by [] meanings = []
meant_by (name ∷ names) [] = []
meant_by (name ∷ names) (m ∷ meanings) = meant name m ∷ meant_by names meanings

abbrev pub meant_in : Meanings → List Meant
meant_in t = meant_by t.names t.meanings.items

abbrev pub names_of : List Entry → List Word
names_of es = map (λ (e : Entry). e.name) es

-- what the names of declarations mean, one after the other, where those of the host mean this
abbrev pub all_meant : List Meant → List Entry → List Meant
all_meant host es = map (λ (s : Sited). meant s.entry.name s.meaning) (sited_from (names_of es) host [] [] es)
