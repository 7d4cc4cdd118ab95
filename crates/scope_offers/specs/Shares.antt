-- What a module has for USE, of its declarations and of what their names mean.
use Rattle.std.specs.Prelude.{ℕ, List, [], ◌∷◌, if◌then◌else◌}
use Rattle.names_types.specs.declared.meaning.Meaning.{Meaning}
use Rattle.names_types.specs.declared.meaning.Share.{Share}
use Rattle.names_types.specs.Scopes.{Entry, home, is_shared}

abbrev pub share : ℕ → Entry → Meaning → Share
share place e m = record { name = e.name; place = home place e.form; meaning = m }

abbrev pub shares_by : ℕ → List Entry → List Meaning → List Share
shares_by place [] ms = []
shares_by place (e ∷ es) [] = []
shares_by place (e ∷ es) (m ∷ ms) = if is_shared m then share place e m ∷ shares_by place es ms else shares_by place es ms
