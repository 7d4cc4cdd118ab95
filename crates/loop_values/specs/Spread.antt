-- Variables in a map, each by its number: how the code keeps them. No public clause cites this.
use Rattle.std.specs.Prelude.{ℕ, ◌+◌, ◌-◌, ◌≤◌, List, [], ◌∷◌, ◌++◌, replicate}

-- the numbers below stand in a list
abbrev pub dense : ℕ
dense = 65536

-- the values from number `at` on, where those that the map hasn't are `first`
abbrev pub spread : {A : Type 0} → A → ℕ → List (ℕ × A) → List A
spread first at [] = []
spread first at (e ∷ es) = replicate (e.0 - at) first ++ (e.1 ∷ spread first (e.0 + 1) es)

-- the numbers rise, from `at` on
abbrev pub IsSpaced : {A : Type 0} → ℕ → List (ℕ × A) → Type 0
IsSpaced at [] = Unit {0}
IsSpaced at (e ∷ es) = (at ≤ e.0) × IsSpaced (e.0 + 1) es
