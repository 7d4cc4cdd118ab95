-- Breaks that are told one after the other, of which the first is kept.
use Rattle.std.specs.Prelude.{ℕ, Bool, true, false, List, [], ◌∷◌, map, Option, Some, None, if◌then◌else◌}
use Rattle.a95_base.specs.declared.breaks.Break.{Break}
use Rattle.a95_base.specs.Breaks.{broken_at, comes_first}

abbrev pub told : Option Break → Break → Option Break
told None b = Some b
told (Some a) b = Some (if comes_first a b then a else b)

abbrev pub all_told : Option Break → List Break → Option Break
all_told found [] = found
all_told found (b ∷ more) = all_told (told found b) more

-- a rule that is broken on these lines
abbrev pub on_lines : ℕ → List ℕ → List Break
on_lines rule lines = map (λ line. broken_at line rule) lines

abbrev pub line_if : Bool → ℕ → List ℕ
line_if true line = line ∷ []
line_if false line = []
