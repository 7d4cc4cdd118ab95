-- Lists, and tests.
use Rattle.std.specs.Prelude.{Bool, true, false, List, [], ◌∷◌, Option, Some, None}

abbrev pub some : {A : Type 0} → List A → Bool
some [] = false
some (_ ∷ _) = true

abbrev pub is_absent : {A : Type 0} → Option A → Bool
is_absent None = true
is_absent (Some _) = false
