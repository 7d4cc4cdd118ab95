-- Where names stand.
use Rattle.std.specs.Prelude.{◌≡◌, ℕ, nat_eq, List, Option}
use Rattle.std.specs.List.{position_from}
use Rattle.std.specs.Map.{lookup}
use Rattle.std.specs.Cmp.Lexicographic.{pointwise}
use Rattle.std.specs.declared.vec.Vec.{Vec}

-- the first place of a name
abbrev pub first_place : List ℕ → List (List ℕ) → Option ℕ
first_place name names = position_from (pointwise nat_eq name) 0 names

abbrev pub word_of : {Z : Type 0} → Vec ℕ Z → List ℕ
word_of v = v.items

-- entries tell the first place of each name
abbrev pub IsHeld : {K : Type 0} → (K → List ℕ) → List (K × ℕ) → List (List ℕ) → Type 0
IsHeld word es names = (name : List ℕ) → lookup (λ k. pointwise nat_eq name (word k)) es ≡ first_place name names
