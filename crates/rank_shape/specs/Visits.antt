-- What a walk yields: the places that are left, as the code has them.
use Rattle.std.specs.Prelude.{ℕ, List, map, pos}
use Rattle.rank_shape.specs.declared.shape.Place.{Place}

abbrev pub visits : (rank : ℕ) → List (List ℕ) → List (Place rank)
visits rank = map (λ place. record { at = map pos place })
