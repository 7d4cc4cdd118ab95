-- The lines of a place, one dimension at a time.
use Rattle.std.proofs.Common.{◌≡◌, ℕ, suc, List, [], ◌∷◌, ◌++◌, refl}
use Rattle.nest_tree.specs.Plain.{Procedure}
use Rattle.nest_tree.specs.declared.access.Dimension.{Dimension}
use Rattle.nest_emit.specs.Trees.{place_lines}
use Rattle.element_atoms.specs.Dimensions.{distance, joined}

pub place_first : (q : Procedure) (nests t array dim : ℕ) (d : Dimension) (more : List Dimension) → more ≡ []
    → distance q nests t array dim d.along ≡ place_lines q nests t array dim (d ∷ more)
place_first q nests t array dim d [] e = refl
place_first q nests t array dim d (x ∷ more) e = absurd (let z : ⊥ = cc in z)

pub place_more : (q : Procedure) (nests t array dim : ℕ) (d : Dimension) (more : List Dimension) → (more ≡ [] → ⊥)
    → place_lines q nests t array (suc dim) more ++ joined q nests t array dim d.along
    ≡ place_lines q nests t array dim (d ∷ more)
place_more q nests t array dim d [] e = absurd (e refl)
place_more q nests t array dim d (x ∷ more) e = refl
