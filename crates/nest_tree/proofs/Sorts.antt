-- A sort that stands behind a test, and one that serves.
use Rattle.std.proofs.Common.{◌≡◌, refl, Bool, true, false}
use Rattle.std.specs.Prelude.{Some}
use Rattle.nest_tree.specs.declared.unit.Sort.{Sort}
use Rattle.nest_tree.specs.declared.unit.Sort.TheVariants as sort
use Rattle.nest_tree.specs.Sound.{serves, sort_if}

pub sort_if_some : (b : Bool) (s r : Sort) → sort_if b s ≡ Some r → (b ≡ true) × (s ≡ r)
sort_if_some true s r h = (refl, cc)
sort_if_some false s r h = cc

pub serves_itself : (s : Sort) → serves s s ≡ true
serves_itself sort.Exact = refl
serves_itself sort.Int = refl
serves_itself sort.Log = refl
serves_itself sort.Text = refl
