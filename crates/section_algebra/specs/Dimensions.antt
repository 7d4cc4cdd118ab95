-- What is asked of a section, dimension by dimension. No public clause cites this.
use Rattle.std.specs.Prelude.{◌≡◌, ◌⊎◌, ℕ, ℤ, pos, ◌<◌, ◌≤◌, ◌≤ℤ◌, Bool, ◌&&◌, nat_eq, IsTrue, List, [], ◌∷◌}
use Rattle.a95_base.specs.Lists.{Every}
use Rattle.section_algebra.specs.Section.{Progression, subscripts_of, Share}

abbrev pub InBounds : ℤ → ℤ → ℤ → Type 0
InBounds l u z = (l ≤ℤ z) × (z ≤ℤ u)

abbrev pub SubscriptsWithin : ℤ → ℤ → Progression → Type 0
SubscriptsWithin l u p = Every (InBounds l u) (subscripts_of p)

abbrev pub EachWithin : List ℤ → List ℤ → List Progression → Type 0
EachWithin [] [] [] = Unit {0}
EachWithin (l ∷ lower) (u ∷ upper) (p ∷ section) = SubscriptsWithin l u p × EachWithin lower upper section
EachWithin lower upper section = ⊥

abbrev pub AllSome : List Progression → Type 0
AllSome = Every (λ p. 0 < p.count)

abbrev pub EachShares : List Progression → List Progression → Type 0
EachShares [] [] = Unit {0}
EachShares [] (q ∷ other) = ⊥
EachShares (p ∷ section) [] = ⊥
EachShares (p ∷ section) (q ∷ other) = Share p q × EachShares section other

-- whether the dimension may stand so, where all before it are covered whole or not
abbrev pub GoesOn : Bool → Progression → Type 0
GoesOn full p = (p.count ≤ 1) ⊎ (IsTrue full × (p.stride ≡ pos 1))

abbrev pub RunsOn : Bool → List Progression → List ℕ → Type 0
RunsOn full (p ∷ section) (e ∷ extents) = GoesOn full p × RunsOn (full && nat_eq p.count e) section extents
RunsOn full [] [] = Unit {0}
RunsOn full section extents = ⊥
