-- Turns that are the places of a shape, in orders of loops that are legal for some distances.
use Rattle.std.specs.Prelude.{◌≢◌, ◌⊎◌, ℕ, List}
use Rattle.a95_base.specs.Lists.{Member}
use Rattle.rank_shape.specs.Shape.{IsPlace}
use Rattle.rank_shape.specs.declared.distance.Entry.{Entry}
use Rattle.loop_order.specs.Apart.{IsApart}
use Rattle.store_laws.specs.Store.{Statement, Keeps, Ignores, IsStill, Commutes, StopsAlike}

-- of two places, either the one's turn ignores what the other's stores, or they lie one of the distances apart
pub record IsTold {S V F : Type 0} (statement : Statement (List ℕ) S V F) (Sound : S → Type 0) (May : List ℕ → V → Type 0)
    (extents : List ℕ) (distances : List (List Entry)) : Type 0 where
  pub told : (stores reads : List ℕ) → IsPlace extents stores → IsPlace extents reads → stores ≢ reads →
      Ignores statement Sound May stores reads
      ⊎ ((distance : List Entry) × (Member distances distance × IsApart distance stores reads))

pub record KeepsPlaces {S V F : Type 0} (statement : Statement (List ℕ) S V F) (Sound : S → Type 0) (May : List ℕ → V → Type 0)
    (extents : List ℕ) : Type 0 where
  pub each : (place : List ℕ) → IsPlace extents place → Keeps statement Sound May place

-- a statement whose turns may come in any order, once all of them are evaluated before any store
pub record IsFree {S V F : Type 0} (statement : Statement (List ℕ) S V F) (Sound : S → Type 0) (May : List ℕ → V → Type 0)
    (extents : List ℕ) (s : S) : Type 0 where
  pub still : (place : List ℕ) → IsPlace extents place → IsStill statement Sound place
  pub commutes : (place other : List ℕ) → IsPlace extents place → IsPlace extents other → place ≢ other →
      Commutes statement Sound May place other
  pub stops_alike : (place other : List ℕ) → IsPlace extents place → IsPlace extents other → StopsAlike statement s place other
