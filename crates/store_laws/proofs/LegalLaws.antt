-- In a legal order of loops a store at once is a store after all evaluations, and for a free statement in any order.
use Rattle.std.proofs.Common.{◌≡◌, ◌≢◌, ℕ, List, [], ◌∷◌, length, ◌∙◌, inl, inr}
use Rattle.a95_base.specs.Lists.{Every, Pairwise, Permuted}
use Rattle.a95_base.specs.Lists.Permuted.{join}
use Rattle.a95_base.proofs.Lists.{Every-weaker, each_has, Pairwise-both, Pairwise-all, Pairwise-weaker_on}
use Rattle.a95_base.proofs.Permuted.{permuted_back}
use Rattle.rank_shape.specs.Shape.{IsPlace}
use Rattle.rank_shape.specs.Order.{Level, IsOrder, element_order_of}
use Rattle.rank_shape.specs.Walk.{tour}
use Rattle.rank_shape.proofs.Orders.{element_is_order}
use Rattle.rank_shape.proofs.Reorders.{order_whole}
use Rattle.rank_shape.specs.declared.distance.Entry.{Entry}
use Rattle.loop_order.specs.Legal.{IsLegal}
use Rattle.loop_order.specs.Apart.{IsApart}
use Rattle.loop_order.proofs.Turns.{reads_first}
use Rattle.store_laws.specs.Store.{Statement, direct, deferred, Keeps, Ignores, IsStill, Commutes, StopsAlike}
use Rattle.store_laws.specs.Legal.{IsTold, KeepsPlaces, IsFree}
use Rattle.store_laws.proofs.StoreLaws.{direct_deferred, deferred_permuted}

-- what holds of each x for all later items holds for all later items of each x
pub each_of_later : {A B : Type 0} (R : B → A → A → Type 0) (ds : List B) (xs : List A) → Every (λ d. Pairwise (R d) xs) ds →
    Pairwise (λ x y. Every (λ d. R d x y) ds) xs
each_of_later R [] xs h = Pairwise-all (λ x y. Unit {0}) (λ x y. tt) xs
each_of_later R (d ∷ ds) xs h = Pairwise-both (R d) (λ x y. Every (λ e. R e x y) ds) xs h.0 (each_of_later R ds xs h.1)

pub join_back : {A : Type 0} (xs ys : List A) {zs : List A} → Permuted xs zs → Permuted ys zs → Permuted xs ys
join_back xs ys p q = join p (permuted_back q)

module _ {S V F : Type 0} (statement : Statement (List ℕ) S V F) (Sound : S → Type 0) (May : List ℕ → V → Type 0) (rank : ℕ)
    (extents : List ℕ) (order : List Level) where
  -- later turns of a legal order ignore what earlier ones store
  pub later_ignore : (distances : List (List Entry)) → length extents ≡ rank → IsOrder rank order → IsLegal order distances →
      IsTold statement Sound May extents distances → Pairwise (Ignores statement Sound May) (tour order extents)
  later_ignore distances long holds legal known =
      let whole = order_whole rank extents order long holds in
      Pairwise-weaker_on (IsPlace extents) (λ stores reads. (stores ≢ reads) × Every (λ d. IsApart d stores reads → ⊥) distances)
      (Ignores statement Sound May)
      (λ stores reads stores_in reads_in apart.
      elim (known.told stores reads stores_in reads_in apart.0) [
        | inl ignores ↦ ignores
        | inr at ↦ absurd (each_has (λ d. IsApart d stores reads → ⊥) distances at.0 apart.1 at.1.0 at.1.1)
      ])
      (tour order extents) whole.within
      (Pairwise-both (λ stores reads. stores ≢ reads) (λ stores reads. Every (λ d. IsApart d stores reads → ⊥) distances)
      (tour order extents) whole.once
      (each_of_later (λ d stores reads. IsApart d stores reads → ⊥) distances (tour order extents)
      (reads_first rank order distances extents holds legal)))

  pub places_keep : length extents ≡ rank → IsOrder rank order → KeepsPlaces statement Sound May extents →
      Every (Keeps statement Sound May) (tour order extents)
  places_keep long holds keeps =
      Every-weaker (IsPlace extents) (Keeps statement Sound May) (λ place inside. keeps.each place inside) (tour order extents)
      (order_whole rank extents order long holds).within

  pub legal_direct : (distances : List (List Entry)) (s : S) → length extents ≡ rank → IsOrder rank order → IsLegal order distances
      → IsTold statement Sound May extents distances → KeepsPlaces statement Sound May extents → Sound s →
      direct statement (tour order extents) s ≡ deferred statement (tour order extents) s
  legal_direct distances s long holds legal known keeps sound =
      direct_deferred statement Sound May (tour order extents) s (places_keep long holds keeps)
      (later_ignore distances long holds legal known) sound

  pub any_order_deferred : (s : S) → length extents ≡ rank → IsOrder rank order → KeepsPlaces statement Sound May extents →
      IsFree statement Sound May extents s → Sound s → deferred statement (tour order extents) s
      ≡ deferred statement (tour (element_order_of rank) extents) s
  any_order_deferred s long holds keeps free sound =
      let whole = order_whole rank extents order long holds in
      let elements = order_whole rank extents (element_order_of rank) long (element_is_order rank) in
      deferred_permuted statement Sound May s
      (join_back (tour order extents) (tour (element_order_of rank) extents) whole.reordered elements.reordered) sound
      (places_keep long holds keeps)
      (Every-weaker (IsPlace extents) (IsStill statement Sound) (λ place inside. free.still place inside) (tour order extents)
      whole.within)
      (Pairwise-weaker_on (IsPlace extents) (λ a b. a ≢ b) (Commutes statement Sound May)
      (λ a b a_in b_in apart. free.commutes a b a_in b_in apart) (tour order extents) whole.within whole.once)
      (Pairwise-weaker_on (IsPlace extents) (λ a b. a ≢ b) (StopsAlike statement s)
      (λ a b a_in b_in apart. free.stops_alike a b a_in b_in) (tour order extents) whole.within whole.once)

  pub legal_assigned : (distances : List (List Entry)) (s : S) → length extents ≡ rank → IsOrder rank order →
      IsLegal order distances → IsTold statement Sound May extents distances → KeepsPlaces statement Sound May extents →
      IsFree statement Sound May extents s → Sound s → direct statement (tour order extents) s
      ≡ deferred statement (tour (element_order_of rank) extents) s
  legal_assigned distances s long holds legal known keeps free sound =
      legal_direct distances s long holds legal known keeps sound ∙ any_order_deferred s long holds keeps free sound
