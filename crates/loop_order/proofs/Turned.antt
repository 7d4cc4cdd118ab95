-- Loops that all run the other way meet the same places from last to first.
use Rattle.std.proofs.Common.{◌≡◌, ℕ, ◌-◌, Bool, true, false, not, List, [], ◌∷◌, ◌++◌, get_or, set, map, reverse, refl, sym, ap}
use Rattle.std.proofs.Common.{◌∙◌, subst}
use Rattle.std.specs.Prelude.{IsTrue}
use Rattle.std.specs.List.{flat_map}
use Rattle.std.proofs.lemmas.List.{reverse-append, reverse-reverse, append-nil}
use Rattle.std.proofs.lemmas.List.Concat.{flat_map-append}
use Rattle.a95_base.specs.Lists.{Every, Pairwise, Permuted, count_to, down_to_one}
use Rattle.a95_base.proofs.Lists.{Every-weaker, Every-all, flat_map_agree}
use Rattle.rank_shape.specs.declared.distance.Entry.{Entry}
use Rattle.rank_shape.specs.Order.{Level, IsOrder, loops_of}
use Rattle.rank_shape.specs.Walk.{turns_of, tour_from, tour}
use Rattle.loop_order.specs.Legal.{settles, IsLegal, turned}
use Rattle.loop_order.specs.Apart.{IsApart}
use Rattle.loop_order.proofs.Turns.{Pairwise-reverse, never_later_in}

reverse-flat_map : {A B : Type 0} (f : A → List B) (xs : List A) → reverse (flat_map f xs)
    ≡ flat_map (λ x. reverse (f x)) (reverse xs)
reverse-flat_map f [] = refl
reverse-flat_map f (x ∷ xs) =
    reverse-append (f x) (flat_map f xs)
    ∙ ap (λ ys. ys ++ reverse (f x)) (reverse-flat_map f xs)
    ∙ ap (λ ys. flat_map (λ y. reverse (f y)) (reverse xs) ++ ys) (sym (append-nil (reverse (f x))))
    ∙ sym (ap (flat_map (λ y. reverse (f y))) (reverse-append (x ∷ []) xs)
    ∙ flat_map-append (λ y. reverse (f y)) (reverse xs) (x ∷ []))

turns_turned : (down : Bool) (extent : ℕ) → turns_of (not down) extent ≡ reverse (turns_of down extent)
turns_turned false extent = refl
turns_turned true extent = sym (reverse-reverse (count_to extent))

tour_turned : (order : List Level) (extents place : List ℕ) → tour_from (turned order) extents place
    ≡ reverse (tour_from order extents place)
tour_turned [] extents place = refl
tour_turned (level ∷ inner) extents place =
    let k : ℕ = level.number - 1 in
    let extent : ℕ = get_or extents k 0 in
    ap (flat_map (λ i. tour_from (turned inner) extents (set place k i))) (turns_turned level.down extent)
    ∙ flat_map_agree (λ i. tour_from (turned inner) extents (set place k i))
    (λ i. reverse (tour_from inner extents (set place k i))) (reverse (turns_of level.down extent))
    (Every-all (λ i. tour_from (turned inner) extents (set place k i) ≡ reverse (tour_from inner extents (set place k i)))
    (λ i. tour_turned inner extents (set place k i)) (reverse (turns_of level.down extent)))
    ∙ sym (reverse-flat_map (λ i. tour_from inner extents (set place k i)) (turns_of level.down extent))

turned_loops : (order : List Level) → loops_of order ≡ loops_of (turned order)
turned_loops [] = refl
turned_loops (level ∷ inner) = ap (λ ns. level.number ∷ ns) (turned_loops inner)

turned_order : (rank : ℕ) (order : List Level) → IsOrder rank order → IsOrder rank (turned order)
turned_order rank order holds = let P : List ℕ → Type 0 = λ ns. Permuted ns (down_to_one rank) in subst P (turned_loops order) holds

pub never_earlier_in : (rank : ℕ) (order : List Level) (distance : List Entry) (extents : List ℕ) → IsOrder rank order →
    IsTrue (settles (turned order) distance) → Pairwise (λ reads stores. IsApart distance stores reads → ⊥) (tour order extents)
never_earlier_in rank order distance extents holds settled =
    let walk : List (List ℕ) = tour (turned order) extents in
    let back : reverse walk ≡ tour order extents = ap reverse (tour_turned order extents (map (λ extent. 0) extents))
    ∙ reverse-reverse (tour order extents) in
    let P : List (List ℕ) → Type 0 = λ xs. Pairwise (λ reads stores. IsApart distance stores reads → ⊥) xs in
    subst P back
    (Pairwise-reverse (λ stores reads. IsApart distance stores reads → ⊥) walk
    (never_later_in rank (turned order) distance extents (turned_order rank order holds) settled))

pub stores_first : (rank : ℕ) (order : List Level) (distances : List (List Entry)) (extents : List ℕ) → IsOrder rank order →
    IsLegal (turned order) distances →
    Every (λ distance. Pairwise (λ reads stores. IsApart distance stores reads → ⊥) (tour order extents)) distances
stores_first rank order distances extents holds legal =
    Every-weaker (λ distance. IsTrue (settles (turned order) distance))
    (λ distance. Pairwise (λ reads stores. IsApart distance stores reads → ⊥) (tour order extents))
    (λ distance settled. never_earlier_in rank order distance extents holds settled) distances legal
