-- The walk in any order is a reordering of the walk in array element order, and has every place of the shape once.
use Rattle.std.proofs.Common.{◌≡◌, ◌≢◌, ℕ, ◌-◌, ◌<◌, Bool, true, false, List, [], ◌∷◌, length, get_or, set, map, sym, ap, ◌∙◌}
use Rattle.std.proofs.Common.{subst, inl, inr, arith}
use Rattle.std.specs.List.{flat_map}
use Rattle.std.proofs.lemmas.Bool.{cases_eq}
use Rattle.std.proofs.lemmas.List.{set_comm, length-map}
use Rattle.a95_base.specs.Lists.{Pairwise, Member, Permuted, count_to, down_to_one}
use Rattle.a95_base.specs.Lists.Permuted.{none, skip, swap, join}
use Rattle.a95_base.proofs.Lists.{each_below, Every-all, flat_map_agree, Member-map, Member-count_to, count_to_rises, Pairwise-map}
use Rattle.a95_base.proofs.Lists.{Pairwise-weaker_on, length-count_to}
use Rattle.a95_base.proofs.Permuted.{Permuted-reverse, permuted_same, permuted_equal, permuted_back, Permuted-Member}
use Rattle.a95_base.proofs.Permuted.{Permuted-Pairwise, Permuted-length, Permuted-flat_map, Permuted-pieces, loops_turned}
use Rattle.rank_shape.specs.Shape.{size_of, number_of, place_at, places_of}
use Rattle.rank_shape.specs.Order.{Level, IsOrder, loops_of, element_order_of}
use Rattle.rank_shape.specs.Walk.{turns_of, tour_from, tour, IsWhole}
use Rattle.rank_shape.proofs.Numbers.{number_below, number_of-place_at, place_at-number_of}
use Rattle.rank_shape.proofs.Orders.{element_loops}
use Rattle.rank_shape.proofs.Elements.{order_within, element_tour}

-- nested loops that all run forwards, by their numbers
tour_up : List ℕ → List ℕ → List ℕ → List (List ℕ)
tour_up [] extents place = place ∷ []
tour_up (n ∷ numbers) extents place = flat_map (λ i. tour_up numbers extents (set place (n - 1) i))
    (count_to (get_or extents (n - 1) 0))

turns_reordered : (down : Bool) (extent : ℕ) → Permuted (turns_of down extent) (count_to extent)
turns_reordered false extent = permuted_same (count_to extent)
turns_reordered true extent = Permuted-reverse (count_to extent)

-- directions make a reordering
forwards : (order : List Level) (extents place : List ℕ) → Permuted (tour_from order extents place)
    (tour_up (loops_of order) extents place)
unfolding tour_up
forwards [] extents place = permuted_same (place ∷ [])
forwards (level ∷ inner) extents place =
    join (Permuted-flat_map (λ i. tour_from inner extents (set place (level.number - 1) i))
    (turns_reordered level.down (get_or extents (level.number - 1) 0)))
    (Permuted-pieces (λ i. tour_from inner extents (set place (level.number - 1) i))
    (λ i. tour_up (loops_of inner) extents (set place (level.number - 1) i))
    (λ i. forwards inner extents (set place (level.number - 1) i)) (count_to (get_or extents (level.number - 1) 0)))

-- two outer loops over the dimensions a and b
two_loops : List ℕ → List ℕ → List ℕ → ℕ → ℕ → List (List ℕ)
two_loops numbers extents place a b =
    flat_map (λ i. flat_map (λ j. tour_up numbers extents (set (set place a i) b j)) (count_to (get_or extents b 0)))
    (count_to (get_or extents a 0))

two_turned : (numbers extents place : List ℕ) (a b : ℕ) → Permuted (two_loops numbers extents place a b)
    (two_loops numbers extents place b a)
unfolding two_loops
two_turned numbers extents place a b =
    elim (cases_eq a b) [
      | inl same ↦ permuted_equal (two_loops numbers extents place a b) (two_loops numbers extents place b a)
          (ap (λ x. two_loops numbers extents place x b) same ∙ ap (λ x. two_loops numbers extents place b x) (sym same))
      | inr apart ↦
          join (loops_turned (λ i j. tour_up numbers extents (set (set place a i) b j)) (count_to (get_or extents a 0))
          (count_to (get_or extents b 0)))
          (permuted_equal _ (two_loops numbers extents place b a)
          (flat_map_agree (λ j. flat_map (λ i. tour_up numbers extents (set (set place a i) b j)) (count_to (get_or extents a 0)))
          (λ j. flat_map (λ i. tour_up numbers extents (set (set place b j) a i)) (count_to (get_or extents a 0)))
          (count_to (get_or extents b 0))
          (Every-all
          (λ j. flat_map (λ i. tour_up numbers extents (set (set place a i) b j)) (count_to (get_or extents a 0))
          ≡ flat_map (λ i. tour_up numbers extents (set (set place b j) a i)) (count_to (get_or extents a 0)))
          (λ j.
          flat_map_agree (λ i. tour_up numbers extents (set (set place a i) b j))
          (λ i. tour_up numbers extents (set (set place b j) a i)) (count_to (get_or extents a 0))
          (Every-all (λ i. tour_up numbers extents (set (set place a i) b j) ≡ tour_up numbers extents (set (set place b j) a i))
          (λ i. ap (tour_up numbers extents) (set_comm place a b i j apart)) (count_to (get_or extents a 0))))
          (count_to (get_or extents b 0)))))
    ]

loops_reordered : {numbers others : List ℕ} (extents place : List ℕ) → Permuted numbers others →
    Permuted (tour_up numbers extents place) (tour_up others extents place)
unfolding tour_up two_loops
loops_reordered extents place none = permuted_same (place ∷ [])
loops_reordered extents place (skip n {xs = numbers} {ys = others} p) =
    Permuted-pieces (λ i. tour_up numbers extents (set place (n - 1) i)) (λ i. tour_up others extents (set place (n - 1) i))
    (λ i. loops_reordered extents (set place (n - 1) i) p) (count_to (get_or extents (n - 1) 0))
loops_reordered extents place (swap m n numbers) = two_turned numbers extents place (m - 1) (n - 1)
loops_reordered extents place (join p q) = join (loops_reordered extents place p) (loops_reordered extents place q)

pub order_reordered : (rank : ℕ) (extents : List ℕ) (order : List Level) → length extents ≡ rank → IsOrder rank order →
    Permuted (tour order extents) (places_of extents)
order_reordered rank extents order long holds =
    let start : List ℕ = map (λ extent. 0) extents in
    join (forwards order extents start)
    (join (loops_reordered extents start holds)
    (join (permuted_equal (tour_up (down_to_one rank) extents start) (tour_up (loops_of (element_order_of rank)) extents start)
    (ap (λ ns. tour_up ns extents start) (sym (element_loops rank))))
    (join (permuted_back (forwards (element_order_of rank) extents start))
    (permuted_equal (tour (element_order_of rank) extents) (places_of extents) (element_tour rank extents long)))))

places_once : (extents : List ℕ) → Pairwise (λ place later. place ≢ later) (places_of extents)
places_once extents =
    Pairwise-map (λ place later. place ≢ later) (place_at extents) (count_to (size_of extents))
    (Pairwise-weaker_on (λ n. n < size_of extents) (λ j k. j < k) (λ j k. place_at extents j ≢ place_at extents k)
    (λ j k j_in k_in below same.
    let numbers : j ≡ k = sym (number_of-place_at extents j j_in) ∙ ap (number_of extents) same
    ∙ number_of-place_at extents k k_in in
    omega arith)
    (count_to (size_of extents)) (each_below (size_of extents)) (count_to_rises (size_of extents)))

pub order_whole : (rank : ℕ) (extents : List ℕ) (order : List Level) → length extents ≡ rank → IsOrder rank order →
    IsWhole extents (tour order extents)
order_whole rank extents order long holds =
    let reordered : Permuted (tour order extents) (places_of extents) = order_reordered rank extents order long holds in
    record {
      within = order_within rank extents order long holds;
      every =
          λ place inside.
          Permuted-Member place (permuted_back reordered)
          (let P : List ℕ → Type 0 = λ p. Member (places_of extents) p in
          subst P (place_at-number_of extents place inside)
          (Member-map (place_at extents) (count_to (size_of extents)) (number_of extents place)
          (Member-count_to (size_of extents) (number_of extents place) (number_below extents place inside))));
      once = Permuted-Pairwise (λ place later. place ≢ later) (λ a b apart same. apart (sym same)) (permuted_back reordered)
          (places_once extents);
      size = Permuted-length reordered ∙ length-map (count_to (size_of extents)) (place_at extents)
          ∙ length-count_to (size_of extents);
      reordered = reordered;
    }
