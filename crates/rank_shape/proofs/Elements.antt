-- The walk in array element order: all places by number.
use Rattle.std.proofs.Common.{◌≡◌, ◌≢◌, ℕ, zero, suc, ◌+◌, ◌*◌, ◌-◌, ◌<◌, ◌≤◌, List, [], ◌∷◌, ◌++◌, length, get_or, set, take, map}
use Rattle.std.proofs.Common.{refl, sym, ap, ◌∙◌, inl, arith, append_assoc}
use Rattle.std.specs.List.{flat_map}
use Rattle.std.proofs.Math.Nat.{mul_assoc, mul_comm, add_comm}
use Rattle.std.proofs.lemmas.List.{get_or-set_same, length-set, take_all, map-append, append-nil, length-map}
use Rattle.std.proofs.lemmas.List.Concat.{flat_map-append}
use Rattle.a95_base.specs.Lists.{Every, Member, count_to}
use Rattle.a95_base.proofs.Lists.{Every-weaker, Every-both, Every-all, map_agree, flat_map_agree, map-flat_map}
use Rattle.rank_shape.specs.Shape.{IsPlace, size_of, number_of, place_at, places_of}
use Rattle.rank_shape.specs.Order.{Level, IsOrder, loops_of, element_order_of}
use Rattle.rank_shape.specs.Walk.{tour_from, tour}
use Rattle.rank_shape.proofs.Numbers.{place_at-number_of}
use Rattle.rank_shape.proofs.Walks.{tour_keeps, tour_long, tour_within}
use Rattle.rank_shape.proofs.Orders.{element_is_order}
use Rattle.a95_base.proofs.Permuted.{Member-down_to_one, permuted_back, Permuted-Member}

size_of_take : (extents : List ℕ) (n : ℕ) → n < length extents → size_of (take (suc n) extents) ≡ size_of (take n extents)
    * get_or extents n 0
size_of_take [] n below = absurd (omega arith)
size_of_take (e ∷ extents) zero below = grind arith
size_of_take (e ∷ extents) (suc n) below =
    ap (λ x. e * x) (size_of_take extents n (omega arith)) ∙ sym (mul_assoc e (size_of (take n extents)) (get_or extents n 0))

spread : (i e n g s x : ℕ) → x ≡ n + g * s → i + e * x ≡ (i + e * n) + g * (e * s)
spread i e n g s x is = omega (arith, ap (λ y. e * y) is)

number_of_take : (extents place : List ℕ) (n : ℕ) → n < length extents → length place ≡ length extents →
    number_of (take (suc n) extents) (take (suc n) place) ≡ number_of (take n extents) (take n place) + get_or place n 0
    * size_of (take n extents)
number_of_take [] place n below long = absurd (omega arith)
number_of_take (e ∷ extents) [] n below long = absurd (omega arith)
number_of_take (e ∷ extents) (i ∷ place) zero below long = grind arith
number_of_take (e ∷ extents) (i ∷ place) (suc n) below long =
    spread i e (number_of (take n extents) (take n place)) (get_or place n 0) (size_of (take n extents))
    (number_of (take (suc n) extents) (take (suc n) place))
    (number_of_take extents place n (omega arith) (omega arith))

-- 0 to a + b - 1 is 0 to a - 1 and then a to a + b - 1
count_to_sum : (a b : ℕ) → count_to (a + b) ≡ count_to a ++ map (λ x. x + a) (count_to b)
count_to_sum a zero = let none : a + 0 ≡ a = omega arith in ap count_to none ∙ sym (append-nil (count_to a))
count_to_sum a (suc b) =
    let more : a + suc b ≡ suc (a + b) = omega arith in
    ap count_to more
    ∙ ap (λ xs. xs ++ (a + b) ∷ []) (count_to_sum a b)
    ∙ append_assoc (count_to a) (map (λ x. x + a) (count_to b)) ((a + b) ∷ [])
    ∙ ap (λ xs. count_to a ++ xs)
    (ap (λ n. map (λ x. x + a) (count_to b) ++ n ∷ []) (add_comm a b) ∙ sym (map-append (λ x. x + a) (count_to b) (b ∷ [])))

count_blocks : (m n : ℕ) → flat_map (λ i. map (λ x. x + i * m) (count_to m)) (count_to n) ≡ count_to (m * n)
count_blocks m zero = let none : 0 ≡ m * 0 = omega arith in ap count_to none
count_blocks m (suc n) =
    flat_map-append (λ i. map (λ x. x + i * m) (count_to m)) (count_to n) (n ∷ [])
    ∙ ap (λ xs. xs ++ (map (λ x. x + n * m) (count_to m) ++ [])) (count_blocks m n)
    ∙ ap (λ xs. count_to (m * n) ++ xs) (append-nil (map (λ x. x + n * m) (count_to m)))
    ∙ ap (λ k. count_to (m * n) ++ map (λ x. x + k) (count_to m)) (mul_comm n m)
    ∙ sym (count_to_sum (m * n) m)
    ∙ (let one_more : m * n + m ≡ m * suc n = omega arith in ap count_to one_more)

map_twice : {A B C : Type 0} (f : A → B) (g : B → C) (xs : List A) → map g (map f xs) ≡ map (λ x. g (f x)) xs
map_twice f g [] = refl
map_twice f g (x ∷ xs) = ap (λ ys. g (f x) ∷ ys) (map_twice f g xs)

element_loops_below : (m n : ℕ) → m ≤ n → Every (λ level. level.number - 1 ≢ n) (element_order_of m)
element_loops_below zero n below = tt
element_loops_below (suc m) n below = (omega arith, element_loops_below m n (omega arith))

piece_numbers : (n : ℕ) (extents place : List ℕ) (i : ℕ) → n < length extents → length place ≡ length extents →
    map (λ p. number_of (take n extents) (take n p)) (tour_from (element_order_of n) extents (set place n i))
    ≡ count_to (size_of (take n extents)) → map (λ p. number_of (take (suc n) extents) (take (suc n) p))
    (tour_from (element_order_of n) extents (set place n i))
    ≡ map (λ x. x + i * size_of (take n extents)) (count_to (size_of (take n extents)))
piece_numbers n extents place i below long inner =
    let size : ℕ = size_of (take n extents) in
    let start : List ℕ = set place n i in
    let piece : List (List ℕ) = tour_from (element_order_of n) extents start in
    map_agree (λ p. number_of (take (suc n) extents) (take (suc n) p)) (λ p. number_of (take n extents) (take n p) + i * size) piece
    (Every-weaker (λ p. (get_or p n 0 ≡ get_or start n 0) × (length p ≡ length start))
    (λ p. number_of (take (suc n) extents) (take (suc n) p) ≡ number_of (take n extents) (take n p) + i * size)
    (λ p known.
    number_of_take extents p n below (known.1 ∙ length-set place n i ∙ long)
    ∙ ap (λ x. number_of (take n extents) (take n p) + x * size) (known.0 ∙ get_or-set_same place n i 0 (omega arith)))
    piece
    (Every-both (λ p. get_or p n 0 ≡ get_or start n 0) (λ p. length p ≡ length start) piece
    (tour_keeps (element_order_of n) extents start n (element_loops_below n n (omega arith)))
    (tour_long (element_order_of n) extents start)))
    ∙ sym (map_twice (λ p. number_of (take n extents) (take n p)) (λ x. x + i * size) piece)
    ∙ ap (map (λ x. x + i * size)) inner

-- the numbers of the places that the loops from n down meet, as far as their dimensions go
element_numbers : (n : ℕ) (extents place : List ℕ) → n ≤ length extents → length place ≡ length extents →
    map (λ p. number_of (take n extents) (take n p)) (tour_from (element_order_of n) extents place)
    ≡ count_to (size_of (take n extents))
element_numbers zero extents place below long = refl
element_numbers (suc n) extents place below long =
    let size : ℕ = size_of (take n extents) in
    let dim : suc n - 1 ≡ n = omega arith in
    ap (λ k. map (λ p. number_of (take (suc n) extents) (take (suc n) p))
    (flat_map (λ i. tour_from (element_order_of n) extents (set place k i)) (count_to (get_or extents k 0)))) dim
    ∙ map-flat_map (λ i. tour_from (element_order_of n) extents (set place n i))
    (λ p. number_of (take (suc n) extents) (take (suc n) p)) (count_to (get_or extents n 0))
    ∙ flat_map_agree
    (λ i. map (λ p. number_of (take (suc n) extents) (take (suc n) p)) (tour_from (element_order_of n) extents (set place n i)))
    (λ i. map (λ x. x + i * size) (count_to size)) (count_to (get_or extents n 0))
    (Every-all
    (λ i. map (λ p. number_of (take (suc n) extents) (take (suc n) p)) (tour_from (element_order_of n) extents (set place n i))
    ≡ map (λ x. x + i * size) (count_to size))
    (λ i. piece_numbers n extents place i below long
    (element_numbers n extents (set place n i) (omega arith) (length-set place n i ∙ long))) (count_to (get_or extents n 0)))
    ∙ count_blocks size (get_or extents n 0)
    ∙ ap count_to (sym (size_of_take extents n below))

map_same : {A : Type 0} (xs : List A) → map (λ (x : A). x) xs ≡ xs
map_same [] = refl
map_same (x ∷ xs) = ap (λ ys. x ∷ ys) (map_same xs)

-- an order has a loop for each dimension
pub order_covers : (rank : ℕ) (order : List Level) (k : ℕ) → IsOrder rank order → k < rank → Member (loops_of order) (suc k)
order_covers rank order k holds below = Permuted-Member (suc k) (permuted_back holds)
    (Member-down_to_one rank (suc k) (omega arith) below)

pub order_within : (rank : ℕ) (extents : List ℕ) (order : List Level) → length extents ≡ rank → IsOrder rank order →
    Every (IsPlace extents) (tour order extents)
order_within rank extents order long holds =
    tour_within order extents (map (λ extent. 0) extents) (length-map extents (λ extent. 0))
    (λ k below. inl (order_covers rank order k holds (omega arith)))

-- the walk in array element order has the places by their numbers
pub element_tour : (rank : ℕ) (extents : List ℕ) → length extents ≡ rank → tour (element_order_of rank) extents ≡ places_of extents
element_tour rank extents long =
    let start : List ℕ = map (λ extent. 0) extents in
    let walk : List (List ℕ) = tour (element_order_of rank) extents in
    let start_long : length start ≡ length extents = length-map extents (λ extent. 0) in
    let numbers : map (number_of extents) walk ≡ count_to (size_of extents) =
    map_agree (number_of extents) (λ p. number_of (take rank extents) (take rank p)) walk
    (Every-weaker (λ p. length p ≡ length start) (λ p. number_of extents p ≡ number_of (take rank extents) (take rank p))
    (λ p is. sym
    (ap (λ es. number_of es (take rank p)) (take_all rank extents (omega arith))
    ∙ ap (number_of extents) (take_all rank p (omega arith))))
    walk (tour_long (element_order_of rank) extents start))
    ∙ element_numbers rank extents start (omega arith) start_long
    ∙ ap (λ es. count_to (size_of es)) (take_all rank extents (omega arith)) in
    sym (map_same walk)
    ∙ map_agree (λ p. p) (λ p. place_at extents (number_of extents p)) walk
    (Every-weaker (IsPlace extents) (λ p. p ≡ place_at extents (number_of extents p))
    (λ p inside. sym (place_at-number_of extents p inside)) walk
    (order_within rank extents (element_order_of rank) long (element_is_order rank)))
    ∙ sym (map_twice (number_of extents) (place_at extents) walk)
    ∙ ap (map (place_at extents)) numbers
