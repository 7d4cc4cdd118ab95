-- In a legal order the turn that reads comes no later than the turn that stores.
use Rattle.std.proofs.Common.{◌≡◌, ◌≢◌, ◌⊎◌, ℕ, zero, suc, ◌-◌, ◌<◌, ◌≤◌, Bool, true, false, List, [], ◌∷◌, length, get_or, set}
use Rattle.std.proofs.Common.{map, reverse, refl, sym, ◌∙◌, subst, inl, inr, arith}
use Rattle.std.specs.Prelude.{IsTrue}
use Rattle.std.proofs.lemmas.Bool.{cases_lt, false≢true}
use Rattle.std.proofs.lemmas.List.{reverse-append, get_or_past, get_or-set_same, length-set, length-map}
use Rattle.a95_base.specs.Lists.{Every, Pairwise, count_to, down_to_one}
use Rattle.a95_base.proofs.Lists.{Every-weaker, Every-both, Pairwise-append, Pairwise-weaker_on, Pairwise-all, Pairwise-flat_map}
use Rattle.a95_base.proofs.Lists.{Pairwise-from_map, count_to_rises}
use Rattle.a95_base.proofs.Permuted.{each_from_one, permuted_back, Permuted-Every, Permuted-Pairwise, Permuted-reverse}
use Rattle.rank_shape.specs.declared.distance.Entry.{Entry}
use Rattle.rank_shape.specs.declared.distance.Entry.TheVariants as entry
use Rattle.rank_shape.specs.Order.{Level, IsOrder}
use Rattle.rank_shape.specs.Walk.{turns_of, tour_from, tour}
use Rattle.rank_shape.proofs.Walks.{turns_below, tour_keeps, tour_long}
use Rattle.loop_order.specs.declared.sign.Sign.{Sign}
use Rattle.loop_order.specs.declared.sign.Sign.TheVariants.{Unknown, Still, Up, Down}
use Rattle.loop_order.specs.Legal.{sign_at, meets, settles, IsLegal}
use Rattle.loop_order.specs.Apart.{Differs, IsApart}
use Rattle.loop_order.proofs.Signs.{still_same, up_later, down_earlier}

-- which of two subscripts a loop meets first
abbrev pub Before : Bool → ℕ → ℕ → Type 0
Before false i j = i < j
Before true i j = j < i

pub Pairwise-reverse : {A : Type 0} (R : A → A → Type 0) (xs : List A) → Pairwise R xs → Pairwise (λ x y. R y x) (reverse xs)
Pairwise-reverse R [] h = tt
Pairwise-reverse R (x ∷ xs) h =
    let P : List _ → Type 0 = λ ys. Pairwise (λ a b. R b a) ys in
    subst P (sym (reverse-append (x ∷ []) xs))
    (Pairwise-append (λ a b. R b a) (reverse xs) (x ∷ []) (Pairwise-reverse R xs h.1) (tt, tt)
    (Permuted-Every (λ y. Every (λ z. R z y) (x ∷ [])) (permuted_back (Permuted-reverse xs))
    (Every-weaker (R x) (λ y. Every (λ z. R z y) (x ∷ [])) (λ y r. (r, tt)) xs h.0)))

turns_in_order : (down : Bool) (extent : ℕ) → Pairwise (Before down) (turns_of down extent)
turns_in_order false extent = count_to_rises extent
turns_in_order true extent = Pairwise-reverse (λ j k. j < k) (count_to extent) (count_to_rises extent)

-- the entry of a loop holds between the two turns
pub apart_at : (distance : List Entry) (stores reads : List ℕ) (k : ℕ) → k < length stores → k < length reads →
    IsApart distance stores reads → Differs (get_or distance k entry.Any) (get_or stores k 0) (get_or reads k 0)
apart_at [] stores reads k s r h = tt
apart_at (d ∷ distance) [] reads k s r h = absurd (omega arith)
apart_at (d ∷ distance) (i ∷ stores) [] k s r h = absurd (omega arith)
apart_at (d ∷ distance) (i ∷ stores) (j ∷ reads) zero s r h = h.0
apart_at (d ∷ distance) (i ∷ stores) (j ∷ reads) (suc k) s r h = apart_at distance stores reads k (omega arith) (omega arith) h.1

-- no two turns that differ so in this loop can be such that the second comes later there, or in the same turn of it
never_later : (level : Level) (inner : Bool) (distance : List Entry) (i j : ℕ) →
    IsTrue (meets (sign_at distance level.number) level.down inner) → Before level.down i j →
    Differs (get_or distance (level.number - 1) entry.Any) i j → ⊥
never_later level inner distance i j settled before differs = by_sign level.down (sign_at distance level.number) refl settled before
  where
    by_sign : (down : Bool) (sign : Sign) → sign_at distance level.number ≡ sign → IsTrue (meets sign down inner) →
        Before down i j → ⊥
    by_sign down Unknown is t b = false≢true t
    by_sign false Still is t b = let same = still_same (get_or distance (level.number - 1) entry.Any) i j is differs in omega arith
    by_sign true Still is t b = let same = still_same (get_or distance (level.number - 1) entry.Any) i j is differs in omega arith
    by_sign false Up is t b = false≢true t
    by_sign true Up is t b = let later = up_later (get_or distance (level.number - 1) entry.Any) i j is differs in omega arith
    by_sign false Down is t b = let earlier = down_earlier (get_or distance (level.number - 1) entry.Any) i j is differs in
        omega arith
    by_sign true Down is t b = false≢true t

-- within one turn of a loop: either the loops inside it settle the distance, or it allows no two turns at all
one_turn : (level : Level) (inner : Bool) (distance : List Entry) (i : ℕ) →
    IsTrue (meets (sign_at distance level.number) level.down inner) →
    IsTrue inner ⊎ (Differs (get_or distance (level.number - 1) entry.Any) i i → ⊥)
one_turn level inner distance i settled = by_sign (sign_at distance level.number) refl settled
  where
    by_sign : (sign : Sign) → sign_at distance level.number ≡ sign → IsTrue (meets sign level.down inner) →
        IsTrue inner ⊎ (Differs (get_or distance (level.number - 1) entry.Any) i i → ⊥)
    by_sign Unknown is t = absurd (false≢true t)
    by_sign Still is t = inl t
    by_sign Up is t =
        inr (λ differs. let later = up_later (get_or distance (level.number - 1) entry.Any) i i is differs in omega arith)
    by_sign Down is t =
        inr (λ differs. let earlier = down_earlier (get_or distance (level.number - 1) entry.Any) i i is differs in omega arith)

-- the dimensions of two levels differ
pub LevelApart : Level → Level → Type 0
LevelApart level other = other.number - 1 ≢ level.number - 1

numbers_apart : (n : ℕ) → Pairwise (λ a b. b - 1 ≢ a - 1) (down_to_one n)
numbers_apart zero = tt
numbers_apart (suc n) = (
  Every-weaker (λ b. (1 ≤ b) × (b ≤ n)) (λ b. b - 1 ≢ suc n - 1) (λ b known same. omega (arith, known.0, known.1))
      (down_to_one n) (each_from_one n n (omega arith)),
  numbers_apart n,
)

pub order_apart : (rank : ℕ) (order : List Level) → IsOrder rank order → Pairwise LevelApart order
unfolding LevelApart
order_apart rank order holds =
    Pairwise-from_map (λ a b. b - 1 ≢ a - 1) (λ level. level.number) order
    (Permuted-Pairwise (λ a b. b - 1 ≢ a - 1) (λ a b apart same. apart (sym same)) (permuted_back holds) (numbers_apart rank))

-- a turn in which the loop over this dimension has come to i
record AtTurn (k i : ℕ) (place : List ℕ) : Type 0 where
  is : get_or place k 0 ≡ i
  inside : k < length place

at_turn : (level : Level) (inner : List Level) (extents place : List ℕ) (i : ℕ) →
    Every (λ other. other.number - 1 ≢ level.number - 1) inner → length place ≡ length extents →
    i < get_or extents (level.number - 1) 0 → Every (AtTurn (level.number - 1) i)
    (tour_from inner extents (set place (level.number - 1) i))
at_turn level inner extents place i apart long below =
    let k : ℕ = level.number - 1 in
    let start : List ℕ = set place k i in
    let inside : k < length place =
    elim (cases_lt k (length extents))
    [ inl h ↦ omega arith | inr past ↦ (let gone = get_or_past extents k 0 past in absurd (omega arith)) ] in
    Every-weaker (λ p. (get_or p k 0 ≡ get_or start k 0) × (length p ≡ length start)) (AtTurn k i)
    (λ p known. record { is = known.0 ∙ get_or-set_same place k i 0 inside; inside = omega (arith, known.1, length-set place k i) })
    (tour_from inner extents start)
    (Every-both (λ p. get_or p k 0 ≡ get_or start k 0) (λ p. length p ≡ length start) (tour_from inner extents start)
    (tour_keeps inner extents start k apart) (tour_long inner extents start))

differs_at : (distance : List Entry) (k i j : ℕ) (stores reads : List ℕ) → AtTurn k i stores → AtTurn k j reads →
    IsApart distance stores reads → Differs (get_or distance k entry.Any) i j
differs_at distance k i j stores reads at_i at_j apart =
    let P : ℕ → Type 0 = λ x. Differs (get_or distance k entry.Any) x (get_or reads k 0) in
    let Q : ℕ → Type 0 = λ y. Differs (get_or distance k entry.Any) i y in
    subst Q at_j.is (subst P at_i.is (apart_at distance stores reads k at_i.inside at_j.inside apart))

-- no later turn of the loops reads what an earlier one stores
never_later_from : (order : List Level) (distance : List Entry) (extents place : List ℕ) → IsTrue (settles order distance) →
    Pairwise LevelApart order → length place ≡ length extents →
    Pairwise (λ stores reads. IsApart distance stores reads → ⊥) (tour_from order extents place)
unfolding LevelApart
never_later_from [] distance extents place settled apart long = (tt, tt)
never_later_from (level ∷ inner) distance extents place settled apart long =
    let k : ℕ = level.number - 1 in
    let extent : ℕ = get_or extents k 0 in
    let turns : List ℕ = turns_of level.down extent in
    let piece : ℕ → List (List ℕ) = λ i. tour_from inner extents (set place k i) in
    let at : (i : ℕ) → i < extent → Every (AtTurn k i) (piece i) =
    λ i below. at_turn level inner extents place i apart.0 long below in
    Pairwise-flat_map (λ stores reads. IsApart distance stores reads → ⊥) piece turns
    (Every-weaker (λ i. i < extent) (λ i. Pairwise (λ stores reads. IsApart distance stores reads → ⊥) (piece i))
    (λ i below.
    elim (one_turn level (settles inner distance) distance i settled) [
      | inl inside ↦ never_later_from inner distance extents (set place k i) inside apart.1 (length-set place k i ∙ long)
      | inr impossible ↦
          Pairwise-weaker_on (AtTurn k i) (λ stores reads. Unit {0}) (λ stores reads. IsApart distance stores reads → ⊥)
          (λ stores reads at_i at_j u h. impossible (differs_at distance k i i stores reads at_i at_j h)) (piece i) (at i below)
          (Pairwise-all (λ stores reads. Unit {0}) (λ stores reads. tt) (piece i))
    ])
    turns (turns_below level.down extent))
    (Pairwise-weaker_on (λ i. i < extent) (Before level.down)
    (λ i j. Every (λ stores. Every (λ reads. IsApart distance stores reads → ⊥) (piece j)) (piece i))
    (λ i j i_below j_below before.
    Every-weaker (AtTurn k i) (λ stores. Every (λ reads. IsApart distance stores reads → ⊥) (piece j))
    (λ stores at_i.
    Every-weaker (AtTurn k j) (λ reads. IsApart distance stores reads → ⊥)
    (λ reads at_j h. never_later level (settles inner distance) distance i j settled before
    (differs_at distance k i j stores reads at_i at_j h)) (piece j) (at j j_below))
    (piece i) (at i i_below))
    turns (turns_below level.down extent) (turns_in_order level.down extent))

pub never_later_in : (rank : ℕ) (order : List Level) (distance : List Entry) (extents : List ℕ) → IsOrder rank order →
    IsTrue (settles order distance) → Pairwise (λ stores reads. IsApart distance stores reads → ⊥) (tour order extents)
never_later_in rank order distance extents holds settled =
    never_later_from order distance extents (map (λ extent. 0) extents) settled (order_apart rank order holds)
    (length-map extents (λ extent. 0))

pub reads_first : (rank : ℕ) (order : List Level) (distances : List (List Entry)) (extents : List ℕ) → IsOrder rank order →
    IsLegal order distances → Every (λ distance. Pairwise (λ stores reads. IsApart distance stores reads → ⊥) (tour order extents))
    distances
reads_first rank order distances extents holds legal =
    Every-weaker (λ distance. IsTrue (settles order distance))
    (λ distance. Pairwise (λ stores reads. IsApart distance stores reads → ⊥) (tour order extents))
    (λ distance settled. never_later_in rank order distance extents holds settled) distances legal
