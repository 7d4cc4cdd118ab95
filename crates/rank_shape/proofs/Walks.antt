-- What the places of nested loops are: their number, their ranges, and those of array element order.
use Rattle.std.proofs.Common.{◌≡◌, ◌≢◌, ◌⊎◌, ℕ, zero, suc, ◌+◌, ◌*◌, ◌/◌, ◌%◌, ◌-◌, ◌<◌, Bool, true, false, List, [], ◌∷◌, ◌++◌}
use Rattle.std.proofs.Common.{length, get_or, set, refl, sym, ap, ◌∙◌, subst, inl, inr, arith, length-append}
use Rattle.std.specs.List.{flat_map}
use Rattle.std.proofs.lemmas.Nat.{mod_below, div_below, div-add-mod'}
use Rattle.std.proofs.lemmas.Bool.{cases_eq}
use Rattle.std.proofs.lemmas.List.{length-reverse, get_or-reverse, get_or_append_left, get_or-append-add, get_or-set_same}
use Rattle.std.proofs.lemmas.List.{get_or-set_other, length-set}
use Rattle.a95_base.specs.Lists.{Every, Member, count_to}
use Rattle.a95_base.proofs.Lists.{length-count_to, get_or-count_to, each_below, Every-weaker, Every-flat_map, Every-all}
use Rattle.a95_base.proofs.Permuted.{Permuted-reverse, permuted_back, Permuted-Every}
use Rattle.rank_shape.specs.Shape.{IsPlace}
use Rattle.rank_shape.specs.Order.{Level, loops_of}
use Rattle.rank_shape.specs.Walk.{turns_of, tour_from}
use Rattle.rank_shape.specs.Turn.{turns_in, subscript_at, visited}

pub length-turns_of : (down : Bool) (extent : ℕ) → length (turns_of down extent) ≡ extent
length-turns_of false extent = length-count_to extent
length-turns_of true extent = length-reverse (count_to extent) ∙ length-count_to extent

pub get_or-turns_of : (down : Bool) (extent k d : ℕ) → k < extent → get_or (turns_of down extent) k d ≡ subscript_at down extent k
get_or-turns_of false extent k d below = get_or-count_to extent k d below
get_or-turns_of true extent k d below =
    get_or-reverse (count_to extent) k d (omega (arith, length-count_to extent))
    ∙ ap (λ n. get_or (count_to extent) (n - 1 - k) d) (length-count_to extent)
    ∙ get_or-count_to extent (extent - 1 - k) d (omega arith)

pub turns_below : (down : Bool) (extent : ℕ) → Every (λ i. i < extent) (turns_of down extent)
turns_below false extent = each_below extent
turns_below true extent = Permuted-Every (λ i. i < extent) (permuted_back (Permuted-reverse (count_to extent))) (each_below extent)

-- ---- pieces of one length

pub length_pieces : {A B : Type 0} (f : A → List B) (m : ℕ) → ((x : A) → length (f x) ≡ m) → (xs : List A) → length (flat_map f xs)
    ≡ length xs * m
length_pieces f m each [] = omega arith
length_pieces f m each (x ∷ xs) = grind (arith, length-append (f x) (flat_map f xs), each x, length_pieces f m each xs)

pub get_or-pieces : {A B : Type 0} (f : A → List B) (m : ℕ) → ((x : A) → length (f x) ≡ m) → (xs : List A) (i j : ℕ) (e : A) (d : B)
    → i < length xs → j < m → get_or (flat_map f xs) (i * m + j) d ≡ get_or (f (get_or xs i e)) j d
get_or-pieces f m each [] i j e d in_list below = absurd (omega arith)
get_or-pieces f m each (x ∷ xs) zero j e d in_list below =
    ap (λ k. get_or (f x ++ flat_map f xs) k d) (omega arith) ∙ get_or_append_left (f x) (flat_map f xs) d j (omega (arith, each x))
get_or-pieces f m each (x ∷ xs) (suc i) j e d in_list below =
    ap (λ k. get_or (f x ++ flat_map f xs) k d) (grind (arith, each x))
    ∙ get_or-append-add (f x) (flat_map f xs) (i * m + j) d
    ∙ get_or-pieces f m each xs i j e d (omega arith) below

-- ---- the turns of nested loops

pub tour_length : (order : List Level) (extents place : List ℕ) → length (tour_from order extents place) ≡ turns_in order extents
tour_length [] extents place = refl
tour_length (level ∷ inner) extents place =
    length_pieces (λ i. tour_from inner extents (set place (level.number - 1) i)) (turns_in inner extents)
    (λ i. tour_length inner extents (set place (level.number - 1) i)) (turns_of level.down (get_or extents (level.number - 1) 0))
    ∙ ap (λ n. n * turns_in inner extents) (length-turns_of level.down (get_or extents (level.number - 1) 0))

pub positive : (a m n : ℕ) → n < a * m → 0 < m
positive a zero n h = absurd (omega arith)
positive a (suc m) n h = omega arith

pub tour_turn : (order : List Level) (extents place : List ℕ) (turn : ℕ) (d : List ℕ) → turn < turns_in order extents →
    get_or (tour_from order extents place) turn d ≡ visited order extents place turn
tour_turn [] extents place turn d below =
    let first : turn ≡ 0 = omega arith in ap (λ k. get_or (place ∷ []) k d) first
tour_turn (level ∷ inner) extents place turn d below =
    let extent : ℕ = get_or extents (level.number - 1) 0 in
    let m : ℕ = turns_in inner extents in
    let i : ℕ = turn / m in
    let j : ℕ = turn % m in
    let some : 0 < m = positive extent m turn below in
    let row : i < extent = div_below turn m extent some below in
    ap (λ k. get_or (flat_map (λ x. tour_from inner extents (set place (level.number - 1) x)) (turns_of level.down extent)) k d)
    (sym (div-add-mod' turn m))
    ∙ get_or-pieces (λ x. tour_from inner extents (set place (level.number - 1) x)) m
    (λ x. tour_length inner extents (set place (level.number - 1) x)) (turns_of level.down extent) i j 0 d
    (omega (arith, length-turns_of level.down extent)) (mod_below turn m some)
    ∙ ap (λ x. get_or (tour_from inner extents (set place (level.number - 1) x)) j d) (get_or-turns_of level.down extent i 0 row)
    ∙ tour_turn inner extents (set place (level.number - 1) (subscript_at level.down extent i)) j d (mod_below turn m some)

-- ---- what stays, and what is in range

-- a dimension that no loop has keeps its subscript
pub tour_keeps : (order : List Level) (extents place : List ℕ) (k : ℕ) → Every (λ level. level.number - 1 ≢ k) order →
    Every (λ p. get_or p k 0 ≡ get_or place k 0) (tour_from order extents place)
tour_keeps [] extents place k apart = (refl, tt)
tour_keeps (level ∷ inner) extents place k apart =
    Every-flat_map (λ p. get_or p k 0 ≡ get_or place k 0) (λ i. tour_from inner extents (set place (level.number - 1) i))
    (turns_of level.down (get_or extents (level.number - 1) 0))
    (Every-all (λ i. Every (λ p. get_or p k 0 ≡ get_or place k 0) (tour_from inner extents (set place (level.number - 1) i)))
    (λ i.
    Every-weaker (λ p. get_or p k 0 ≡ get_or (set place (level.number - 1) i) k 0) (λ p. get_or p k 0 ≡ get_or place k 0)
    (λ p is. is ∙ get_or-set_other place (level.number - 1) k i 0 (λ same. apart.0 (sym same)))
    (tour_from inner extents (set place (level.number - 1) i))
    (tour_keeps inner extents (set place (level.number - 1) i) k apart.1))
    (turns_of level.down (get_or extents (level.number - 1) 0)))

pub tour_long : (order : List Level) (extents place : List ℕ) → Every (λ p. length p ≡ length place) (tour_from order extents place)
tour_long [] extents place = (refl, tt)
tour_long (level ∷ inner) extents place =
    Every-flat_map (λ p. length p ≡ length place) (λ i. tour_from inner extents (set place (level.number - 1) i))
    (turns_of level.down (get_or extents (level.number - 1) 0))
    (Every-all (λ i. Every (λ p. length p ≡ length place) (tour_from inner extents (set place (level.number - 1) i)))
    (λ i.
    Every-weaker (λ p. length p ≡ length (set place (level.number - 1) i)) (λ p. length p ≡ length place)
    (λ p is. is ∙ length-set place (level.number - 1) i)
    (tour_from inner extents (set place (level.number - 1) i))
    (tour_long inner extents (set place (level.number - 1) i)))
    (turns_of level.down (get_or extents (level.number - 1) 0)))

pub place_from_each : (extents place : List ℕ) → length place ≡ length extents →
    ((k : ℕ) → k < length extents → get_or place k 0 < get_or extents k 0) → IsPlace extents place
place_from_each [] [] long each = tt
place_from_each [] (i ∷ place) long each = absurd (omega arith)
place_from_each (e ∷ extents) [] long each = absurd (omega arith)
place_from_each (e ∷ extents) (i ∷ place) long each =
    (each 0 (omega arith), place_from_each extents place (omega arith) (λ k below. each (suc k) (omega arith)))

set_here : (level : Level) (extents place : List ℕ) (k i : ℕ) → k < length place → i < get_or extents (level.number - 1) 0 →
    level.number - 1 ≡ k → get_or (set place (level.number - 1) i) k 0 < get_or extents k 0
set_here level extents place k i below inside dim =
    let P : ℕ → Type 0 = λ x. x < get_or extents k 0 in
    let Q : ℕ → Type 0 = λ n. i < get_or extents n 0 in
    subst P (sym (ap (λ n. get_or (set place n i) k 0) dim ∙ get_or-set_same place k i 0 below)) (subst Q dim inside)

one_more_covered : (level : Level) (inner : List Level) (extents place : List ℕ) (k i : ℕ) → length place ≡ length extents →
    k < length extents → i < get_or extents (level.number - 1) 0 → Member (loops_of (level ∷ inner)) (suc k)
    ⊎ (get_or place k 0 < get_or extents k 0) → Member (loops_of inner) (suc k)
    ⊎ (get_or (set place (level.number - 1) i) k 0 < get_or extents k 0)
one_more_covered level inner extents place k i long below inside (inl (inr later)) = inl later
one_more_covered level inner extents place k i long below inside (inl (inl here)) =
    let dim : level.number - 1 ≡ k = omega arith in inr (set_here level extents place k i (omega arith) inside dim)
one_more_covered level inner extents place k i long below inside (inr kept) =
    elim (cases_eq (level.number - 1) k) [
      | inl dim ↦ inr (set_here level extents place k i (omega arith) inside dim)
      | inr apart ↦ inr
          (let P : ℕ → Type 0 = λ x. x < get_or extents k 0 in
          subst P (sym (get_or-set_other place (level.number - 1) k i 0 (λ same. apart (sym same)))) kept)
    ]

-- where each dimension has a loop or a subscript in range, each place is one of the shape
pub tour_within : (order : List Level) (extents place : List ℕ) → length place ≡ length extents →
    ((k : ℕ) → k < length extents → Member (loops_of order) (suc k) ⊎ (get_or place k 0 < get_or extents k 0)) →
    Every (IsPlace extents) (tour_from order extents place)
tour_within [] extents place long covered =
    (place_from_each extents place long (λ k below. elim (covered k below) [ inl h ↦ absurd h | inr inside ↦ inside ]), tt)
tour_within (level ∷ inner) extents place long covered =
    let dim : ℕ = level.number - 1 in
    Every-flat_map (IsPlace extents) (λ i. tour_from inner extents (set place dim i)) (turns_of level.down (get_or extents dim 0))
    (Every-weaker (λ i. i < get_or extents dim 0) (λ i. Every (IsPlace extents) (tour_from inner extents (set place dim i)))
    (λ i inside. tour_within inner extents (set place dim i) (length-set place dim i ∙ long)
    (λ k below. one_more_covered level inner extents place k i long below inside (covered k below)))
    (turns_of level.down (get_or extents dim 0)) (turns_below level.down (get_or extents dim 0)))
