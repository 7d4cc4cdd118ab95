-- Places and their numbers in array element order undo each other.
use Rattle.std.proofs.Common.{◌≡◌, ℕ, ℤ, pos, zero, suc, ◌+◌, ◌*◌, ◌/◌, ◌%◌, ◌-◌, ◌<◌, ◌≤◌, List, [], ◌∷◌, ◌++◌, length, get_or}
use Rattle.std.proofs.Common.{drop, take, set, map, refl, sym, ap, ◌∙◌, arith, append_assoc}
use Rattle.std.proofs.Math.Nat.{mul_comm}
use Rattle.std.proofs.lemmas.Nat.{mul-le, mul-add-lt, div-mul-add, mod-mul-add, div_below, mod_below, div-add-mod'}
use Rattle.std.proofs.lemmas.List.{drop_more, take_more_set}
use Rattle.rank_shape.specs.Shape.{IsPlace, size_of, number_of, place_at}

pub number_below : (extents place : List ℕ) → IsPlace extents place → number_of extents place < size_of extents
number_below [] [] h = omega arith
number_below [] (i ∷ place) h = absurd h
number_below (e ∷ extents) [] h = absurd h
number_below (e ∷ extents) (i ∷ place) h =
    omega (
      arith,
      mul-add-lt (number_of extents place) e i (size_of extents) (number_below extents place h.1) h.0,
      mul_comm e (number_of extents place),
    )

pub nonzero : (e rest n : ℕ) → n < e * rest → 0 < e
nonzero zero rest n h = omega arith
nonzero (suc e) rest n h = omega arith

pub place_within : (extents : List ℕ) (number : ℕ) → number < size_of extents → IsPlace extents (place_at extents number)
place_within [] number h = tt
place_within (e ∷ extents) number h = (
  mod_below number e (nonzero e (size_of extents) number h),
  place_within extents (number / e)
      (div_below number e (size_of extents) (nonzero e (size_of extents) number h) (omega (arith, mul_comm e (size_of extents)))),
)

pub number_of-place_at : (extents : List ℕ) (number : ℕ) → number < size_of extents → number_of extents (place_at extents number)
    ≡ number
number_of-place_at [] number h = omega arith
number_of-place_at (e ∷ extents) number h =
    ap (λ x. number % e + e * x)
    (number_of-place_at extents (number / e)
    (div_below number e (size_of extents) (nonzero e (size_of extents) number h) (omega (arith, mul_comm e (size_of extents)))))
    ∙ omega (arith, div-add-mod' number e, mul_comm e (number / e))

pub place_at-number_of : (extents place : List ℕ) → IsPlace extents place → place_at extents (number_of extents place) ≡ place
place_at-number_of [] [] h = refl
place_at-number_of [] (i ∷ place) h = absurd h
place_at-number_of (e ∷ extents) [] h = absurd h
place_at-number_of (e ∷ extents) (i ∷ place) h =
    let number : ℕ = number_of extents place in
    let turned : i + e * number ≡ number * e + i = omega (arith, mul_comm e number) in
    let first : (i + e * number) % e ≡ i = ap (λ x. x % e) turned ∙ mod-mul-add number e i h.0 in
    let others : (i + e * number) / e ≡ number = ap (λ x. x / e) turned ∙ div-mul-add number e i h.0 in
    ap (λ x. x ∷ place_at extents ((i + e * number) / e)) first ∙ ap (λ x. i ∷ place_at extents x) others
    ∙ ap (λ p. i ∷ p) (place_at-number_of extents place h.1)

pub ruleset numbers = (number_below, place_within, number_of-place_at, place_at-number_of)

-- ---- one step of the code

-- the number of what is left of a place is below the size of the whole
pub left_below : (extents place : List ℕ) (k : ℕ) → IsPlace extents place → number_of (drop k extents) (drop k place)
    < size_of extents
left_below extents place zero h = number_below extents place h
left_below [] [] (suc k) h = omega arith
left_below [] (i ∷ place) (suc k) h = absurd h
left_below (e ∷ extents) [] (suc k) h = absurd h
left_below (e ∷ extents) (i ∷ place) (suc k) h =
    omega (arith, left_below extents place k h.1, mul-le 1 (size_of extents) e (size_of extents) (omega (arith, h.0)) (omega arith))

pub place_length : (extents place : List ℕ) → IsPlace extents place → length place ≡ length extents
place_length [] [] h = refl
place_length [] (i ∷ place) h = absurd h
place_length (e ∷ extents) [] h = absurd h
place_length (e ∷ extents) (i ∷ place) h = ap suc (place_length extents place h.1)

-- one more dimension of a number, from the last dimension on
pub number_step : (extents place : List ℕ) (k number : ℕ) → k < length extents → IsPlace extents place →
    number ≡ number_of (drop (k + 1) extents) (drop (k + 1) place) → get_or place k 0 + get_or extents k 0 * number
    ≡ number_of (drop k extents) (drop k place)
number_step extents place k number below within is =
    ap (λ x. get_or place k 0 + get_or extents k 0 * x) is
    ∙ sym (ap (λ xs. number_of xs (drop k place)) (drop_more extents k 0 below)
    ∙ ap (λ xs. number_of (get_or extents k 0 ∷ drop (k + 1) extents) xs)
    (drop_more place k 0 (omega (arith, place_length extents place within))))

-- one more dimension of a place, from the first on
pub place_step : (extents : List ℕ) (k left : ℕ) (at : List ℤ) → k < length extents → k < length at →
    take (k + 1) (set at k (pos (left % get_or extents k 0)))
    ++ map pos (place_at (drop (k + 1) extents) (left / get_or extents k 0)) ≡ take k at ++ map pos (place_at (drop k extents) left)
place_step extents k left at below in_at =
    let e : ℕ = get_or extents k 0 in
    let others : List ℤ = map pos (place_at (drop (k + 1) extents) (left / e)) in
    ap (λ xs. xs ++ others) (take_more_set at k (pos (left % e)) in_at)
    ∙ append_assoc (take k at) (pos (left % e) ∷ []) others
    ∙ ap (λ xs. take k at ++ map pos (place_at xs left)) (sym (drop_more extents k 0 below))

pub left_step : (extents : List ℕ) (k left : ℕ) → k < length extents → left < size_of (drop k extents) → (0 < get_or extents k 0)
    × (left / get_or extents k 0 < size_of (drop (k + 1) extents))
left_step extents k left below small =
    let e : ℕ = get_or extents k 0 in
    let rest : ℕ = size_of (drop (k + 1) extents) in
    let split : left < e * rest = omega (arith, ap size_of (drop_more extents k 0 below)) in
    (nonzero e rest left split, div_below left e rest (nonzero e rest left split) (omega (arith, mul_comm e rest)))

pub step_below : (extents place : List ℕ) (k number i e : ℕ) → 0 < k → k ≤ length extents → IsPlace extents place →
    number ≡ number_of (drop k extents) (drop k place) → i ≡ get_or place (k - 1) 0 → e ≡ get_or extents (k - 1) 0 →
    i + e * number < size_of extents
step_below extents place k number i e some within_list within is i_is e_is =
    let j : ℕ = k - 1 in
    let same : k ≡ j + 1 = omega arith in
    let at : number ≡ number_of (drop (j + 1) extents) (drop (j + 1) place) =
    is ∙ ap (λ n. number_of (drop n extents) (drop n place)) same in
    let whole : i + e * number ≡ number_of (drop j extents) (drop j place) = ap (λ x. x + e * number) i_is
    ∙ ap (λ x. get_or place j 0 + x * number) e_is ∙ number_step extents place j number (omega arith) within at in
    omega (arith, whole, left_below extents place j within)
