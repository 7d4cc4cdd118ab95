-- Lists of numbers in which each is one more than the one before, and when blocks end to end are such a list.
use Rattle.std.proofs.Common.{◌≡◌, ◌⊎◌, ℕ, zero, suc, ◌+◌, ◌*◌, ◌<◌, ◌≤◌, List, [], ◌∷◌, ◌++◌, length, map, get_or, refl, sym, ap, subst, inl, inr, arith}
use Rattle.std.specs.Prelude.{◌↔◌}
use Rattle.std.specs.List.{flat_map}
use Rattle.std.proofs.lemmas.Bool.{cases_lt}
use Rattle.std.proofs.lemmas.Nat.{mul-le}
use Rattle.std.proofs.lemmas.List.{append-nil}
use Rattle.a95_base.specs.Lists.{Every}
use Rattle.section_algebra.specs.Section.{IsConsecutive}

-- ---- by places in the list

pub consecutive_at : (xs : List ℕ) (k : ℕ) → IsConsecutive xs → suc k < length xs → get_or xs (suc k) 0 ≡ suc (get_or xs k 0)
consecutive_at [] k h below = absurd (omega arith)
consecutive_at (x ∷ []) k h below = absurd (omega arith)
consecutive_at (x ∷ y ∷ xs) zero h below = h.0
consecutive_at (x ∷ y ∷ xs) (suc k) h below = consecutive_at (y ∷ xs) k h.1 (omega arith)

pub consecutive_from : (xs : List ℕ) → ((k : ℕ) → suc k < length xs → get_or xs (suc k) 0 ≡ suc (get_or xs k 0)) → IsConsecutive xs
consecutive_from [] h = tt
consecutive_from (x ∷ []) h = tt
consecutive_from (x ∷ y ∷ xs) h = (h 0 (omega arith), consecutive_from (y ∷ xs) (λ k below. h (suc k) (omega arith)))

pub short_consecutive : (xs : List ℕ) → length xs ≤ 1 → IsConsecutive xs
short_consecutive [] h = tt
short_consecutive (x ∷ []) h = tt
short_consecutive (x ∷ y ∷ xs) h = absurd (omega arith)

-- ---- end to end

abbrev last_of : ℕ → List ℕ → ℕ
last_of x [] = x
last_of x (y ∷ ys) = last_of y ys

joined : (x : ℕ) (xs : List ℕ) (y : ℕ) (ys : List ℕ) → IsConsecutive (x ∷ xs) → y ≡ suc (last_of x xs) → IsConsecutive (y ∷ ys)
    → IsConsecutive ((x ∷ xs) ++ y ∷ ys)
joined x [] y ys h e k = (e, k)
joined x (z ∷ xs) y ys h e k = (h.0, joined z xs y ys h.1 e k)

first_part : (x : ℕ) (xs : List ℕ) (y : ℕ) (ys : List ℕ) → IsConsecutive ((x ∷ xs) ++ y ∷ ys) → IsConsecutive (x ∷ xs)
first_part x [] y ys h = tt
first_part x (z ∷ xs) y ys h = (h.0, first_part z xs y ys h.1)

at_the_joint : (x : ℕ) (xs : List ℕ) (y : ℕ) (ys : List ℕ) → IsConsecutive ((x ∷ xs) ++ y ∷ ys) → y ≡ suc (last_of x xs)
at_the_joint x [] y ys h = h.0
at_the_joint x (z ∷ xs) y ys h = at_the_joint z xs y ys h.1

second_part : (x : ℕ) (xs : List ℕ) (y : ℕ) (ys : List ℕ) → IsConsecutive ((x ∷ xs) ++ y ∷ ys) → IsConsecutive (y ∷ ys)
second_part x [] y ys h = h.1
second_part x (z ∷ xs) y ys h = second_part z xs y ys h.1

last_is : (x : ℕ) (xs : List ℕ) → IsConsecutive (x ∷ xs) → last_of x xs ≡ x + length xs
last_is x [] h = omega arith
last_is x (y ∷ xs) h = omega (arith, last_is y xs h.1, h.0)

last_below : (x : ℕ) (xs : List ℕ) (e : ℕ) → Every (λ z. z < e) (x ∷ xs) → last_of x xs < e
last_below x [] e h = h.0
last_below x (y ∷ xs) e h = last_below y xs e h.1

-- ---- moved up

abbrev moved_up : ℕ → List ℕ → List ℕ
moved_up b = map (λ z. z + b)

last_moved : (b x : ℕ) (xs : List ℕ) → last_of (x + b) (moved_up b xs) ≡ last_of x xs + b
last_moved b x [] = refl
last_moved b x (y ∷ xs) = last_moved b y xs

moved_on : (b : ℕ) (xs : List ℕ) → IsConsecutive xs → IsConsecutive (moved_up b xs)
moved_on b [] h = tt
moved_on b (x ∷ []) h = tt
moved_on b (x ∷ y ∷ xs) h = (omega (arith, h.0), moved_on b (y ∷ xs) h.1)

moved_back : (b : ℕ) (xs : List ℕ) → IsConsecutive (moved_up b xs) → IsConsecutive xs
moved_back b [] h = tt
moved_back b (x ∷ []) h = tt
moved_back b (x ∷ y ∷ xs) h = (omega (arith, h.0), moved_back b (y ∷ xs) h.1)

-- ---- blocks of one length, in rows of e numbers

abbrev pub row : ℕ → List ℕ → ℕ → List ℕ
row e os n = map (λ z. z + e * n) os

abbrev pub rows : ℕ → List ℕ → List ℕ → List ℕ
rows e os ns = flat_map (row e os) ns

-- one row alone, or whole rows one after another
abbrev pub RowsJoin : ℕ → ℕ → List ℕ → Type 0
RowsJoin count e ns = (length ns ≤ 1) ⊎ ((count ≡ e) × IsConsecutive ns)

one_row_on : (e n m count : ℕ) → 0 < count → count ≤ e → e * m ≡ e * n + count → (m ≡ suc n) × (count ≡ e)
one_row_on e n m count some small is =
    elim (cases_lt n m) [
      | inl above ↦
          elim (cases_lt (suc n) m) [
            | inl far ↦ absurd (let more : e * suc (suc n) ≤ e * m = mul-le e (suc (suc n)) e m (omega arith) (omega arith)
                in omega (arith, is, more))
            | inr near ↦
                let next : m ≡ suc n = omega arith in
                (next, omega (arith, is, ap (λ x. e * x) next))
          ]
      | inr below ↦ absurd (let less : e * m ≤ e * n = mul-le e m e n (omega arith) below in omega (arith, is, less))
    ]

module _ (o : ℕ) (os : List ℕ) (e : ℕ) (inside : Every (λ z. z < e) (o ∷ os)) where
  count_fits : IsConsecutive (o ∷ os) → suc (length os) ≤ e
  count_fits h = omega (arith, last_is o os h, last_below o os e inside)

  rows_from : (n : ℕ) (ns : List ℕ) → IsConsecutive (rows e (o ∷ os) (n ∷ ns))
      → IsConsecutive (o ∷ os) × RowsJoin (suc (length os)) e (n ∷ ns)
  rows_from n [] h =
      let P : List ℕ → Type 0 = IsConsecutive in
      (moved_back (e * n) (o ∷ os) (subst P (append-nil (row e (o ∷ os) n)) h), inl (omega arith))
  rows_from n (m ∷ ns) h =
      let later : List ℕ = moved_up (e * m) os ++ rows e (o ∷ os) ns in
      let here : IsConsecutive (o ∷ os) =
      moved_back (e * n) (o ∷ os) (first_part (o + e * n) (moved_up (e * n) os) (o + e * m) later h) in
      let joint : o + e * m ≡ suc (last_of (o + e * n) (moved_up (e * n) os)) =
      at_the_joint (o + e * n) (moved_up (e * n) os) (o + e * m) later h in
      let ahead : e * m ≡ e * n + suc (length os) = omega (arith, joint, last_moved (e * n) o os, last_is o os here) in
      let step = one_row_on e n m (suc (length os)) (omega arith) (count_fits here) ahead in
      let more = rows_from m ns (second_part (o + e * n) (moved_up (e * n) os) (o + e * m) later h) in (
        here,
        inr (
          step.1,
          (
            step.0,
            elim more.1 [
              | inl short ↦ short_consecutive (m ∷ ns) short
              | inr long ↦ long.1
            ],
          ),
        ),
      )

  rows_to : (n : ℕ) (ns : List ℕ) → IsConsecutive (o ∷ os) → RowsJoin (suc (length os)) e (n ∷ ns)
      → IsConsecutive (rows e (o ∷ os) (n ∷ ns))
  rows_to n [] h j =
      let P : List ℕ → Type 0 = IsConsecutive in subst P (sym (append-nil (row e (o ∷ os) n))) (moved_on (e * n) (o ∷ os) h)
  rows_to n (m ∷ ns) h (inl short) = absurd (omega arith)
  rows_to n (m ∷ ns) h (inr on) =
      joined (o + e * n) (moved_up (e * n) os) (o + e * m) (moved_up (e * m) os ++ rows e (o ∷ os) ns) (moved_on (e * n) (o ∷ os) h)
      (omega (arith, last_moved (e * n) o os, last_is o os h, on.0, ap (λ x. e * x) on.1.0))
      (rows_to m ns h (inr (on.0, on.1.1)))

pub rows_are : (e : ℕ) (os ns : List ℕ) → 0 < length os → 0 < length ns → Every (λ z. z < e) os
    → IsConsecutive (rows e os ns) ↔ (IsConsecutive os × RowsJoin (length os) e ns)
rows_are e [] ns some more inside = absurd (omega arith)
rows_are e (o ∷ os) [] some more inside = absurd (omega arith)
rows_are e (o ∷ os) (n ∷ ns) some more inside = (rows_from o os e inside n ns, λ h. rows_to o os e inside n ns h.0 h.1)
