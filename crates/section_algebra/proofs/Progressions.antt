-- Arithmetic progressions: what a triplet names lies between its bounds, and is 32-bit where they are.
use Rattle.std.proofs.Common.{◌≡◌, ◌≢◌, ◌⊎◌, ℕ, ℤ, pos, zero, suc, ◌+◌, ◌*◌, ◌/◌, ◌<◌, ◌≤◌, ◌+ℤ◌, ◌-ℤ◌, ◌*ℤ◌, ◌≤ℤ◌, List, [], ◌∷◌, length, refl, ap, ◌∙◌, inl, inr, arith}
use Rattle.std.specs.Prelude.{negsuc, neg_ℤ, int_div, unsigned_abs}
use Rattle.std.specs.Int.{int_max}
use Rattle.std.proofs.lemmas.Int.{ints, clamps}
use Rattle.std.proofs.lemmas.Nat.{div-add-mod', mul-le}
use lib.IntN.{zero-*ℤ}
use Rattle.a95_base.specs.IntegerLaws.{IsInteger}
use Rattle.a95_base.specs.Lists.{Every, Pairwise, Member, count_to}
use Rattle.a95_base.proofs.Lists.{Pairwise-map, Pairwise-weaker, Member-map, Member-from_map, Member-count_to, each_has, each_below, count_to_rises}
use Rattle.a95_base.proofs.Integers.{one_more}
use Rattle.section_algebra.specs.Section.{Progression, term_of, subscripts_of, triplet_count, triplet, triplets, AreIntegers, IsProgression}

-- ---- products with a natural number

pub times_up : (k m : ℕ) → pos k *ℤ pos m ≡ pos (k * m)
times_up k m = refl

pub times_down : (k m : ℕ) → pos k *ℤ negsuc m ≡ neg_ℤ (pos (k * suc m))
times_down k m = refl

pub term_zero : (p : Progression) → term_of p 0 ≡ p.start
term_zero p = omega (arith, ints, zero-*ℤ p.stride)

pub term_next : (p : Progression) (k : ℕ) → term_of p (suc k) ≡ term_of p k +ℤ p.stride
term_next p k =
    let next : pos (suc k) ≡ pos k +ℤ pos 1 = omega (arith, ints) in
    let more : pos (suc k) *ℤ p.stride ≡ pos k *ℤ p.stride +ℤ p.stride = ap (λ x. x *ℤ p.stride) next ∙ one_more (pos k) p.stride in
    omega (arith, ints, more)

-- ---- terms lie between

pub Between : ℤ → ℤ → ℤ → Type 0
Between first last z = ((first ≤ℤ z) × (z ≤ℤ last)) ⊎ ((last ≤ℤ z) × (z ≤ℤ first))

between_by : (s d : ℤ) (k n : ℕ) → k ≤ n → Between s (s +ℤ pos n *ℤ d) (s +ℤ pos k *ℤ d)
unfolding Between
between_by s (pos m) k n h =
    let less : k * m ≤ n * m = mul-le k m n m h (omega arith) in
    inl (omega (arith, ints, times_up k m, times_up n m), omega (arith, ints, times_up k m, times_up n m))
between_by s (negsuc m) k n h =
    let less : k * suc m ≤ n * suc m = mul-le k (suc m) n (suc m) h (omega arith) in
    inr (omega (arith, ints, times_down k m, times_down n m), omega (arith, ints, times_down k m, times_down n m))

pub term_between : (p : Progression) (k n : ℕ) → k ≤ n → Between p.start (term_of p n) (term_of p k)
term_between p k n h = between_by p.start p.stride k n h

-- what holds of both ends holds between, where it is a range
pub bounds_between : (l u first last z : ℤ) → Between first last z → (l ≤ℤ first) × (first ≤ℤ u) → (l ≤ℤ last) × (last ≤ℤ u)
    → (l ≤ℤ z) × (z ≤ℤ u)
unfolding Between
bounds_between l u first last z (inl h) f g = (omega (arith, ints, h.0, h.1, f.0, g.1), omega (arith, ints, h.0, h.1, f.0, g.1))
bounds_between l u first last z (inr h) f g = (omega (arith, ints, h.0, h.1, f.1, g.0), omega (arith, ints, h.0, h.1, f.1, g.0))

integer_between : (first last z : ℤ) → Between first last z → IsInteger first → IsInteger last → IsInteger z
unfolding Between
integer_between first last z (inl h) f g = (omega (arith, ints, h.0, h.1, f.0, g.1), omega (arith, ints, h.0, h.1, f.0, g.1))
integer_between first last z (inr h) f g = (omega (arith, ints, h.0, h.1, f.1, g.0), omega (arith, ints, h.0, h.1, f.1, g.0))

-- ---- a triplet's count

max_natural : (n : ℕ) → int_max (pos n) (pos 0) ≡ pos n
max_natural n = omega (arith, ints, clamps)

max_negative : (n : ℕ) → int_max (neg_ℤ (pos n)) (pos 0) ≡ pos 0
max_negative n = omega (arith, ints, clamps)

abbrev counted : ℤ → ℤ → ℕ
counted x y = unsigned_abs (int_max (int_div x y) (pos 0))

below_quotient : (k a b : ℕ) → k < a / b → suc k * b ≤ a
below_quotient k a b h =
    let whole : suc k * b ≤ a / b * b = mul-le (suc k) b (a / b) b (omega arith) (omega arith) in
    omega (arith, div-add-mod' a b)

up_room : (x : ℤ) (m k : ℕ) → k < counted x (pos (suc m)) → pos (k * suc m + suc m) ≤ℤ x
up_room (pos a) m k h =
    let count : k < a / suc m = omega (arith, ap unsigned_abs (max_natural (a / suc m))) in
    omega (arith, ints, below_quotient k a (suc m) count)
up_room (negsuc a) m k h =
    let none : counted (negsuc a) (pos (suc m)) ≡ 0 = ap unsigned_abs (max_negative (suc a / suc m)) in
    absurd (omega (arith, none))

down_room : (x : ℤ) (m k : ℕ) → k < counted x (negsuc m) → x ≤ℤ neg_ℤ (pos (k * suc m + suc m))
down_room (pos a) m k h =
    let none : counted (pos a) (negsuc m) ≡ 0 = ap unsigned_abs (max_negative (a / suc m)) in
    absurd (omega (arith, none))
down_room (negsuc a) m k h =
    let count : k < suc a / suc m = omega (arith, ap unsigned_abs (max_natural (suc a / suc m))) in
    omega (arith, ints, below_quotient k (suc a) (suc m) count)

triplet_between : (first last stride : ℤ) (k : ℕ) → stride ≢ pos 0 → k < triplet_count first last stride
    → Between first last (first +ℤ pos k *ℤ stride)
unfolding Between
triplet_between first last (pos zero) k some h = absurd (some refl)
triplet_between first last (pos (suc m)) k some h =
    let room : pos (k * suc m + suc m) ≤ℤ (last -ℤ first +ℤ pos (suc m)) = up_room (last -ℤ first +ℤ pos (suc m)) m k h in
    inl (omega (arith, ints, times_up k (suc m)), omega (arith, ints, times_up k (suc m), room))
triplet_between first last (negsuc m) k some h =
    let room : (last -ℤ first +ℤ negsuc m) ≤ℤ neg_ℤ (pos (k * suc m + suc m)) = down_room (last -ℤ first +ℤ negsuc m) m k h in
    inr (omega (arith, ints, times_down k m, room), omega (arith, ints, times_down k m))

pub triplet_is : (first last stride : ℤ) → IsInteger first → IsInteger last → IsInteger stride → stride ≢ pos 0
    → IsProgression (triplet first last stride)
triplet_is first last stride f l s some = record {
  start_fits = f;
  stride_fits = s;
  steps = some;
  terms_fit = λ k h. integer_between first last (first +ℤ pos k *ℤ stride) (triplet_between first last stride k some h) f l;
}

pub triplets_are : (lower upper stride : List ℤ) → AreIntegers lower → AreIntegers upper → AreIntegers stride
    → Every (λ s. s ≢ pos 0) stride → Every IsProgression (triplets lower upper stride)
triplets_are [] upper stride f l s some = tt
triplets_are (x ∷ lower) [] stride f l s some = tt
triplets_are (x ∷ lower) (y ∷ upper) [] f l s some = tt
triplets_are (x ∷ lower) (y ∷ upper) (z ∷ stride) f l s some =
    (triplet_is x y z f.0 l.0 s.0 some.0, triplets_are lower upper stride f.1 l.1 s.1 some.1)

pub length-triplets : (n : ℕ) (lower upper stride : List ℤ) → length lower ≡ n → length upper ≡ n → length stride ≡ n
    → length (triplets lower upper stride) ≡ n
length-triplets n [] upper stride f l s = f
length-triplets n (x ∷ lower) [] stride f l s = absurd (omega (arith, f, l))
length-triplets n (x ∷ lower) (y ∷ upper) [] f l s = absurd (omega (arith, f, s))
length-triplets zero (x ∷ lower) (y ∷ upper) (z ∷ stride) f l s = absurd (omega (arith, f))
length-triplets (suc n) (x ∷ lower) (y ∷ upper) (z ∷ stride) f l s =
    ap suc (length-triplets n lower upper stride (omega (arith, f)) (omega (arith, l)) (omega (arith, s)))

-- ---- members

pub term_is_member : (p : Progression) (k : ℕ) → k < p.count → Member (subscripts_of p) (term_of p k)
term_is_member p k h = Member-map (term_of p) (count_to p.count) k (Member-count_to p.count k h)

-- the turn at which a subscript is named
pub record Turn (p : Progression) (z : ℤ) : Type 0 where
  pub turn : ℕ
  pub below : turn < p.count
  pub is : term_of p turn ≡ z

pub turn_of : (p : Progression) (z : ℤ) → Member (subscripts_of p) z → Turn p z
turn_of p z h =
    let r = Member-from_map (term_of p) (count_to p.count) z h in
    record { turn = r.0; below = each_has (λ k. k < p.count) (count_to p.count) r.0 (each_below p.count) r.1.0; is = r.1.1 }

terms_differ : (s d : ℤ) (j k : ℕ) → d ≢ pos 0 → j < k → (s +ℤ pos j *ℤ d) ≢ (s +ℤ pos k *ℤ d)
terms_differ s (pos zero) j k some below = λ e. some refl
terms_differ s (pos (suc m)) j k some below =
    let less : suc j * suc m ≤ k * suc m = mul-le (suc j) (suc m) k (suc m) (omega arith) (omega arith) in
    λ e. absurd (omega (arith, ints, e, less, times_up j (suc m), times_up k (suc m)))
terms_differ s (negsuc m) j k some below =
    let less : suc j * suc m ≤ k * suc m = mul-le (suc j) (suc m) k (suc m) (omega arith) (omega arith) in
    λ e. absurd (omega (arith, ints, e, less, times_down j m, times_down k m))

pub subscripts_once : (p : Progression) → IsProgression p → Pairwise (λ x y. x ≢ y) (subscripts_of p)
subscripts_once p is =
    Pairwise-map (λ x y. x ≢ y) (term_of p) (count_to p.count)
    (Pairwise-weaker (λ j k. j < k) (λ j k. term_of p j ≢ term_of p k)
    (λ j k below. terms_differ p.start p.stride j k is.steps below) (count_to p.count) (count_to_rises p.count))
