-- Ascending progressions of natural numbers: when two have a number in common, and how few turns of one have to be tried.
use Rattle.std.proofs.Common.{◌≡◌, ℕ, ℤ, pos, zero, suc, ◌+◌, ◌-◌, ◌*◌, ◌/◌, ◌%◌, ◌^◌, min, ◌<◌, ◌≤◌, ◌+ℤ◌, ◌-ℤ◌, ◌*ℤ◌, refl, sym, ap, ◌∙◌, subst, inl, inr, arith}
use Rattle.std.specs.Prelude.{◌↔◌, neg_ℤ}
use Rattle.std.proofs.lemmas.Int.{ints}
use Rattle.std.proofs.Math.Nat.{mul_assoc, mul_comm}
use lib.IntN.{*ℤ-zero}
use Rattle.std.proofs.lemmas.Nat.{div-add-mod', mul-le, mod_below, mod-mul-add, div-mul-add}
use Rattle.std.proofs.lemmas.Bool.{cases_lt}
use Rattle.a95_base.specs.IntegerLaws.{IsInteger}
use Rattle.a95_base.specs.Lists.{Member}
use Rattle.section_algebra.specs.Section.{Progression, term_of, subscripts_of, Share, IsProgression}
use Rattle.section_algebra.specs.Ascent.{IsAscent, Crossing, IsOn, Ascends}
use Rattle.section_algebra.proofs.Progressions.{times_up, times_down, term_is_member, turn_of}

-- ---- numbers alone

parts : (a b m x : ℕ) → x ≡ a + b → x * m ≡ a * m + b * m
parts a b m x e = ap (λ y. y * m) e ∙ omega arith

cancel : (a b m : ℕ) → 0 < m → a * m ≤ b * m → a ≤ b
cancel a b m some h =
    elim (cases_lt b a) [
      | inl less ↦ absurd (let more : suc b * m ≤ a * m = mul-le (suc b) m a m (omega arith) (omega arith) in omega arith)
      | inr fine ↦ fine
    ]

swapped : (a b c : ℕ) → a * b * c ≡ a * c * b
swapped a b c = mul_assoc a b c ∙ ap (λ x. a * x) (mul_comm b c) ∙ sym (mul_assoc a c b)

-- where the turn is moved down by so many rounds of the other's step, the other's turn moves down by as many steps
module _ (first step other other_step turn other_turn low rounds : ℕ) (some : 0 < other_step)
    (same : first + turn * step ≡ other + other_turn * other_step) (is : turn ≡ low + rounds * other_step)
    (reached : other ≤ first + low * step) where
  split_turn : turn * step ≡ low * step + rounds * step * other_step
  split_turn = parts low (rounds * other_step) step turn is ∙ ap (λ x. low * step + x) (swapped rounds other_step step)

  enough : rounds * step ≤ other_turn
  enough = cancel (rounds * step) other_turn other_step some (omega (arith, same, split_turn, reached))

  moved_down : (left : ℕ) → other_turn ≡ left + rounds * step → first + low * step ≡ other + left * other_step
  moved_down left e =
      let whole : other_turn * other_step ≡ left * other_step + rounds * step * other_step =
      parts left (rounds * step) other_step other_turn e in
      omega (arith, same, split_turn, whole)

-- a number in common is found among the first turns that reach the other's first number
pub first_crossing : (first step count other other_step other_count skipped : ℕ) → 0 < other_step
    → other ≤ first + skipped * step → ((k : ℕ) → other ≤ first + k * step → skipped ≤ k)
    → Crossing first step count other other_step other_count
    → (k : ℕ) × ((skipped ≤ k) × ((k < min count (skipped + other_step)) × IsOn (first + k * step) other other_step
    other_count))
first_crossing first step count other other_step other_count skipped some reached least c =
    let turn : ℕ = c.turn in
    let later : skipped ≤ turn = least turn (omega (arith, c.same)) in
    let extra : ℕ = turn - skipped in
    let low : ℕ = skipped + extra % other_step in
    let rounds : ℕ = extra / other_step in
    let is : turn ≡ low + rounds * other_step = omega (arith, div-add-mod' extra other_step, later) in
    let rest : extra % other_step < other_step = mod_below extra other_step some in
    let low_reached : other ≤ first + low * step =
    (let more : skipped * step ≤ low * step = mul-le skipped step low step (omega arith) (omega arith) in
    omega (arith, reached, more)) in
    let below_turn : low ≤ turn = omega (arith, is) in (
      low,
      (
        omega arith,
        (
          omega (arith, rest, below_turn, c.below),
          record {
            turn = c.other_turn - rounds * step;
            below = omega (arith, c.other_below);
            is =
                moved_down first step other other_step turn c.other_turn low rounds some c.same is low_reached
                (c.other_turn - rounds * step)
                (omega (arith, enough first step other other_step turn c.other_turn low rounds some c.same is low_reached));
          },
        ),
      ),
    )

pub crossing_turned : (first step count other other_step other_count : ℕ)
    → Crossing first step count other other_step other_count → Crossing other other_step other_count first step count
crossing_turned first step count other other_step other_count c = record {
  turn = c.other_turn;
  other_turn = c.turn;
  below = c.other_below;
  other_below = c.below;
  same = sym c.same;
}

pub crossing_at : (first step count other other_step other_count k : ℕ) → k < count
    → IsOn (first + k * step) other other_step other_count → Crossing first step count other other_step other_count
crossing_at first step count other other_step other_count k below on = record {
  turn = k;
  other_turn = on.turn;
  below = below;
  other_below = on.below;
  same = on.is;
}

-- the turns before a bound is reached
pub turns_reach : (first step bound : ℕ) → 0 < step → first < bound → bound ≤ first + ((bound - first - 1) / step + 1) * step
turns_reach first step bound some above =
    let gap : ℕ = bound - first - 1 in
    omega (arith, div-add-mod' gap step, mod_below gap step some, parts (gap / step) 1 step (gap / step + 1) refl)

pub turns_least : (first step bound k : ℕ) → 0 < step → first < bound → bound ≤ first + k * step
    → (bound - first - 1) / step + 1 ≤ k
turns_least first step bound k some above reached =
    let gap : ℕ = bound - first - 1 in
    elim (cases_lt (gap / step) k) [
      | inl less ↦ omega arith
      | inr more ↦ absurd (let most : k * step ≤ gap / step * step = mul-le k step (gap / step) step more (omega arith) in
          omega (arith, div-add-mod' gap step, most, reached, above))
    ]

-- what is tested of a number
pub on_from : (n first step count : ℕ) → first ≤ n → (n - first) % step ≡ 0 → (n - first) / step < count → IsOn n first step count
on_from n first step count above whole below =
    record { turn = (n - first) / step; below = below; is = omega (arith, div-add-mod' (n - first) step, whole, above) }

pub on_above : (n first step count : ℕ) → IsOn n first step count → first ≤ n
on_above n first step count on = omega (arith, on.is)

pub on_whole : (n first step count : ℕ) → 0 < step → IsOn n first step count
    → ((n - first) % step ≡ 0) × ((n - first) / step < count)
on_whole n first step count some on =
    let gap : n - first ≡ on.turn * step + 0 = omega (arith, on.is) in (
      ap (λ x. x % step) gap ∙ mod-mul-add on.turn step 0 some,
      omega (arith, ap (λ x. x / step) gap ∙ div-mul-add on.turn step 0 some, on.below),
    )

-- ---- subscripts as ascending natural numbers, from -2 ^ 31 on

module _ (p q : Progression) (first step other other_step : ℕ) (a : Ascends p first step) (b : Ascends q other other_step) where
  to_crossing : Share p q → Crossing first step p.count other other_step q.count
  to_crossing s =
      let j = a.only s.subscript s.first in
      let k = b.only s.subscript s.second in
      record { turn = j.0; other_turn = k.0; below = j.1.0; other_below = k.1.0; same = omega (arith, ints, j.1.1, k.1.1) }

  from_crossing : Crossing first step p.count other other_step q.count → Share p q
  from_crossing c =
      let P : ℕ → Type 0 = λ n. Member (subscripts_of q) (pos n -ℤ pos 2147483648) in
      record {
        subscript = pos (first + c.turn * step) -ℤ pos 2147483648;
        first = a.has c.turn c.below;
        second = subst P (sym c.same) (b.has c.other_turn c.other_below);
      }

  pub share_is : Crossing first step p.count other other_step q.count ↔ Share p q
  share_is = (from_crossing, to_crossing)

ascending_term : (s d : ℤ) (first step k : ℕ) → s +ℤ pos 2147483648 ≡ pos first → d ≡ pos step
    → s +ℤ pos k *ℤ d ≡ pos (first + k * step) -ℤ pos 2147483648
ascending_term s d first step k e f = ap (λ x. s +ℤ pos k *ℤ x) f ∙ omega (arith, ints, e, times_up k step)

pub ascends_up : (p : Progression) (first step : ℕ) → p.start +ℤ pos 2147483648 ≡ pos first → p.stride ≡ pos step
    → Ascends p first step
ascends_up p first step e f = record {
  has = λ k h. let P : ℤ → Type 0 = λ z. Member (subscripts_of p) z in
      subst P (ascending_term p.start p.stride first step k e f) (term_is_member p k h);
  only = λ z h. let t = turn_of p z h in (t.turn, (t.below, sym t.is ∙ ascending_term p.start p.stride first step t.turn e f));
}

descending_term : (s d : ℤ) (first step last j k : ℕ) → last ≡ j + k → (s +ℤ pos last *ℤ d) +ℤ pos 2147483648 ≡ pos first
    → d ≡ neg_ℤ (pos step) → s +ℤ pos j *ℤ d ≡ pos (first + k * step) -ℤ pos 2147483648
descending_term s d first zero last j k split e f =
    let flat : (n : ℕ) → pos n *ℤ d ≡ pos 0 = λ n. ap (λ x. pos n *ℤ x) f ∙ *ℤ-zero (pos n) in
    omega (arith, ints, e, flat last, flat j)
descending_term s d first (suc m) last j k split e f =
    let down : (n : ℕ) → pos n *ℤ d ≡ neg_ℤ (pos (n * suc m)) = λ n. ap (λ x. pos n *ℤ x) f ∙ times_down n m in
    omega (arith, ints, e, down last, down j, parts j k (suc m) last split)

pub ascends_down : (p : Progression) (first step last : ℕ) → p.count ≡ suc last → term_of p last +ℤ pos 2147483648 ≡ pos first
    → p.stride ≡ neg_ℤ (pos step) → Ascends p first step
ascends_down p first step last some e f = record {
  has = λ k h. let P : ℤ → Type 0 = λ z. Member (subscripts_of p) z in
      subst P (descending_term p.start p.stride first step last (last - k) k (omega (arith, some, h)) e f)
      (term_is_member p (last - k) (omega (arith, some)));
  only = λ z h. let t = turn_of p z h in (
    last - t.turn,
    (
      omega (arith, some),
      sym t.is ∙ descending_term p.start p.stride first step last t.turn (last - t.turn)
          (omega (arith, some, t.below)) e f,
    ),
  );
}

-- an ascent that has the subscripts of a progression of INTEGERs stays below 2 ^ 32
pub ascent_is : (p : Progression) (first step : ℕ) → IsProgression p → 0 < p.count → Ascends p first step → 0 < step
    → step ≤ 2 ^ 31 → IsAscent first step p.count
ascent_is p first step is some a rises small =
    let fits : (k : ℕ) → k < p.count → first + k * step < 2 ^ 32 =
    λ k h. let t = turn_of p (pos (first + k * step) -ℤ pos 2147483648) (a.has k h) in let f : IsInteger (term_of p t.turn) =
    is.terms_fit t.turn t.below in omega (arith, ints, t.is, f.1) in
    record { rises = rises; step_small = small; first_small = omega (arith, fits 0 some); below = fits }
