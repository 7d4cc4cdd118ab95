-- One level of the code that finds the place of a turn.
use Rattle.std.proofs.Common.{◌≡◌, ℕ, ℤ, pos, zero, suc, ◌+◌, ◌*◌, ◌/◌, ◌%◌, ◌-◌, ◌<◌, ◌≤◌, ◌≤ℤ◌, false, List, [], ◌∷◌, length}
use Rattle.std.proofs.Common.{get_or, set, drop, map, replicate, unsigned_abs, refl, sym, ap, ◌∙◌, subst, arith}
use Rattle.std.proofs.Math.Nat.{mul_comm}
use Rattle.std.proofs.lemmas.Nat.{mod_below, div_below, div-mul-add, mul-le}
use Rattle.std.proofs.lemmas.Int.{ints}
use Rattle.std.proofs.lemmas.List.{drop_more, drop_all, map-set, length-map}
use Rattle.a95_base.proofs.Lists.{Every-set}
use Rattle.a95_base.proofs.Permuted.{Permuted-length, length-down_to_one}
use Rattle.rank_shape.specs.Shape.{AreNatural, naturals, size_of}
use Rattle.rank_shape.specs.Order.{Level, IsOrder, level_at}
use Rattle.rank_shape.specs.Turn.{turns_in, subscript_at, visited}
use Rattle.rank_shape.proofs.Walks.{positive, tour_length, tour_turn}
use Rattle.rank_shape.proofs.Reorders.{order_whole}
use Rattle.rank_shape.specs.Walk.{tour, IsTour}

pub order_length : (rank : ℕ) (order : List Level) → IsOrder rank order → length order ≡ rank
order_length rank order holds = sym (length-map order (λ level. level.number)) ∙ Permuted-length holds ∙ length-down_to_one rank

-- what a level has, where turns are left
pub record LevelStep (order : List Level) (extents : List ℕ) (k left inner : ℕ) : Type 0 where
  pub some : 0 < get_or extents ((level_at order k).number - 1) 0
  pub smaller : get_or extents ((level_at order k).number - 1) 0 ≤ inner
  pub inner_is : inner / get_or extents ((level_at order k).number - 1) 0 ≡ turns_in (drop (k + 1) order) extents
  pub inner_some : 0 < turns_in (drop (k + 1) order) extents
  pub inner_smaller : turns_in (drop (k + 1) order) extents ≤ inner
  pub turn_below : left / turns_in (drop (k + 1) order) extents < get_or extents ((level_at order k).number - 1) 0
  pub left_below : left % turns_in (drop (k + 1) order) extents < turns_in (drop (k + 1) order) extents

pub level_step : (order : List Level) (extents : List ℕ) (k left inner : ℕ) → k < length order →
    inner ≡ turns_in (drop k order) extents → left < inner → LevelStep order extents k left inner
level_step order extents k left inner below is small =
    let extent : ℕ = get_or extents ((level_at order k).number - 1) 0 in
    let m : ℕ = turns_in (drop (k + 1) order) extents in
    let split : inner ≡ extent * m = is ∙ ap (λ ls. turns_in ls extents)
    (drop_more order k (record { number = 0; down = false }) below) in
    let m_some : 0 < m = positive extent m left (omega arith) in
    let some : 0 < extent = positive m extent left (omega (arith, mul_comm extent m)) in
    record {
      some = some;
      smaller = omega (arith, mul-le extent 1 extent m (omega arith) m_some);
      inner_is =
          (let turned : inner ≡ m * extent + 0 = omega (arith, mul_comm extent m) in ap (λ n. n / extent) turned
          ∙ div-mul-add m extent 0 some);
      inner_some = m_some;
      inner_smaller = omega (arith, mul-le 1 m extent m some (omega arith));
      turn_below = div_below left m extent m_some (omega arith);
      left_below = mod_below left m m_some;
    }

-- the same in the code's terms: the loop n, the extent of its dimension, and the turns inside it
pub record CodeStep (order : List Level) (extents place : List ℕ) (k left inner n extent : ℕ) : Type 0 where
  pub some : 0 < extent
  pub smaller : extent ≤ inner
  pub turns : inner / extent ≡ turns_in (drop (k + 1) order) extents
  pub inner_some : 0 < inner / extent
  pub inner_smaller : inner / extent ≤ inner
  pub turn_below : left / (inner / extent) < extent
  pub left_below : left % (inner / extent) < inner / extent
  pub same : (s : ℕ) → s ≡ subscript_at (level_at order k).down extent (left / (inner / extent)) →
      visited (drop (k + 1) order) extents (set place (n - 1) s) (left % (inner / extent))
      ≡ visited (drop k order) extents place left

at_level : (order : List Level) (extents place : List ℕ) (k left inner : ℕ) → k < length order →
    inner ≡ turns_in (drop k order) extents → left < inner →
    CodeStep order extents place k left inner (level_at order k).number (get_or extents ((level_at order k).number - 1) 0)
at_level order extents place k left inner below is small =
    let step = level_step order extents k left inner below is small in
    let extent : ℕ = get_or extents ((level_at order k).number - 1) 0 in
    let m : ℕ = turns_in (drop (k + 1) order) extents in
    let back : m ≡ inner / extent = sym step.inner_is in
    record {
      some = step.some;
      smaller = step.smaller;
      turns = step.inner_is;
      inner_some = omega (arith, step.inner_some);
      inner_smaller = omega (arith, step.inner_smaller);
      turn_below = (let P : ℕ → Type 0 = λ x. left / x < extent in subst P back step.turn_below);
      left_below = (let P : ℕ → Type 0 = λ x. left % x < x in subst P back step.left_below);
      same =
          λ s s_is.
          ap (λ x. visited (drop (k + 1) order) extents (set place ((level_at order k).number - 1) x) (left % (inner / extent)))
          s_is
          ∙ ap (λ x. visited (drop (k + 1) order) extents
          (set place ((level_at order k).number - 1) (subscript_at (level_at order k).down extent (left / x))) (left % x))
          (sym back)
          ∙ ap (λ ls. visited ls extents place left) (sym (drop_more order k (record { number = 0; down = false }) below));
    }

pub code_step : (order : List Level) (extents place : List ℕ) (k left inner n extent : ℕ) → k < length order →
    inner ≡ turns_in (drop k order) extents → left < inner → n ≡ (level_at order k).number → extent ≡ get_or extents (n - 1) 0 →
    CodeStep order extents place k left inner n extent
code_step order extents place k left inner n extent below is small n_is extent_is =
    let P : ℕ → Type 0 = λ x. CodeStep order extents place k left inner x (get_or extents (x - 1) 0) in
    let Q : ℕ → Type 0 = λ e. CodeStep order extents place k left inner n e in
    subst Q (sym extent_is) (subst P (sym n_is) (at_level order extents place k left inner below is small))

-- the place as the code keeps it
pub naturals_set : (at : List ℤ) (k n : ℕ) → naturals (set at k (pos n)) ≡ set (naturals at) k n
naturals_set at k n = map-set unsigned_abs at k (pos n)

natural_pos : (n : ℕ) → pos 0 ≤ℤ pos n
natural_pos n = omega (arith, ints)

pub natural_set : (at : List ℤ) (k n : ℕ) → AreNatural at → AreNatural (set at k (pos n))
natural_set at k n natural = Every-set (λ z. pos 0 ≤ℤ z) at k (pos n) (natural_pos n) natural

pub start_natural : (n : ℕ) → AreNatural (replicate n (pos 0))
start_natural zero = tt
start_natural (suc n) = (natural_pos 0, start_natural n)

pub start_is : (extents : List ℕ) (n : ℕ) → length extents ≡ n → naturals (replicate n (pos 0)) ≡ map (λ extent. 0) extents
start_is [] zero e = refl
start_is [] (suc n) e = absurd (omega arith)
start_is (x ∷ extents) zero e = absurd (omega arith)
start_is (x ∷ extents) (suc n) e = ap (λ ns. 0 ∷ ns) (start_is extents n (omega arith))

-- ---- a walk's next place

pub turns_are_places : (rank : ℕ) (extents : List ℕ) (order : List Level) → length extents ≡ rank → IsOrder rank order →
    turns_in order extents ≡ size_of extents
turns_are_places rank extents order long holds =
    sym (tour_length order extents (map (λ extent. 0) extents)) ∙ (order_whole rank extents order long holds).size

pub walk_ends : (rank : ℕ) (extents : List ℕ) (order : List Level) (size turn : ℕ) → IsTour rank extents order size turn →
    turn ≡ size → drop turn (tour order extents) ≡ []
walk_ends rank extents order size turn known done =
    drop_all turn (tour order extents) (omega (arith, (order_whole rank extents order known.of_shape.long known.in_order).size))

pub walk_goes : (rank : ℕ) (extents : List ℕ) (order : List Level) (size turn : ℕ) → IsTour rank extents order size turn →
    (turn ≡ size → ⊥) → drop turn (tour order extents) ≡ visited order extents (map (λ extent. 0) extents) turn
    ∷ drop (turn + 1) (tour order extents)
walk_goes rank extents order size turn known more =
    let start : List ℕ = map (λ extent. 0) extents in
    let below : turn < turns_in order extents =
    omega (arith, turns_are_places rank extents order known.of_shape.long known.in_order) in
    drop_more (tour order extents) turn [] (omega (arith, tour_length order extents start))
    ∙ ap (λ place. place ∷ drop (turn + 1) (tour order extents)) (tour_turn order extents start turn [] below)
