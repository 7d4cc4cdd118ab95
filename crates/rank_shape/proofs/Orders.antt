-- Orders as two lists of fields, and what each order's list of levels has.
use Rattle.std.proofs.Common.{◌≡◌, ℕ, zero, suc, ◌+◌, ◌-◌, ◌<◌, ◌≤◌, Bool, true, false, eqb, List, [], ◌∷◌, ◌++◌, length, get_or}
use Rattle.std.proofs.Common.{set, take, replicate, refl, sym, ap, ◌∙◌, subst, inl, inr, arith, append_assoc}
use Rattle.a95_base.specs.Lists.{Every, Member, Permuted, down_to_one}
use Rattle.a95_base.proofs.Permuted.{pigeonhole, length-down_to_one, each_from_one, permuted_back, permuted_equal, Permuted-Every}
use Rattle.std.proofs.lemmas.List.{length-replicate, take_more_set, take_all, append-nil}
use Rattle.a95_base.proofs.Lists.{each_at, each_has, each_from_places, Member-get_or}
use Rattle.std.specs.Prelude.{IsTrue, ◌↔◌}
use Rattle.std.specs.List.{IsAnyAnswer}
use Rattle.std.proofs.lemmas.Bool.{cases_lt, eqb-true, eq-eqb, both_ways, false≢true}
use Rattle.rank_shape.specs.Shape.{IsRank}
use Rattle.rank_shape.specs.Order.{Level, levels, level_at, loops_of, downs_of, IsOrder, element_order_of}
use Rattle.rank_shape.specs.Fields.{OrderFields, loops_of-levels, downs_of-levels}

-- loops that name each number from 1 to the rank make an order
pub order_from : (rank : ℕ) (loops : List ℕ) (downs : List Bool) → IsRank rank → length loops ≡ rank → length downs ≡ rank →
    ((k : ℕ) → 1 ≤ k → k ≤ rank → Member loops k) → OrderFields rank loops downs
order_from rank loops downs ranked long downs_long named = record {
  ranked = ranked;
  loops_long = long;
  downs_long = downs_long;
  order = let P : List ℕ → Type 0 = λ ns. Permuted ns (down_to_one rank) in
      subst P (sym (loops_of-levels loops downs (omega arith))) (pigeonhole rank loops long named);
}

pub level_number : (loops : List ℕ) (downs : List Bool) (k : ℕ) → length loops ≡ length downs → k < length loops →
    (level_at (levels loops downs) k).number ≡ get_or loops k 0
level_number [] downs k e below = absurd (omega arith)
level_number (n ∷ loops) [] k e below = absurd (omega arith)
level_number (n ∷ loops) (d ∷ downs) zero e below = refl
level_number (n ∷ loops) (d ∷ downs) (suc k) e below = level_number loops downs k (omega arith) (omega arith)

pub level_down : (loops : List ℕ) (downs : List Bool) (k : ℕ) → length loops ≡ length downs → k < length loops →
    (level_at (levels loops downs) k).down ≡ get_or downs k false
level_down [] downs k e below = absurd (omega arith)
level_down (n ∷ loops) [] k e below = absurd (omega arith)
level_down (n ∷ loops) (d ∷ downs) zero e below = refl
level_down (n ∷ loops) (d ∷ downs) (suc k) e below = level_down loops downs k (omega arith) (omega arith)

-- the loops of an order are numbered from 1 to the rank
pub loops_in_range : (rank : ℕ) (order : List Level) → IsOrder rank order → Every (λ n. (1 ≤ n) × (n ≤ rank)) (loops_of order)
loops_in_range rank order holds = Permuted-Every (λ n. (1 ≤ n) × (n ≤ rank)) (permuted_back holds)
    (each_from_one rank rank (omega arith))

pub field_in_range : (rank : ℕ) (loops : List ℕ) (downs : List Bool) (k : ℕ) → OrderFields rank loops downs → k < rank →
    (1 ≤ get_or loops k 0) × (get_or loops k 0 ≤ rank)
field_in_range rank loops downs k fields below =
    each_at (λ n. (1 ≤ n) × (n ≤ rank)) loops k 0
    (let P : List ℕ → Type 0 = λ ns. Every (λ n. (1 ≤ n) × (n ≤ rank)) ns in
    subst P (loops_of-levels loops downs (omega arith)) (loops_in_range rank (levels loops downs) fields.order))
    (omega arith)

-- ---- array element order

pub element_levels : (rank : ℕ) → levels (down_to_one rank) (replicate rank false) ≡ element_order_of rank
element_levels zero = refl
element_levels (suc rank) = ap (λ ls. record { number = suc rank; down = false } ∷ ls) (element_levels rank)

pub element_loops : (rank : ℕ) → loops_of (element_order_of rank) ≡ down_to_one rank
element_loops zero = refl
element_loops (suc rank) = ap (λ ns. suc rank ∷ ns) (element_loops rank)

pub element_is_order : (rank : ℕ) → IsOrder rank (element_order_of rank)
element_is_order rank = permuted_equal (loops_of (element_order_of rank)) (down_to_one rank) (element_loops rank)

pub element_fields : (rank : ℕ) (loops : List ℕ) → IsRank rank → loops ≡ down_to_one rank →
    OrderFields rank loops (replicate rank false)
element_fields rank loops ranked is = record {
  ranked = ranked;
  loops_long = ap length is ∙ length-down_to_one rank;
  downs_long = length-replicate rank false;
  order = let P : List Level → Type 0 = λ ls. IsOrder rank ls in
      subst P (sym (element_levels rank) ∙ ap (λ ns. levels ns (replicate rank false)) (sym is)) (element_is_order rank);
}

-- ---- the steps of the code

-- what a search for a number finds
pub has_answer : (xs : List ℕ) (n : ℕ) (r : Bool) → IsAnyAnswer (λ y b. eqb y n ≡ b) xs r → IsTrue r ↔ Member xs n
has_answer xs n true found = (
  λ t. let P : ℕ → Type 0 = λ y. Member xs y in subst P (eqb-true (get_or xs found.0 0) n (found.2 0))
      (Member-get_or xs found.0 0 found.1),
  λ h. refl,
)
has_answer xs n false none = (
  λ t. absurd (false≢true t),
  λ h. absurd
      (both_ways (eqb n n)
      (each_has (λ y. eqb y n ≡ false) xs n
      (each_from_places (λ y. eqb y n ≡ false) xs (λ k d below. none k d (omega arith) below)) h) (eq-eqb n n refl)),
)

-- one more number that is named
pub one_more_named : (loops : List ℕ) (k : ℕ) → ((j : ℕ) → 1 ≤ j → j ≤ k → Member loops j) → Member loops (k + 1) → (j : ℕ) →
    1 ≤ j → j ≤ k + 1 → Member loops j
one_more_named loops k before here j least most =
    elim (cases_lt k j) [
      | inl above ↦ let P : ℕ → Type 0 = λ n. Member loops n in subst P (omega arith) here
      | inr below ↦ before j least below
    ]

-- one more loop of array element order
pub element_step : (rank level : ℕ) (loops : List ℕ) → level < rank → level < length loops →
    take (level + 1) (set loops level (rank - level)) ++ down_to_one (rank - (level + 1)) ≡ take level loops
    ++ down_to_one (rank - level)
element_step rank level loops below in_loops =
    let left : ℕ = rank - (level + 1) in
    let here : rank - level ≡ suc left = omega arith in
    ap (λ xs. xs ++ down_to_one left) (take_more_set loops level (rank - level) in_loops)
    ∙ append_assoc (take level loops) ((rank - level) ∷ []) (down_to_one left)
    ∙ ap (λ n. take level loops ++ n ∷ down_to_one left) here
    ∙ ap (λ n. take level loops ++ down_to_one n) (sym here)

pub element_end : (rank level : ℕ) (loops : List ℕ) → rank ≤ level → level ≤ rank → length loops ≡ rank →
    take level loops ++ down_to_one (rank - level) ≡ down_to_one rank → loops ≡ down_to_one rank
element_end rank level loops above below long whole =
    let none : rank - level ≡ 0 = omega arith in
    sym (append-nil loops) ∙ ap (λ xs. xs ++ []) (sym (take_all level loops (omega arith)))
    ∙ ap (λ n. take level loops ++ down_to_one n) (sym none) ∙ whole

pub levels_of_fields : (order : List Level) (loops : List ℕ) (downs : List Bool) → length loops ≡ length downs →
    levels loops downs ≡ order → (loops ≡ loops_of order) × (downs ≡ downs_of order)
levels_of_fields order loops downs long is =
    (sym (loops_of-levels loops downs long) ∙ ap loops_of is, sym (downs_of-levels loops downs long) ∙ ap downs_of is)
