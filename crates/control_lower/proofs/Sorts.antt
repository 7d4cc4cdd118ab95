-- What operators and functions give has the sort that the sorts of their operands tell.
use Rattle.std.proofs.Common.{◌≡◌, inl, inr, refl, ap, subst, ◌∙◌, ℕ, ℤ, suc, pos, ◌<◌, ◌≤◌, ◌^◌, ◌++◌, arith, Bool, true, false}
use Rattle.std.proofs.Common.{List, [], ◌∷◌}
use Rattle.std.proofs.lemmas.Int.{ints}
use Rattle.std.proofs.lemmas.Bool.{both_ways, and_parts}
use Rattle.std.proofs.lemmas.Bool.Decides.{nat_tests}
use Rattle.std.proofs.lemmas.Nat.{or_of_32, xor_of_32, and_le_l}
use Rattle.std.proofs.Math.Facts.{Fits-of_z}
use mir.Val.{sel, Fits}
use Rattle.std.proofs.lemmas.Option.{none-some, same_Some}
use Rattle.std.specs.Int.{int_pow, cast_signed, cast_unsigned}
use Rattle.std.specs.Cmp.Derive.{both_true}
use Rattle.std.specs.List.{list_all}
use Rattle.a95_base.specs.Lists.{Every}
use Rattle.a95_base.specs.Text.{char_of, adjust_left, adjust_right}
use Rattle.a95_base.proofs.Moduli.{modulo_is_near, remainder_is_near}
use Rattle.std.specs.Ordering.{int_eq, is_eq, is_ne, is_lt, is_le, is_gt, is_ge}
use Rattle.a95_base.specs.declared.fault.FaultKind.TheVariants as fault
use Rattle.f95_unit.specs.declared.operation.UnaryOp.TheVariants as unary
use Rattle.f95_unit.specs.declared.operation.BinaryOp.TheVariants as binary
use Rattle.f95_unit.specs.declared.operation.Elemental.TheVariants as elemental
use Rattle.array_meaning.specs.Values.{nothing, integer_of, truth_of, text_of, argument_of}
use Rattle.nest_tree.specs.Sound as sound
use Rattle.std.specs.Int.{w32}
use Rattle.a95_base.proofs.Wrapping.{fits_wrapped}
use Rattle.std.specs.Prelude.{negsuc, neg_ℤ, ◌*ℤ◌, ◌+ℤ◌, ◌-ℤ◌, int_div, unsigned_abs, not, ◌&&◌, ◌||◌, ◌⊎◌, ◌-◌, nat_eq, nat_le}
use Rattle.std.specs.Prelude.{nat_lt, length, map, fold, bit_and, bit_or, bit_xor, if◌then◌else◌, FitsSigned, int_le, int_lt, ◌≤ℤ◌}
use Rattle.std.specs.Prelude.{◌<ℤ◌, Option, Some, None, Ok, Err}
use Rattle.a95_base.specs.declared.fault.FaultKind.{FaultKind}
use Rattle.a95_base.specs.declared.scalar.Scalar.{Scalar}
use Rattle.a95_base.specs.declared.scalar.Scalar.TheVariants as scalar
use Rattle.a95_base.specs.Integer.{wrapped, sum_of, difference_of, product_of, negation_of, quotient_of, power_of, raised}
use Rattle.a95_base.specs.Integer.{remainder_of, modulo_of, absolute_of, sign_of, greater_of, lesser_of, and_of, or_of}
use Rattle.a95_base.specs.Integer.{exclusive_or_of}
use Rattle.nest_tree.proofs.Sorts.{sort_if_some}
use Rattle.f95_unit.specs.declared.operation.UnaryOp.{UnaryOp}
use Rattle.f95_unit.specs.declared.operation.BinaryOp.{BinaryOp}
use Rattle.f95_unit.specs.declared.operation.Elemental.{Elemental}
use Rattle.array_meaning.specs.Scalars.{unary_of, binary_of, elemental_of, compared, is_equivalent, integer_or, text_or, integers}
use Rattle.array_meaning.specs.Scalars.{texts, best, merged}
use Rattle.nest_tree.specs.declared.unit.Sort.{Sort}
use Rattle.nest_tree.specs.declared.unit.Sort.TheVariants as sort
use Rattle.nest_tree.specs.Sound.{sort_if, some_serves, serves, same_sort, both_serve, are_compared, one_of, two_of, is_merge}
use Rattle.nest_tree.specs.Sound.{either_sort, fits_32_bits, sort_of_scalar, unary_sort, binary_sort, elemental_sort}
use Rattle.control_lower.specs.Lowers.{counts_bytes}
use Rattle.control_lower.proofs.Stands.{HasSort, ok, ok_same, err_ok}

sort_if_true : (b : Bool) (s : Sort) → b ≡ true → sort_if b s ≡ Some s
sort_if_true b s h = rw h refl

pub le_true : (a b : ℤ) → a ≤ℤ b → int_le a b ≡ true
le_true a b h = grind (arith, ints)

pub lt_true : (a b : ℤ) → a <ℤ b → int_lt a b ≡ true
lt_true a b h = grind (arith, ints)

true_le : (a b : ℤ) → int_le a b ≡ true → a ≤ℤ b
true_le a b h = grind (arith, ints)

true_lt : (a b : ℤ) → int_lt a b ≡ true → a <ℤ b
true_lt a b h = grind (arith, ints)

-- ---- integers

pub fits_sort : (z : ℤ) → FitsSigned w32 z → HasSort sort.Int (scalar.Int z)
fits_sort (pos n) h = sort_if_true (fits_32_bits (pos n)) sort.Int
    (both_true
    (le_true (neg_ℤ (pos (2 ^ 31))) (pos n) (omega (arith, ints))) (lt_true (pos n) (pos (2 ^ 31)) (omega (arith, ints, h))))
fits_sort (negsuc n) h = sort_if_true (fits_32_bits (negsuc n)) sort.Int
    (both_true
    (le_true (neg_ℤ (pos (2 ^ 31))) (negsuc n) (omega (arith, ints, h))) (lt_true (negsuc n) (pos (2 ^ 31)) (omega (arith, ints))))

sort_tests : (z : ℤ) → HasSort sort.Int (scalar.Int z) → (neg_ℤ (pos (2 ^ 31)) ≤ℤ z) × (z <ℤ pos (2 ^ 31))
sort_tests z h =
    let tests = and_parts (int_le (neg_ℤ (pos (2 ^ 31))) z) (int_lt z (pos (2 ^ 31)))
    (sort_if_some (fits_32_bits z) sort.Int sort.Int h).0 in
    (true_le (neg_ℤ (pos (2 ^ 31))) z tests.0, true_lt z (pos (2 ^ 31)) tests.1)

within_fits : (z : ℤ) → neg_ℤ (pos (2 ^ 31)) ≤ℤ z → z <ℤ pos (2 ^ 31) → FitsSigned w32 z
within_fits (pos n) low high = omega (arith, ints, high)
within_fits (negsuc n) low high = omega (arith, ints, low)

pub sort_fits : (z : ℤ) → HasSort sort.Int (scalar.Int z) → FitsSigned w32 z
sort_fits z h = within_fits z (sort_tests z h).0 (sort_tests z h).1

pub wrapped_sort : (z : ℤ) → HasSort sort.Int (scalar.Int (wrapped z))
wrapped_sort z = fits_sort (wrapped z) (fits_wrapped z)

-- ---- a value that serves

pub same_is : (s t : Sort) → same_sort s t ≡ true → s ≡ t
same_is sort.Exact sort.Exact h = refl
same_is sort.Exact sort.Int h = absurd (both_ways false refl h)
same_is sort.Exact sort.Log h = absurd (both_ways false refl h)
same_is sort.Exact sort.Text h = absurd (both_ways false refl h)
same_is sort.Int sort.Exact h = absurd (both_ways false refl h)
same_is sort.Int sort.Int h = refl
same_is sort.Int sort.Log h = absurd (both_ways false refl h)
same_is sort.Int sort.Text h = absurd (both_ways false refl h)
same_is sort.Log sort.Exact h = absurd (both_ways false refl h)
same_is sort.Log sort.Int h = absurd (both_ways false refl h)
same_is sort.Log sort.Log h = refl
same_is sort.Log sort.Text h = absurd (both_ways false refl h)
same_is sort.Text sort.Exact h = absurd (both_ways false refl h)
same_is sort.Text sort.Int h = absurd (both_ways false refl h)
same_is sort.Text sort.Log h = absurd (both_ways false refl h)
same_is sort.Text sort.Text h = refl

-- a sort of the language serves for itself alone
serves_is : (s t : Sort) → (t ≡ sort.Exact → ⊥) → serves s t ≡ true → s ≡ t
serves_is sort.Int sort.Exact out h = absurd (out refl)
serves_is sort.Int sort.Int out h = refl
serves_is sort.Int sort.Log out h = same_is sort.Int sort.Log h
serves_is sort.Int sort.Text out h = same_is sort.Int sort.Text h
serves_is sort.Exact t out h = same_is sort.Exact t h
serves_is sort.Log t out h = same_is sort.Log t h
serves_is sort.Text t out h = same_is sort.Text t h

served_by_sort : (o : Option Sort) (s : Sort) → (s ≡ sort.Exact → ⊥) → some_serves o s ≡ true → o ≡ Some s
served_by_sort None s out h = absurd (both_ways false refl h)
served_by_sort (Some t) s out h = ap (λ w. Some w) (serves_is t s out h)

value_serves : (x : Scalar) (s : Sort) → (s ≡ sort.Exact → ⊥) → some_serves (sort_of_scalar x) s ≡ true → HasSort s x
value_serves x s out h = served_by_sort (sort_of_scalar x) s out h

no_exact_int : sort.Int ≡ sort.Exact → ⊥
no_exact_int h = both_ways false refl (ap (λ s. same_sort s sort.Exact) h)

no_exact_log : sort.Log ≡ sort.Exact → ⊥
no_exact_log h = both_ways false refl (ap (λ s. same_sort s sort.Exact) h)

no_exact_text : sort.Text ≡ sort.Exact → ⊥
no_exact_text h = both_ways false refl (ap (λ s. same_sort s sort.Exact) h)

pub integer_fits : (x : Scalar) → HasSort sort.Int x → FitsSigned w32 (integer_of x)
integer_fits (scalar.Int z) h = sort_fits z h
integer_fits (scalar.Log b) h = omega (arith, ints)
integer_fits (scalar.Text bytes) h = omega (arith, ints)

-- ---- results

gives_int : (v : ℤ) (z : Scalar) (u : Sort) → FitsSigned w32 v → sort.Int ≡ u → ok (scalar.Int v) ≡ ok z → HasSort u z
gives_int v z u fits same e = subst (λ y. HasSort u y) (ok_same (scalar.Int v) z e)
    (subst (λ w. HasSort w (scalar.Int v)) same (fits_sort v fits))

gives_log : (b : Bool) (z : Scalar) (u : Sort) → sort.Log ≡ u → ok (scalar.Log b) ≡ ok z → HasSort u z
gives_log b z u same e = subst (λ y. HasSort u y) (ok_same (scalar.Log b) z e) (subst (λ w. HasSort w (scalar.Log b)) same refl)

gives_text : (bytes : List ℕ) (z : Scalar) (u : Sort) → sort.Text ≡ u → ok (scalar.Text bytes) ≡ ok z → HasSort u z
gives_text bytes z u same e = subst (λ y. HasSort u y) (ok_same (scalar.Text bytes) z e)
    (subst (λ w. HasSort w (scalar.Text bytes)) same refl)

gives_option : (o : Option ℤ) (kind : FaultKind) (z : Scalar) (u : Sort) → ((v : ℤ) → o ≡ Some v → FitsSigned w32 v) → sort.Int ≡ u
    → integer_or kind o ≡ Ok z → HasSort u z
gives_option None kind z u fits same e = absurd (err_ok kind z (Err kind) refl e)
gives_option (Some v) kind z u fits same e = gives_int v z u (fits v refl) same e

gives_text_option : (o : Option (List ℕ)) (kind : FaultKind) (z : Scalar) (u : Sort) → sort.Text ≡ u → text_or kind o ≡ Ok z
    → HasSort u z
gives_text_option None kind z u same e = absurd (err_ok kind z (Err kind) refl e)
gives_text_option (Some bytes) kind z u same e = gives_text bytes z u same e

wrapped_if : (t : Bool) (w v : ℤ) → (if t then None else Some (wrapped w)) ≡ Some v → FitsSigned w32 v
wrapped_if true w v h = absurd (none-some v h)
wrapped_if false w v h = subst (λ y. FitsSigned w32 y) (same_Some (wrapped w) v h) (fits_wrapped w)

quotient_fits : (a b v : ℤ) → quotient_of a b ≡ Some v → FitsSigned w32 v
quotient_fits a b v h = wrapped_if (int_eq b (pos 0)) (int_div a b) v h

power_fits : (a b v : ℤ) → power_of a b ≡ Some v → FitsSigned w32 v
power_fits a (pos n) v h = subst (λ y. FitsSigned w32 y) (same_Some (raised a n) v h) (fits_wrapped (int_pow a n))
power_fits a (negsuc n) v h = quotient_fits (pos 1) (int_pow a (suc n)) v h

near_fits : (v p : ℤ) → unsigned_abs v < unsigned_abs p → FitsSigned w32 p → FitsSigned w32 v
near_fits (pos n) (pos m) h fits = omega (arith, ints, fits)
near_fits (pos n) (negsuc m) h fits = omega (arith, ints, fits)
near_fits (negsuc n) (pos m) h fits = omega (arith, ints, fits)
near_fits (negsuc n) (negsuc m) h fits = omega (arith, ints, fits)

pub unary_gives : (op : UnaryOp) (s t : Sort) → unary_sort op (Some s) ≡ Some t → (x : Scalar) → HasSort s x
    → HasSort t (unary_of op x)
unary_gives unary.Plus s t h x k =
    let is = sort_if_some (serves s sort.Int) sort.Int t h in
    subst (λ w. HasSort w x) (serves_is s sort.Int no_exact_int is.0 ∙ is.1) k
unary_gives unary.Minus s t h x k =
    gives_int (negation_of (integer_of x)) (scalar.Int (negation_of (integer_of x))) t (fits_wrapped (neg_ℤ (integer_of x)))
    (sort_if_some (serves s sort.Int) sort.Int t h).1 refl
unary_gives unary.Not s t h x k =
    gives_log (not (truth_of x)) (scalar.Log (not (truth_of x))) t (sort_if_some (serves s sort.Log) sort.Log t h).1 refl

pub binary_gives : (op : BinaryOp) (s t u : Sort) → binary_sort op (Some s) (Some t) ≡ Some u → (x y z : Scalar) → HasSort s x
    → HasSort t y
    → binary_of op x y ≡ Ok z → HasSort u z
binary_gives binary.Power s t u h x y z k l e = gives_option (power_of (integer_of x) (integer_of y)) fault.ZeroDivide z u
    (power_fits (integer_of x) (integer_of y))
    (sort_if_some (both_serve (Some s) (Some t) sort.Int) sort.Int u h).1 e
binary_gives binary.Multiply s t u h x y z k l e = gives_int (product_of (integer_of x) (integer_of y)) z u
    (fits_wrapped (integer_of x *ℤ integer_of y))
    (sort_if_some (both_serve (Some s) (Some t) sort.Int) sort.Int u h).1 e
binary_gives binary.Divide s t u h x y z k l e = gives_option (quotient_of (integer_of x) (integer_of y)) fault.ZeroDivide z u
    (quotient_fits (integer_of x) (integer_of y))
    (sort_if_some (both_serve (Some s) (Some t) sort.Int) sort.Int u h).1 e
binary_gives binary.Add s t u h x y z k l e = gives_int (sum_of (integer_of x) (integer_of y)) z u
    (fits_wrapped (integer_of x +ℤ integer_of y))
    (sort_if_some (both_serve (Some s) (Some t) sort.Int) sort.Int u h).1 e
binary_gives binary.Subtract s t u h x y z k l e = gives_int (difference_of (integer_of x) (integer_of y)) z u
    (fits_wrapped (integer_of x -ℤ integer_of y))
    (sort_if_some (both_serve (Some s) (Some t) sort.Int) sort.Int u h).1 e
binary_gives binary.Concat s t u h x y z k l e = gives_text (text_of x ++ text_of y) z u
    (sort_if_some (both_serve (Some s) (Some t) sort.Text) sort.Text u h).1 e
binary_gives binary.Equal s t u h x y z k l e = gives_log (is_eq (compared x y)) z u
    (sort_if_some (are_compared (Some s) (Some t)) sort.Log u h).1 e
binary_gives binary.NotEqual s t u h x y z k l e = gives_log (is_ne (compared x y)) z u
    (sort_if_some (are_compared (Some s) (Some t)) sort.Log u h).1 e
binary_gives binary.Less s t u h x y z k l e = gives_log (is_lt (compared x y)) z u
    (sort_if_some (are_compared (Some s) (Some t)) sort.Log u h).1 e
binary_gives binary.LessEqual s t u h x y z k l e = gives_log (is_le (compared x y)) z u
    (sort_if_some (are_compared (Some s) (Some t)) sort.Log u h).1 e
binary_gives binary.Greater s t u h x y z k l e = gives_log (is_gt (compared x y)) z u
    (sort_if_some (are_compared (Some s) (Some t)) sort.Log u h).1 e
binary_gives binary.GreaterEqual s t u h x y z k l e = gives_log (is_ge (compared x y)) z u
    (sort_if_some (are_compared (Some s) (Some t)) sort.Log u h).1 e
binary_gives binary.And s t u h x y z k l e = gives_log (truth_of x && truth_of y) z u
    (sort_if_some (both_serve (Some s) (Some t) sort.Log) sort.Log u h).1 e
binary_gives binary.Or s t u h x y z k l e = gives_log (truth_of x || truth_of y) z u
    (sort_if_some (both_serve (Some s) (Some t) sort.Log) sort.Log u h).1 e
binary_gives binary.Equivalent s t u h x y z k l e = gives_log (is_equivalent (truth_of x) (truth_of y)) z u
    (sort_if_some (both_serve (Some s) (Some t) sort.Log) sort.Log u h).1 e
binary_gives binary.NotEquivalent s t u h x y z k l e = gives_log (not (is_equivalent (truth_of x) (truth_of y))) z u
    (sort_if_some (both_serve (Some s) (Some t) sort.Log) sort.Log u h).1 e

-- ---- arguments

-- arguments have the sorts at their places
abbrev pub AreOf : List (ℕ × Option Sort) → List (ℕ × Scalar) → Type 0
AreOf [] [] = Unit {0}
AreOf (s ∷ ss) (x ∷ xs) = (s.0 ≡ x.0) × (s.1 ≡ sort_of_scalar x.1) × AreOf ss xs
AreOf ss xs = ⊥

place_serves : (b : Bool) (o rest : Option Sort) (x other : Scalar) (s : Sort) → (s ≡ sort.Exact → ⊥) → o ≡ sort_of_scalar x
    → (some_serves rest s ≡ true → HasSort s other) → some_serves (if b then o else rest) s ≡ true
    → HasSort s (if b then x else other)
place_serves true o rest x other s out is next h = value_serves x s out (subst (λ w. some_serves w s ≡ true) is h)
place_serves false o rest x other s out is next h = next h

argument_serves : (ss : List (ℕ × Option Sort)) (xs : List (ℕ × Scalar)) (place : ℕ) (s : Sort) → (s ≡ sort.Exact → ⊥) → AreOf ss xs
    → some_serves (sound.sort_at place ss) s ≡ true → HasSort s (argument_of nothing place xs)
argument_serves [] xs place s out k h = absurd (both_ways false refl h)
argument_serves (r ∷ ss) [] place s out k h = absurd k
argument_serves (r ∷ ss) (x ∷ xs) place s out k h =
    place_serves (nat_eq x.0 place) r.1 (sound.sort_at place ss) x.1 (argument_of nothing place xs) s out k.1
    (argument_serves ss xs place s out k.2)
    (subst (λ i. some_serves (if nat_eq i place then r.1 else sound.sort_at place ss) s ≡ true) k.0 h)

argument_fits : (ss : List (ℕ × Option Sort)) (xs : List (ℕ × Scalar)) (place : ℕ) → AreOf ss xs
    → some_serves (sound.sort_at place ss) sort.Int ≡ true → FitsSigned w32 (integers xs place)
argument_fits ss xs place k h = integer_fits (argument_of nothing place xs) (argument_serves ss xs place sort.Int no_exact_int k h)

second_int : (ss : List (ℕ × Option Sort)) (u : Sort) → sort_if (two_of ss sort.Int) sort.Int ≡ Some u
    → some_serves (sound.sort_at 1 ss) sort.Int ≡ true
second_int ss u h =
    let two = and_parts (nat_eq (length ss) 2) (both_serve (sound.sort_at 0 ss) (sound.sort_at 1 ss) sort.Int)
    (sort_if_some (two_of ss sort.Int) sort.Int u h).0 in
    (and_parts (some_serves (sound.sort_at 0 ss) sort.Int) (some_serves (sound.sort_at 1 ss) sort.Int) two.1).1

either_fits : (t : Bool) (a b : ℤ) → FitsSigned w32 a → FitsSigned w32 b → FitsSigned w32 (if t then a else b)
either_fits true a b h g = h
either_fits false a b h g = g

bits_by : (b : Bool) (n : ℕ) → n < 4294967296 → (b ≡ true → n < 2147483648) → (b ≡ false → 2147483648 ≤ n)
    → FitsSigned w32 (sel b (pos n) (negsuc (4294967296 - suc n)))
bits_by true n h g l = let small = g refl in omega (arith, ints)
bits_by false n h g l = let big = l refl in omega (arith, ints)

unsigned_small : (z : ℤ) → FitsSigned w32 z → cast_unsigned w32 z < 2 ^ 32
unsigned_small z h = let small : Fits w32 (cast_unsigned w32 z) = Fits-of_z h in omega (arith, small)

bits_fit : (n : ℕ) → n < 2 ^ 32 → FitsSigned w32 (cast_signed w32 n)
bits_fit n h = bits_by (nat_lt n 2147483648) n h (λ e. grind (arith, nat_tests)) (λ e. grind (arith, nat_tests))

-- ---- MAX and MIN

all_ints : (ss : List (ℕ × Option Sort)) (xs : List (ℕ × Scalar)) → AreOf ss xs → list_all (λ s. some_serves s.1 sort.Int) ss ≡ true
    → Every (HasSort sort.Int) (map (λ x. x.1) xs)
all_ints [] [] k h = tt
all_ints [] (x ∷ xs) k h = absurd k
all_ints (s ∷ ss) [] k h = absurd k
all_ints (s ∷ ss) (x ∷ xs) k h =
    let now = and_parts (some_serves s.1 sort.Int) (list_all (λ r. some_serves r.1 sort.Int) ss) h in
    (value_serves x.1 sort.Int no_exact_int (subst (λ w. some_serves w sort.Int ≡ true) k.1 now.0), all_ints ss xs k.2 now.1)

greater_fits : (x y : ℤ) → FitsSigned w32 x → FitsSigned w32 y → FitsSigned w32 (greater_of x y)
greater_fits x y h g = either_fits (int_lt y x) x y h g

lesser_fits : (x y : ℤ) → FitsSigned w32 x → FitsSigned w32 y → FitsSigned w32 (lesser_of x y)
lesser_fits x y h g = either_fits (int_lt y x) y x g h

module _ (better : ℤ → ℤ → ℤ) (fits : (x y : ℤ) → FitsSigned w32 x → FitsSigned w32 y → FitsSigned w32 (better x y)) where
  fold_fits : (ys : List Scalar) → Every (HasSort sort.Int) ys → (z : ℤ) → FitsSigned w32 z
      → FitsSigned w32 (fold (λ z y. better z (integer_of y)) z ys)
  fold_fits [] h z f = f
  fold_fits (y ∷ ys) h z f = fold_fits ys h.1 (better z (integer_of y)) (fits z (integer_of y) f (integer_fits y h.0))

  best_sort : (ys : List Scalar) → Every (HasSort sort.Int) ys → HasSort sort.Int (best better ys)
  best_sort [] h = refl
  best_sort (y ∷ ys) h = fits_sort (fold (λ z y. better z (integer_of y)) (integer_of y) ys)
      (fold_fits ys h.1 (integer_of y) (integer_fits y h.0))

  best_gives : (ss : List (ℕ × Option Sort)) (xs : List (ℕ × Scalar)) (u : Sort) (z : Scalar) → AreOf ss xs
      → sort_if (list_all (λ s. some_serves s.1 sort.Int) ss && nat_le 1 (length ss)) sort.Int ≡ Some u
      → ok (best better (map (λ x. x.1) xs)) ≡ ok z → HasSort u z
  best_gives ss xs u z k h e =
      let is = sort_if_some (list_all (λ s. some_serves s.1 sort.Int) ss && nat_le 1 (length ss)) sort.Int u h in
      subst (λ y. HasSort u y) (ok_same (best better (map (λ x. x.1) xs)) z e)
      (subst (λ w. HasSort w (best better (map (λ x. x.1) xs))) is.1
      (best_sort (map (λ x. x.1) xs) (all_ints ss xs k
      (and_parts (list_all (λ s. some_serves s.1 sort.Int) ss) (nat_le 1 (length ss)) is.0).0)))

-- ---- MERGE

merge_is : (a b c : Bool) (u : Sort) → either_sort (sort_if a sort.Int) (either_sort (sort_if b sort.Log) (sort_if c sort.Text)) ≡
    Some u
    → ((a ≡ true) × (sort.Int ≡ u)) ⊎ (((b ≡ true) × (sort.Log ≡ u)) ⊎ ((c ≡ true) × (sort.Text ≡ u)))
merge_is true b c u h = inl (refl, same_Some sort.Int u h)
merge_is false true c u h = inr (inl (refl, same_Some sort.Log u h))
merge_is false false true u h = inr (inr (refl, same_Some sort.Text u h))
merge_is false false false u h = absurd (none-some u h)

merged_sort : (t : Bool) (x y : Scalar) (s : Sort) → HasSort s x → HasSort s y → HasSort s (merged t x y)
merged_sort true x y s h g = h
merged_sort false x y s h g = g

merge_by : (ss : List (ℕ × Option Sort)) (xs : List (ℕ × Scalar)) (s u : Sort) (z : Scalar) → (s ≡ sort.Exact → ⊥) → AreOf ss xs
    → (is_merge ss s ≡ true) × (s ≡ u)
    → ok (merged (truth_of (argument_of nothing 2 xs)) (argument_of nothing 0 xs) (argument_of nothing 1 xs)) ≡ ok z → HasSort u z
merge_by ss xs s u z out k h e =
    let outer = and_parts (nat_eq (length ss) 3 && both_serve (sound.sort_at 0 ss) (sound.sort_at 1 ss) s)
    (some_serves (sound.sort_at 2 ss) sort.Log) h.0 in
    let inner = and_parts (nat_eq (length ss) 3) (both_serve (sound.sort_at 0 ss) (sound.sort_at 1 ss) s) outer.0 in
    let args = and_parts (some_serves (sound.sort_at 0 ss) s) (some_serves (sound.sort_at 1 ss) s) inner.1 in
    subst (λ y. HasSort u y) (ok_same (merged (truth_of (argument_of nothing 2 xs)) (argument_of nothing 0 xs)
    (argument_of nothing 1 xs)) z e)
    (subst (λ w. HasSort w (merged (truth_of (argument_of nothing 2 xs)) (argument_of nothing 0 xs) (argument_of nothing 1 xs))) h.1
    (merged_sort (truth_of (argument_of nothing 2 xs)) (argument_of nothing 0 xs) (argument_of nothing 1 xs) s
    (argument_serves ss xs 0 s out k args.0) (argument_serves ss xs 1 s out k args.1)))

merge_gives : (ss : List (ℕ × Option Sort)) (xs : List (ℕ × Scalar)) (u : Sort) (z : Scalar) → AreOf ss xs
    → ((is_merge ss sort.Int ≡ true) × (sort.Int ≡ u)) ⊎
    (((is_merge ss sort.Log ≡ true) × (sort.Log ≡ u)) ⊎ ((is_merge ss sort.Text ≡ true) × (sort.Text ≡ u)))
    → ok (merged (truth_of (argument_of nothing 2 xs)) (argument_of nothing 0 xs) (argument_of nothing 1 xs)) ≡ ok z → HasSort u z
merge_gives ss xs u z k (inl h) e = merge_by ss xs sort.Int u z no_exact_int k h e
merge_gives ss xs u z k (inr (inl h)) e = merge_by ss xs sort.Log u z no_exact_log k h e
merge_gives ss xs u z k (inr (inr h)) e = merge_by ss xs sort.Text u z no_exact_text k h e

-- ---- elemental functions

small_and : (a b : ℕ) → a < 2 ^ 32 → b < 2 ^ 32 → bit_and a b < 2 ^ 32
small_and a b h g = omega (arith, and_le_l a b, h)

first_int : (ss : List (ℕ × Option Sort)) (u : Sort) → sort_if (two_of ss sort.Int) sort.Int ≡ Some u
    → some_serves (sound.sort_at 0 ss) sort.Int ≡ true
first_int ss u h =
    let two = and_parts (nat_eq (length ss) 2) (both_serve (sound.sort_at 0 ss) (sound.sort_at 1 ss) sort.Int)
    (sort_if_some (two_of ss sort.Int) sort.Int u h).0 in
    (and_parts (some_serves (sound.sort_at 0 ss) sort.Int) (some_serves (sound.sort_at 1 ss) sort.Int) two.1).0

pub elemental_gives : (which : Elemental) (ss : List (ℕ × Option Sort)) (u : Sort) → elemental_sort which ss ≡ Some u
    → counts_bytes which ≡ false → (xs : List (ℕ × Scalar)) → AreOf ss xs → (z : Scalar) → elemental_of which xs ≡ Ok z
    → HasSort u z
elemental_gives elemental.Abs ss u h c xs k z e = gives_int (absolute_of (integers xs 0)) z u
    (fits_wrapped (pos (unsigned_abs (integers xs 0))))
    (sort_if_some (one_of ss sort.Int) sort.Int u h).1 e
elemental_gives elemental.Mod ss u h c xs k z e = gives_option (remainder_of (integers xs 0) (integers xs 1)) fault.ZeroDivide z u
    (λ v r. near_fits v (integers xs 1) (remainder_is_near (integers xs 0) (integers xs 1) v r).1
    (argument_fits ss xs 1 k (second_int ss u h)))
    (sort_if_some (two_of ss sort.Int) sort.Int u h).1 e
elemental_gives elemental.Modulo ss u h c xs k z e = gives_option (modulo_of (integers xs 0) (integers xs 1)) fault.ZeroDivide z u
    (λ v r. near_fits v (integers xs 1) (modulo_is_near (integers xs 0) (integers xs 1) v r).1
    (argument_fits ss xs 1 k (second_int ss u h)))
    (sort_if_some (two_of ss sort.Int) sort.Int u h).1 e
elemental_gives elemental.Sign ss u h c xs k z e = gives_int (sign_of (integers xs 0) (integers xs 1)) z u
    (either_fits (int_le (pos 0) (integers xs 1)) (absolute_of (integers xs 0))
    (wrapped (neg_ℤ (pos (unsigned_abs (integers xs 0)))))
    (fits_wrapped (pos (unsigned_abs (integers xs 0)))) (fits_wrapped (neg_ℤ (pos (unsigned_abs (integers xs 0))))))
    (sort_if_some (two_of ss sort.Int) sort.Int u h).1 e
elemental_gives elemental.Max ss u h c xs k z e = best_gives greater_of greater_fits ss xs u z k h e
elemental_gives elemental.Min ss u h c xs k z e = best_gives lesser_of lesser_fits ss xs u z k h e
elemental_gives elemental.Iand ss u h c xs k z e = gives_int (and_of (integers xs 0) (integers xs 1)) z u
    (bits_fit (bit_and (cast_unsigned w32 (integers xs 0)) (cast_unsigned w32 (integers xs 1)))
    (small_and (cast_unsigned w32 (integers xs 0)) (cast_unsigned w32 (integers xs 1))
    (unsigned_small (integers xs 0) (argument_fits ss xs 0 k (first_int ss u h)))
    (unsigned_small (integers xs 1) (argument_fits ss xs 1 k (second_int ss u h)))))
    (sort_if_some (two_of ss sort.Int) sort.Int u h).1 e
elemental_gives elemental.Ior ss u h c xs k z e = gives_int (or_of (integers xs 0) (integers xs 1)) z u
    (bits_fit (bit_or (cast_unsigned w32 (integers xs 0)) (cast_unsigned w32 (integers xs 1)))
    (or_of_32 (cast_unsigned w32 (integers xs 0)) (cast_unsigned w32 (integers xs 1))
    (unsigned_small (integers xs 0) (argument_fits ss xs 0 k (first_int ss u h)))
    (unsigned_small (integers xs 1) (argument_fits ss xs 1 k (second_int ss u h)))))
    (sort_if_some (two_of ss sort.Int) sort.Int u h).1 e
elemental_gives elemental.Ieor ss u h c xs k z e = gives_int (exclusive_or_of (integers xs 0) (integers xs 1)) z u
    (bits_fit (bit_xor (cast_unsigned w32 (integers xs 0)) (cast_unsigned w32 (integers xs 1)))
    (xor_of_32 (cast_unsigned w32 (integers xs 0)) (cast_unsigned w32 (integers xs 1))
    (unsigned_small (integers xs 0) (argument_fits ss xs 0 k (first_int ss u h)))
    (unsigned_small (integers xs 1) (argument_fits ss xs 1 k (second_int ss u h)))))
    (sort_if_some (two_of ss sort.Int) sort.Int u h).1 e
elemental_gives elemental.Merge ss u h c xs k z e = merge_gives ss xs u z k
    (merge_is (is_merge ss sort.Int) (is_merge ss sort.Log) (is_merge ss sort.Text) u h) e
elemental_gives elemental.Ichar ss u h c xs k z e = absurd (both_ways true c refl)
elemental_gives elemental.Char ss u h c xs k z e = gives_text_option (char_of (integers xs 0)) fault.CharRange z u
    (sort_if_some (one_of ss sort.Int) sort.Text u h).1 e
elemental_gives elemental.LenTrim ss u h c xs k z e = absurd (both_ways true c refl)
elemental_gives elemental.Index ss u h c xs k z e = absurd (both_ways true c refl)
elemental_gives elemental.Adjustl ss u h c xs k z e = gives_text (adjust_left (texts xs 0)) z u
    (sort_if_some (one_of ss sort.Text) sort.Text u h).1 e
elemental_gives elemental.Adjustr ss u h c xs k z e = gives_text (adjust_right (texts xs 0)) z u
    (sort_if_some (one_of ss sort.Text) sort.Text u h).1 e
