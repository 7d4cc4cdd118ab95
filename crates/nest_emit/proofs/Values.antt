-- Sorts, and what stands for a value of one.
use Rattle.std.proofs.Common.{◌≡◌, ◌⊎◌, inl, inr, ℕ, ◌<◌, ◌≤◌, Bool, true, List, Option, Some, None, refl, sym, ap, ◌∙◌, subst, arith, ℤ, pos, length}
use Rattle.std.specs.Prelude.{FitsSigned, negsuc, slice_get, get_or, is_some}
use Rattle.std.proofs.lemmas.Option.{slice_get_cases}
use Rattle.a95_base.specs.declared.scalar.Scalar.{Scalar}
use Rattle.a95_base.specs.declared.scalar.Scalar.TheVariants as scalar
use Rattle.a95_base.specs.Integer.{wrapped}
use Rattle.a95_base.proofs.Wrapping.{wrapped_fits, fits_wrapped}
use Rattle.std.proofs.lemmas.Int.{ints, int_wrap_fits}
use Rattle.std.specs.Int.{w32, w64, int_wrap}
use Rattle.std.proofs.lemmas.Bool.Decides.{nat_tests}
use Rattle.nest_tree.proofs.Sorts.{sort_if_some}
use Rattle.array_meaning.specs.Values.{integer_of, truth_of, text_of}
use Rattle.nest_tree.specs.declared.access.Name.{Name}
use Rattle.nest_tree.specs.declared.access.Name.TheVariants as name
use Rattle.nest_tree.specs.declared.unit.Sort.{Sort}
use Rattle.nest_tree.specs.declared.unit.Sort.TheVariants as sort
use Rattle.nest_tree.specs.declared.unit.Declared.{Declared}
use Rattle.nest_tree.specs.Plain.{Procedure}
use Rattle.nest_tree.specs.Sound.{serves, some_serves, sort_of_name, sort_of_type, of_declared, sort_of_scalar, sort_of_some, fits_32_bits}
use Rattle.loop_tree.specs.Values.{truth, holds}
use Rattle.loop_laws.proofs.Within.{truth_holds}
use Rattle.nest_emit.specs.Numbers.{array_number, array_count, leaving_number, scalar_number}
use Rattle.nest_emit.specs.Trees.{number_for, reference_to}
use Rattle.nest_emit.specs.Kin.{IsOf, StandsFor, Shows, block_of}
use Rattle.loop_laws.specs.At.{Variables, number_of}

pub there_is : {A : Type 0} (o : Option A) → is_some o ≡ true → (a : A) × (o ≡ Some a)
there_is None h = cc
there_is (Some a) h = (a, refl)

pub some_is : {A : Type 0} {a b : A} → Some a ≡ Some b → a ≡ b
some_is h = cc

-- a sort that is there
pub record Served (o : Option Sort) (asked : Sort) : Type 0 where
  pub sort : Sort
  pub is : o ≡ Some sort
  pub serves_it : serves sort asked ≡ true

pub served : (o : Option Sort) (asked : Sort) → some_serves o asked ≡ true → Served o asked
served None asked h = cc
served (Some s) asked h = record { sort = s; is = refl; serves_it = h }

-- 32 bits are fewer than 64
fits_64 : (z : ℤ) → FitsSigned w32 z → FitsSigned w64 z
fits_64 z f = omega (arith, ints, f)

pub wide : (z : ℤ) → wrapped z ≡ z → int_wrap w64 z ≡ z
wide z e = int_wrap_fits w64 z (fits_64 z (subst (λ y. FitsSigned w32 y) e (fits_wrapped z)))

pub shows_serves : (s asked : Sort) → serves s asked ≡ true → (z : ℤ) (bytes : List ℕ) (x : Scalar) → Shows s z bytes x →
    Shows asked z bytes x
shows_serves sort.Exact sort.Exact h z bytes x sh = sh
shows_serves sort.Exact sort.Int h z bytes x sh = cc
shows_serves sort.Exact sort.Log h z bytes x sh = cc
shows_serves sort.Exact sort.Text h z bytes x sh = cc
shows_serves sort.Int sort.Exact h z bytes x sh = record { of = (sh.of.0, wide (integer_of x) sh.of.1); value = sh.value }
shows_serves sort.Int sort.Int h z bytes x sh = sh
shows_serves sort.Int sort.Log h z bytes x sh = cc
shows_serves sort.Int sort.Text h z bytes x sh = cc
shows_serves sort.Log sort.Exact h z bytes x sh = cc
shows_serves sort.Log sort.Int h z bytes x sh = cc
shows_serves sort.Log sort.Log h z bytes x sh = sh
shows_serves sort.Log sort.Text h z bytes x sh = cc
shows_serves sort.Text sort.Exact h z bytes x sh = cc
shows_serves sort.Text sort.Int h z bytes x sh = cc
shows_serves sort.Text sort.Log h z bytes x sh = cc
shows_serves sort.Text sort.Text h z bytes x sh = sh

pub shows_as : {s : Sort} {z y : ℤ} {bytes other : List ℕ} {x : Scalar} → y ≡ z → other ≡ bytes → Shows s z bytes x →
    Shows s y other x
shows_as {s} {z} {y} {bytes} {other} {x} e f sh =
    subst (λ (b : List ℕ). Shows s y b x) (sym f) (subst (λ k. Shows s k bytes x) (sym e) sh)

-- the integer, the truth, the text
pub exact_shown : {z : ℤ} {bytes : List ℕ} {x : Scalar} → Shows sort.Exact z bytes x → z ≡ integer_of x
exact_shown {z} {bytes} {x} sh = sh.value ∙ ap number_for sh.of.0

pub int_shown : {z : ℤ} {bytes : List ℕ} {x : Scalar} → Shows sort.Int z bytes x → z ≡ integer_of x
int_shown {z} {bytes} {x} sh = sh.value ∙ ap number_for sh.of.0

pub int_fits : {z : ℤ} {bytes : List ℕ} {x : Scalar} → Shows sort.Int z bytes x → FitsSigned w32 (integer_of x)
int_fits {z} {bytes} {x} sh = subst (λ y. FitsSigned w32 y) sh.of.1 (fits_wrapped (integer_of x))

pub truth_shown : {z : ℤ} {bytes : List ℕ} {x : Scalar} → Shows sort.Log z bytes x → z ≡ truth (truth_of x)
truth_shown {z} {bytes} {x} sh = sh.value ∙ ap number_for sh.of

pub text_shown : {z : ℤ} {bytes : List ℕ} {x : Scalar} → Shows sort.Text z bytes x → bytes ≡ text_of x
text_shown sh = sh.value

-- a condition
pub is_true : {z : ℤ} {bytes : List ℕ} {x : Scalar} {b : Bool} → Shows sort.Log z bytes x → holds z ≡ b → truth_of x ≡ b
is_true {z} {bytes} {x} {b} sh h = sym (truth_holds (truth_of x)) ∙ ap holds (sym (truth_shown sh)) ∙ h

-- ---- numbers

past_none : {A : Type 0} (xs : List A) (k : ℕ) (x : A) → slice_get xs k ≡ Some x → slice_get xs k ≡ None → k < length xs
past_none xs k x h e = cc

pub is_within : (A : Type 0) (xs : List A) (k : ℕ) (x : A) → slice_get xs k ≡ Some x → k < length xs
is_within A xs k x h = by (slice_get_cases xs k).1
  where
    by : ((y : A) × (k < length xs) × (slice_get xs k ≡ Some y) × (get_or xs k y ≡ y)) ⊎
        ((length xs ≤ k) × (slice_get xs k ≡ None)) → k < length xs
    by (inl there) = there.1
    by (inr past) = past_none xs k x h past.1

pub scalar_below : (q : Procedure) (k : ℕ) (s : Sort) → slice_get q.scalars k ≡ Some s → scalar_number q k < leaving_number q
scalar_below q k s h = let within : k < length q.scalars = is_within Sort q.scalars k s h in omega (arith, within)

declared_below : (q : Procedure) (n : ℕ) (s : Sort) (o : Option Declared) → slice_get q.variables n ≡ o →
    of_declared None (λ d. Some (sort_of_type d.of)) o ≡ Some s → n < length q.variables
declared_below q n s None e h = cc
declared_below q n s (Some d) e h = is_within Declared q.variables n d e

pub array_below : (q : Procedure) (n : Name) (s : Sort) → sort_of_name q n ≡ Some s → array_number q n < array_count q
array_below q (name.Own n) s h =
    let within : n < length q.variables = declared_below q n s (slice_get q.variables n) refl h in omega (arith, within)
array_below q (name.Temp t) s h = let within : t < length q.blocks = is_within Sort q.blocks t s h in omega (arith, within)

-- two arrays have two numbers
pub own_number : (q : Procedure) (n : ℕ) (s : Sort) → sort_of_name q (name.Own n) ≡ Some s → n < length q.variables
own_number q n s h = declared_below q n s (slice_get q.variables n) refl h

pub one_array : (q : Procedure) (n k : Name) (s r : Sort) → sort_of_name q n ≡ Some s → sort_of_name q k ≡ Some r →
    array_number q n ≡ array_number q k → n ≡ k
one_array q (name.Own n) (name.Own k) s r h g e = ap name.Own e
one_array q (name.Own n) (name.Temp t) s r h g e =
    let within : n < length q.variables = own_number q n s h in absurd (omega (arith, within, e))
one_array q (name.Temp t) (name.Own n) s r h g e =
    let within : n < length q.variables = own_number q n r g in absurd (omega (arith, within, e))
one_array q (name.Temp t) (name.Temp u) s r h g e = let same : t ≡ u = omega (arith, e) in ap name.Temp same

-- ---- literals

pub stands_for : (s : Sort) (x : Scalar) → StandsFor s (number_for x) (text_of x) x
stands_for sort.Exact x = refl
stands_for sort.Int x = refl
stands_for sort.Log x = refl
stands_for sort.Text x = refl

pub in_32_bits : (z : ℤ) → fits_32_bits z ≡ true → wrapped z ≡ z
in_32_bits (pos n) h = wrapped_fits (pos n) (let few : n < 2147483648 = grind (arith, nat_tests) in omega (arith, few))
in_32_bits (negsuc n) h = wrapped_fits (negsuc n) (let few : n < 2147483648 = grind (arith, nat_tests) in omega (arith, few))

pub scalar_sorted : (x : Scalar) (s : Sort) → sort_of_scalar x ≡ Some s → IsOf s x
scalar_sorted (scalar.Int z) s h =
    let is = sort_if_some (fits_32_bits z) sort.Int s h in subst (λ r. IsOf r (scalar.Int z)) is.1 (refl, in_32_bits z is.0)
scalar_sorted (scalar.Log b) s h = let is : sort.Log ≡ s = cc in subst (λ r. IsOf r (scalar.Log b)) is refl
scalar_sorted (scalar.Text bytes) s h = let is : sort.Text ≡ s = cc in subst (λ r. IsOf r (scalar.Text bytes)) is refl

pub known_sorted : (o : Option Scalar) (s : Sort) → sort_of_some o ≡ Some s → (x : Scalar) × (o ≡ Some x) × IsOf s x
known_sorted None s h = cc
known_sorted (Some x) s h = (x, refl, scalar_sorted x s h)

-- ---- references

pub reference_is : (s : Sort) (v : Variables) (array : ℕ) → number_of v (reference_to (Some s) array) ≡ block_of s v array
reference_is sort.Exact v array = refl
reference_is sort.Int v array = refl
reference_is sort.Log v array = refl
reference_is sort.Text v array = refl
