-- An array value has at most 2^24 elements: one line for each way to make one.
use Rattle.std.proofs.Common.{◌≡◌, refl, sym, ap, ◌∙◌, subst, inl, inr, ◌⊎◌, ℕ, ℤ, pos, zero, suc, ◌+ℤ◌, ◌+◌, ◌*◌, ◌≤◌, Bool, true}
use Rattle.std.proofs.Common.{false, not, ◌&&◌, ◌||◌, List, [], ◌∷◌, ◌++◌, map, length, drop, filter, reverse, arith}
use Rattle.std.specs.Prelude.{Option, Some, None, nat_eq, nat_le, nat_lt, flat_map, zip, unsigned_abs, int_lt, if◌then◌else◌}
use Rattle.std.specs.Prelude.{Result, Ok, Err}
use Rattle.std.specs.List.{list_any}
use Rattle.std.proofs.Math.Nat.{add_comm, mul-zero, le_refl, le_trans, mul_comm, mul_assoc, mul-suc}
use Rattle.std.proofs.lemmas.Bool.{leb-true, leb-false}
use Rattle.std.proofs.lemmas.List.{length-append, length-map, reverse-append}
use Rattle.std.proofs.lemmas.List.Sums.{length-filter, count_by-le-length}
use Rattle.a95_base.specs.declared.fault.FaultKind.{FaultKind}
use Rattle.a95_base.specs.declared.fault.FaultKind.TheVariants as fault
use Rattle.a95_base.specs.declared.scalar.Scalar.{Scalar}
use Rattle.a95_base.specs.declared.scalar.Scalar.TheVariants as scalar
use Rattle.a95_base.specs.Integer.{wrapped, sum_of, product_of, greater_of, lesser_of}
use Rattle.a95_base.specs.Lists.{Every, count_to}
use Rattle.a95_base.specs.Limits.{most_elements}
use Rattle.a95_base.specs.Steps.{pure, stop, behind, ◌>>=◌, ◌>>◌}
use Rattle.a95_base.proofs.Lists.{length-count_to}
use Rattle.f95_unit.specs.declared.operation.Inquiry.TheVariants as inquiry
use Rattle.f95_unit.specs.declared.operation.Reduction.TheVariants as reduction
use Rattle.f95_unit.specs.declared.operation.Rearranging.{Rearranging}
use Rattle.f95_unit.specs.declared.operation.Rearranging.TheVariants as rearranging
use Rattle.f95_unit.specs.Plain.{Expr, typed, Literal, Constant, Index, Named, Brackets, Unary, Binary, Constructor, Elementwise}
use Rattle.f95_unit.specs.Plain.{Trim, Asked, Reduced, Rearranged, Called, Designator, at, Items, no_item, value, loop, Arguments}
use Rattle.f95_unit.specs.Plain.{no_argument, argument, call, Program}
use Rattle.array_meaning.specs.Values.{Value, truth_of, at_place, scalar_value, vector_value, size_of, is_shape, places, joint}
use Rattle.array_meaning.specs.Values.{within_limit, entry, without, by_place, argument_of, has_argument}
use Rattle.array_meaning.specs.State.{Dimension, extent_of, Array, Variable, State, Halt, Step, unless, choose, given}
use Rattle.array_meaning.specs.Sections.{Picked, Single, Listed, Stepped, subscripts_of, section_extents, Section, placed}
use Rattle.array_meaning.specs.Sections.{read_section}
use Rattle.array_meaning.specs.Reductions.{absent, first_argument, second_argument, mask_of, chosen, reduced, matrix_product}
use Rattle.array_meaning.specs.Reductions.{product_at, rank, dot, folded, least_integer, greatest_integer, all_true, any_true}
use Rattle.array_meaning.specs.Reductions.{how_many, along, shown_lower, shown_upper, entries, reduction_of}
use Rattle.array_meaning.specs.Rearrangements.{conforming, packed_into, packed_or_filled, unpacked_at, unpacked_by, is_order}
use Rattle.array_meaning.specs.Rearrangements.{reshaped, reshape_checked, integers_of, order_or_own, no_elements, number_at}
use Rattle.array_meaning.specs.Rearrangements.{dim_or_one, transposed, cyclically_shifted, shifted_off, boundary_of, copies_along}
use Rattle.array_meaning.specs.Rearrangements.{at_least_none, rearrangement_of}
use Rattle.array_meaning.specs.Trees.{Tree, Held, UnaryOf, BinaryOf, Each, CallEach, Trees, no_tree, tree, held, bracketed, Caller}
use Rattle.array_meaning.specs.Trees.{Passed, shape, shapes, joined_shapes, whole}
use Rattle.array_meaning.specs.Expressions.{rounds, gathered, prepare, trees, values, designate, gather, has_no_extents}
use Rattle.array_meaning.specs.Expressions.{procedure_at}
use Rattle.array_meaning.specs.Purity.{Refers, RefersArguments, TurnsAlone, Changes}
use Rattle.array_meaning.specs.Reads.{Either, Whenever, SeesActualsAlone}
use Rattle.array_meaning.specs.Sizes.{IsLimited, is_of_places, TakesLimited, AllTakeLimited, ValuesAreLimited, InquiriesAreLimited}
use Rattle.array_meaning.specs.Sizes.{ReductionsAreLimited}
use Rattle.array_meaning.proofs.Kept.{keeps_prepare, keeps_evaluate}
use Rattle.array_meaning.proofs.PureCalls.{turns_alone}
use Rattle.array_meaning.proofs.Wholeness.{Gives, gives_pure, gives_then, gives_next, gives_any, ok, ok_same, all_length}

abbrev Small : List ℕ → Type 0
Small extents = size_of extents ≤ most_elements

scalar_small : Small []
scalar_small = omega arith

-- ---- results

same_ok : {A : Type 0} (a b : A) → ok {E = FaultKind} a ≡ ok b → a ≡ b
same_ok a b e = ok_same {E = FaultKind} a b e

tested : (b : Bool) (v w : Value) → nat_le (size_of v.extents) most_elements ≡ b
    → (if b then Ok v else Err fault.TooLarge) ≡ Ok w → IsLimited w
tested true v w t e = subst (λ (x : Value). IsLimited x) (same_ok v w e) (leb-true (size_of v.extents) most_elements t)
tested false v w t e = cc

within_small : (v w : Value) → within_limit v ≡ Ok w → IsLimited w
within_small v w e = tested (nat_le (size_of v.extents) most_elements) v w refl e

exact_small : (v w : Value) → IsLimited v → ok {E = FaultKind} v ≡ ok w → IsLimited w
exact_small v w h e = subst (λ (x : Value). IsLimited x) (same_ok v w e) h

joint_by : (b : Bool) (x y z : List ℕ) → Small x → (if b then Ok x else Err fault.Shape) ≡ Ok z → Small z
joint_by true x y z h e = subst Small (same_ok x z e) h
joint_by false x y z h e = cc

joint_small : (x y z : List ℕ) → Small x → Small y → joint x y ≡ Ok z → Small z
joint_small [] y z h g e = subst Small (same_ok y z e) g
joint_small (n ∷ x) [] z h g e = subst Small (same_ok (n ∷ x) z e) h
joint_small (n ∷ x) (m ∷ y) z h g e = joint_by (is_shape (n ∷ x) (m ∷ y)) (n ∷ x) (m ∷ y) z h e

joined_small : (r q : Result (List ℕ) FaultKind) → ((x : List ℕ) → r ≡ Ok x → Small x) → ((y : List ℕ) → q ≡ Ok y → Small y)
    → (z : List ℕ) → joined_shapes r q ≡ Ok z → Small z
joined_small (Ok x) (Ok y) h g z e = joint_small x y z (h x refl) (g y refl) e
joined_small (Ok x) (Err kind) h g z e = cc
joined_small (Err kind) q h g z e = cc

-- ---- element trees: a shape is that of a leaf

abbrev mutual
  LeavesSmall : Tree → Type 0
  LeavesSmall (Held v section) = IsLimited v
  LeavesSmall (UnaryOf op t) = LeavesSmall t
  LeavesSmall (BinaryOf op t u) = LeavesSmall t × LeavesSmall u
  LeavesSmall (Each which ts) = AllSmall ts
  LeavesSmall (CallEach p like ts) = AllSmall ts

  AllSmall : Trees → Type 0
  AllSmall no_tree = Unit {0}
  AllSmall (tree place t ts) = LeavesSmall t × AllSmall ts

mutual
  shape_small : (t : Tree) → LeavesSmall t → (z : List ℕ) → shape t ≡ Ok z → Small z
  shape_small (Held v section) h z e = subst Small (same_ok v.extents z e) h
  shape_small (UnaryOf op t) h z e = shape_small t h z e
  shape_small (BinaryOf op t u) h z e = joined_small (shape t) (shape u) (shape_small t h.0) (shape_small u h.1) z e
  shape_small (Each which ts) h z e = shapes_small ts h z e
  shape_small (CallEach p like ts) h z e = shapes_small ts h z e

  shapes_small : (ts : Trees) → AllSmall ts → (z : List ℕ) → shapes ts ≡ Ok z → Small z
  shapes_small no_tree h z e = subst Small (same_ok [] z e) scalar_small
  shapes_small (tree place t ts) h z e = joined_small (shape t) (shapes ts) (shape_small t h.0) (shapes_small ts h.1) z e

in_brackets : (t : Tree) → LeavesSmall t → LeavesSmall (bracketed t)
in_brackets (Held v section) h = h
in_brackets (UnaryOf op t) h = h
in_brackets (BinaryOf op t u) h = h
in_brackets (Each which ts) h = h
in_brackets (CallEach p like ts) h = h

-- ---- steps

gives_given : {A : Type 0} (P : A → Type 0) (line : ℕ) (r : Result A FaultKind) → ((a : A) → r ≡ Ok a → P a)
    → Gives P (given line r)
unfolding given pure stop
gives_given P line (Ok a) h = record { gives = λ s b e. subst P (ok_same {E = Halt} a b e) (h a refl) }
gives_given P line (Err kind) h = record { gives = λ s b e. cc }

gives_unless : {B : Type 0} (P : B → Type 0) (b : Bool) (kind : FaultKind) (line : ℕ) {n : Step B} → (b ≡ true → Gives P n)
    → Gives P (unless b kind line >> n)
unfolding ◌>>◌ behind unless pure stop
gives_unless P true kind line h = record { gives = λ s a e. (h refl).gives s a e }
gives_unless P false kind line h = record { gives = λ s a e. cc }

-- a whole value has as many elements as its extents say, and these are few
abbrev IsWhole : Value → Type 0
IsWhole v = IsLimited v × (length v.elements ≡ size_of v.extents)

gives_whole : (calls : Caller) (line : ℕ) (t : Tree) → LeavesSmall t → Gives IsWhole (whole calls line t)
unfolding whole
gives_whole calls line t h = gives_then Small IsWhole (gives_given Small line (shape t) (shape_small t h))
    (λ extents small. gives_then (λ xs. length xs ≡ size_of extents) IsWhole (all_length calls line 0 (size_of extents) t)
    (λ xs full. gives_pure IsWhole _ (small, full)))

-- ---- designators

section_size : (picked : List Picked) → size_of (section_extents picked) ≡ size_of (map (λ p. length (subscripts_of p)) picked)
section_size [] = refl
section_size (Single z ∷ more) = section_size more ∙ (let one : size_of (map (λ p. length (subscripts_of p)) more) ≡ 1 * size_of
    (map (λ p. length (subscripts_of p)) more) = omega arith in one)
section_size (Listed zs ∷ more) = ap (λ n. length zs * n) (section_size more)
section_size (Stepped f l k ∷ more) = ap (λ n. length (subscripts_of (Stepped f l k)) * n) (section_size more)

abbrev NamesFew : Section → Type 0
NamesFew named = Small named.extents

placed_few : (line n : ℕ) (v : Variable) (a : Array) (picked : List Picked) (part : Option (ℤ × ℤ)) → Gives NamesFew
    (placed line n v a picked part)
placed_few line n v a picked part = gives_next NamesFew _ (gives_next NamesFew _ (gives_unless NamesFew _ _ _
    (λ t. gives_pure NamesFew _ (subst (λ k. k ≤ most_elements) (sym (section_size picked)) (leb-true _ _ t)))))

designate_few : (unit : Program) (calls : Caller) (line : ℕ) (ix : List ℤ) (d : Designator) → Gives NamesFew
    (designate unit calls line ix d)
designate_few unit calls line ix (at n access part) = gives_then (λ v. Unit {0}) NamesFew (gives_any _)
    (λ v u. gives_then (λ a. Unit {0}) NamesFew (gives_any _)
    (λ a u. gives_then (λ p. Unit {0}) NamesFew (gives_any _)
    (λ picked u. gives_then (λ b. Unit {0}) NamesFew (gives_any _) (λ bounds u. placed_few line n v a picked bounds))))

read_small : (line : ℕ) (named : Section) → NamesFew named → Gives IsLimited (read_section line named)
read_small line named h = gives_then (λ v. Unit {0}) IsLimited (gives_any _)
    (λ v u. gives_then (λ a. Unit {0}) IsLimited (gives_any _) (λ a u. gives_pure IsLimited _ h))

-- ---- constructors

abbrev Few : List Scalar → Type 0
Few xs = length xs ≤ most_elements

gathered_few : (line : ℕ) (xs : List Scalar) (v : Value) → Gives Few (gathered line xs v)
gathered_few line xs v = gives_unless Few _ _ _ (λ t. gives_pure Few _ (leb-true _ _ t))

rounds_few : (n : ℕ) (i step : ℤ) {body : ℤ → List Scalar → Step (List Scalar)} →
    ((i : ℤ) (xs : List Scalar) → Few xs → Gives Few (body i xs)) → (xs : List Scalar) → Few xs
    → Gives Few (rounds n i step body xs)
unfolding rounds
rounds_few zero i step h xs few = gives_pure Few _ few
rounds_few (suc n) i step h xs few = gives_next Few _
    (gives_then Few Few (h i xs few) (λ ys few. rounds_few n (i +ℤ step) step h ys few))

gather_few : (unit : Program) (calls : Caller) (line : ℕ) (ix : List ℤ) (items : Items) (xs : List Scalar) → Few xs → Gives Few
    (gather unit calls line ix items xs)
gather_few unit calls line ix no_item xs few = gives_pure Few _ few
gather_few unit calls line ix (value e more) xs few = gives_then (λ v. Unit {0}) Few (gives_any _)
    (λ v u. gives_then Few Few (gathered_few line xs v) (λ ys few. gather_few unit calls line ix more ys few))
gather_few unit calls line ix (loop body first last step more) xs few = gives_then (λ f. Unit {0}) Few (gives_any _)
    (λ f u. gives_then (λ l. Unit {0}) Few (gives_any _) (λ l u. gives_then (λ k. Unit {0}) Few (gives_any _)
    (λ k u. gives_next Few _
    (gives_then Few Few (rounds_few _ f k (λ i zs few. gather_few unit calls line (ix ++ i ∷ []) body zs few) xs few)
    (λ ys few. gather_few unit calls line ix more ys few)))))

vector_small : (n : ℕ) → n ≤ most_elements → Small (n ∷ [])
vector_small n h = omega (arith, h)

-- ---- lists

flat_length : {A B : Type 0} (f : A → List B) (m : ℕ) → ((x : A) → length (f x) ≡ m) → (xs : List A)
    → length (flat_map f xs) ≡ m * length xs
flat_length f m h [] = sym (mul-zero m)
flat_length f m h (x ∷ xs) = length-append (f x) (flat_map f xs)
    ∙ (λ i. h x i + flat_length f m h xs i) ∙ add_comm m (m * length xs)
    ∙ sym (mul-suc m (length xs))

places_length : (extents : List ℕ) → length (places extents) ≡ size_of extents
places_length [] = refl
places_length (n ∷ extents) = flat_length (λ ys. map (λ x. x ∷ ys) (count_to n)) n
    (λ ys. length-map (count_to n) (λ x. x ∷ ys) ∙ length-count_to n) (places extents)
    ∙ ap (λ k. n * k) (places_length extents)

chosen_length : (a mask : Value) → length (chosen a mask (places a.extents)) ≤ size_of a.extents
chosen_length a mask =
    let ps = places a.extents in
    let kept = filter (λ p. truth_of (at_place mask p)) ps in
    omega (
      arith,
      length-map kept (at_place a),
      length-filter (λ p. truth_of (at_place mask p)) ps,
      count_by-le-length (λ p. truth_of (at_place mask p)) ps,
      places_length a.extents,
    )

back_length : {A : Type 0} (n : ℕ) (xs : List A) → n ≤ length xs → n + length (drop n xs) ≡ length xs
back_length zero xs h = let none : 0 + length xs ≡ length xs = omega arith in none
back_length (suc n) (x ∷ xs) h =
    let rest : n + length (drop n xs) ≡ length xs = back_length n xs (omega (arith, h)) in
    let more : suc n + length (drop n xs) ≡ suc (length xs) = omega (arith, rest) in more
back_length (suc n) [] h = absurd (omega (arith, h))

size_append : (xs ys : List ℕ) → size_of (xs ++ ys) ≡ size_of xs * size_of ys
size_append [] ys = let one : size_of ys ≡ 1 * size_of ys = omega arith in one
size_append (x ∷ xs) ys = ap (λ n. x * n) (size_append xs ys) ∙ sym (mul_assoc x (size_of xs) (size_of ys))

size_reverse : (xs : List ℕ) → size_of (reverse xs) ≡ size_of xs
size_reverse [] = refl
size_reverse (x ∷ xs) = ap size_of (reverse-append (x ∷ []) xs) ∙ size_append (reverse xs) (x ∷ [])
    ∙ ap (λ n. n * (x * 1)) (size_reverse xs) ∙ (let one : x * 1 ≡ x = omega arith in ap (λ n. size_of xs * n) one)
    ∙ mul_comm (size_of xs) x

-- ---- inquiries and reductions

entries_size : (zs : List ℤ) (dim : Option ℕ)
    → (size_of (entries zs dim).extents ≡ 1) ⊎ (size_of (entries zs dim).extents ≡ length zs)
entries_size zs None =
    let ys : List Scalar = map (λ z. scalar.Int (wrapped z)) zs in
    let one : length ys * 1 ≡ length ys = omega arith in
    inr (one ∙ length-map zs (λ z. scalar.Int (wrapped z)))
entries_size zs (Some dim) = inl refl

shown_size : (f : Dimension → ℤ) (bounds : List Dimension) (dim : Option ℕ)
    → (size_of (entries (map f bounds) dim).extents ≡ 1) ⊎ (size_of (entries (map f bounds) dim).extents ≡ length bounds)
shown_size f bounds dim = subst (λ k. (size_of (entries (map f bounds) dim).extents ≡ 1)
    ⊎ (size_of (entries (map f bounds) dim).extents ≡ k)) (length-map bounds f) (entries_size (map f bounds) dim)

pub inquiries_are_limited : InquiriesAreLimited
inquiries_are_limited inquiry.Size None bounds x = inl refl
inquiries_are_limited inquiry.Size (Some dim) bounds x = inl refl
inquiries_are_limited inquiry.Shape dim bounds x = shown_size (λ d. pos (extent_of d)) bounds None
inquiries_are_limited inquiry.Lbound dim bounds x = shown_size shown_lower bounds dim
inquiries_are_limited inquiry.Ubound dim bounds x = shown_size shown_upper bounds dim
inquiries_are_limited inquiry.Allocated dim bounds x = inl refl
inquiries_are_limited inquiry.Len dim bounds x = inl refl

reduced_small : (x : Scalar) (f : List Scalar → Scalar) (dim : Option ℕ) (a mask v : Value) → reduced x f dim a mask ≡ Ok v
    → IsLimited v
reduced_small x f None a mask v e = exact_small (scalar_value (f (chosen a mask (places a.extents)))) v scalar_small e
reduced_small x f (Some dim) a mask v e = within_small
    (by_place x (without dim a.extents) (λ p. f (chosen a mask (along dim a.extents p)))) v e

product_by : (b : Bool) (w v : Value) → (if b then within_limit w else Err fault.Shape) ≡ Ok v → IsLimited v
product_by true w v e = within_small w v e
product_by false w v e = cc

product_small : (a b v : Value) → matrix_product a b ≡ Ok v → IsLimited v
product_small a b v e = product_by (nat_eq (entry (rank a) a.extents) (entry 1 b.extents))
    (by_place a.like (without (rank a) a.extents ++ without 1 b.extents) (product_at a b (entry 1 b.extents))) v e

pub reductions_are_limited : ReductionsAreLimited
reductions_are_limited reduction.Sum dim xs v other e = reduced_small (scalar.Int (pos 0)) (folded sum_of (pos 0)) dim
    (first_argument xs) (mask_of 2 xs) v e
reductions_are_limited reduction.Product dim xs v other e = reduced_small (scalar.Int (pos 0)) (folded product_of (pos 1)) dim
    (first_argument xs) (mask_of 2 xs) v e
reductions_are_limited reduction.Maxval dim xs v other e = reduced_small (scalar.Int (pos 0)) (folded greater_of least_integer) dim
    (first_argument xs) (mask_of 2 xs) v e
reductions_are_limited reduction.Minval dim xs v other e = reduced_small (scalar.Int (pos 0)) (folded lesser_of greatest_integer)
    dim (first_argument xs) (mask_of 2 xs) v e
reductions_are_limited reduction.All dim xs v other e = reduced_small (scalar.Log false) all_true dim
    (first_argument xs) (scalar_value (scalar.Log true)) v e
reductions_are_limited reduction.Any dim xs v other e = reduced_small (scalar.Log false) any_true dim
    (first_argument xs) (scalar_value (scalar.Log true)) v e
reductions_are_limited reduction.Count dim xs v other e = reduced_small (scalar.Int (pos 0)) how_many dim
    (first_argument xs) (scalar_value (scalar.Log true)) v e
reductions_are_limited reduction.Maxloc dim xs v other e = cc
reductions_are_limited reduction.Minloc dim xs v other e = cc
reductions_are_limited reduction.DotProduct dim xs v other e = exact_small
    (scalar_value (dot (first_argument xs).like (zip (first_argument xs).elements (second_argument xs).elements))) v scalar_small e
reductions_are_limited reduction.Matmul dim xs v other e = product_small (first_argument xs) (second_argument xs) v e

-- ---- what puts elements into other places

absent_whole : IsWhole absent
absent_whole = (scalar_small, refl)

argument_by : (b : Bool) (x rest : Value) → IsWhole x → IsWhole rest → IsWhole (if b then x else rest)
argument_by true x rest h g = h
argument_by false x rest h g = g

argument_whole : (d : Value) → IsWhole d → (place : ℕ) (xs : List (ℕ × Value)) → Every (λ (x : ℕ × Value). IsWhole x.1) xs
    → IsWhole (argument_of d place xs)
argument_whole d w place [] h = w
argument_whole d w place (x ∷ xs) h = argument_by (nat_eq x.0 place) x.1 (argument_of d place xs) h.0
    (argument_whole d w place xs h.1)

conforming_small : (r : Result (List ℕ) FaultKind) (q : Result Value FaultKind) (v : Value) → ((w : Value) → q ≡ Ok w → IsLimited w)
    → conforming r q ≡ Ok v → IsLimited v
conforming_small (Ok extents) q v h e = h v e
conforming_small (Err kind) q v h e = cc

not_longer : (m n : ℕ) → nat_lt m n ≡ false → n ≤ m
not_longer m n h = omega (arith, leb-false (suc m) n h)

into_by : (b : Bool) (x : Scalar) (xs : List Scalar) (vector v : Value) → IsWhole vector → nat_lt (length vector.elements) (length
    xs) ≡ b
    → (if b then Err fault.Argument else Ok (vector_value x (xs ++ drop (length xs) vector.elements))) ≡ Ok v → IsLimited v
into_by true x xs vector v w t e = cc
into_by false x xs vector v w t e = exact_small _ v
    (omega (
      arith,
      w.0,
      w.1,
      length-append xs (drop (length xs) vector.elements),
      back_length (length xs) vector.elements (not_longer (length vector.elements) (length xs) t),
    )) e

filled_by : (b : Bool) (a : Value) (picked : List Scalar) (vector v : Value) → Few picked → IsWhole vector
    → (if b then packed_into a picked vector else Ok (vector_value a.like picked)) ≡ Ok v → IsLimited v
filled_by true a picked vector v h w e = into_by (nat_lt (length vector.elements) (length picked)) a.like picked vector v w
    refl e
filled_by false a picked vector v h w e = exact_small _ v (vector_small _ h) e

unpacked_small : (b : Bool) (w v : Value) → IsLimited w → (if b then Err fault.Argument else Ok w) ≡ Ok v → IsLimited v
unpacked_small true w v h e = cc
unpacked_small false w v h e = exact_small w v h e

reshaped_by : (b : Bool) (w v : Value) → (if b then Err fault.Argument else within_limit w) ≡ Ok v → IsLimited v
reshaped_by true w v e = cc
reshaped_by false w v e = within_small w v e

reshaped_small : (source : Value) (shape : List ℤ) (pad : Value) (order : List ℤ) (v : Value)
    → reshape_checked source shape pad order ≡ Ok v → IsLimited v
reshaped_small source shape pad order v e = reshaped_by
    (list_any (λ z. int_lt z (pos 0)) shape || not (is_order (length shape) order)
    || (nat_lt (length source.elements) (size_of (map unsigned_abs shape)) && nat_eq (length pad.elements) 0))
    (reshaped source (map unsigned_abs shape) pad (map unsigned_abs order)) v e

module _ (xs : List (ℕ × Value)) (h : Every (λ (x : ℕ × Value). IsWhole x.1) xs) where
  given_whole : (place : ℕ) → IsWhole (argument_of absent place xs)
  given_whole place = argument_whole absent absent_whole place xs h

  rearranged_small : (which : Rearranging) (dim : Option ℕ) (v : Value) → rearrangement_of which dim xs ≡ Ok v → IsLimited v
  rearranged_small rearranging.Transpose dim v e = exact_small (transposed (first_argument xs)) v
      (subst (λ k. k ≤ most_elements) (sym (size_reverse (first_argument xs).extents)) (given_whole 0).0) e
  rearranged_small rearranging.Cshift dim v e = exact_small
      (cyclically_shifted (first_argument xs) (number_at 1 xs) (dim_or_one dim)) v (given_whole 0).0 e
  rearranged_small rearranging.Eoshift dim v e = exact_small
      (shifted_off (first_argument xs) (number_at 1 xs) (boundary_of xs) (dim_or_one dim)) v (given_whole 0).0 e
  rearranged_small rearranging.Spread dim v e = within_small
      (copies_along (first_argument xs) (dim_or_one dim) (at_least_none (number_at 2 xs))) v e
  rearranged_small rearranging.Pack dim v e =
      let a : Value = first_argument xs in
      let mask : Value = second_argument xs in
      let picked : List Scalar = chosen a mask (places a.extents) in
      conforming_small (joint a.extents mask.extents) (packed_or_filled a picked xs) v
      (λ w f. filled_by (has_argument 2 xs) a picked (argument_of absent 2 xs) w
      (le_trans (chosen_length a mask) (given_whole 0).0) (given_whole 2) f) e
  rearranged_small rearranging.Unpack dim v e =
      let vector : Value = first_argument xs in
      let mask : Value = second_argument xs in
      let field : Value = argument_of absent 2 xs in
      let truths : List Bool = map truth_of mask.elements in
      conforming_small (joint mask.extents field.extents) (unpacked_by vector mask.extents truths field) v
      (λ w f. unpacked_small (nat_lt (length vector.elements) (length (filter (λ b. b) truths)))
      (record {
        extents = mask.extents;
        like = vector.like;
        elements = map (unpacked_at vector truths field)
            (count_to (length truths));
      })
      w (given_whole 1).0 f) e
  rearranged_small rearranging.Reshape dim v e = reshaped_small (first_argument xs) (integers_of (second_argument xs))
      (argument_of no_elements 2 xs)
      (order_or_own (length (second_argument xs).elements) (has_argument 3 xs) (argument_of absent 3 xs)) v e

-- ---- one step behind another, with any of the turns that are left

record Sized (s : State) {A : Type 0} (P : A → Type 0) (m : Step A) : Type 0 where
  pub sized : Whenever s m P

module _ (s : State) where
  sized_behind : {A B : Type 0} (Q : B → Type 0) (f : A → Step B) (came : Result A Halt) (t : State) (n : ℕ) → n ≤ s.left
      → t ≡ record s { left = t.left } → t.left ≤ n → ((a : A) → came ≡ Ok a → Whenever s (f a) Q) → (b : B)
      → (behind f came t).came ≡ Ok b → Q b
  unfolding behind
  sized_behind Q f (Ok a) t n le same fewer h b e = h a refl t.left (le_trans fewer le) b (subst (λ x. (f a x).came ≡ Ok b) same e)
  sized_behind Q f (Err halt) t n le same fewer h b e = cc

  sized_then : {A B : Type 0} (P : A → Type 0) (Q : B → Type 0) {m : Step A} {f : A → Step B} → Changes TurnsAlone m → Sized s P m
      → ((a : A) → P a → Sized s Q (f a)) → Sized s Q (m >>= f)
  unfolding ◌>>=◌
  sized_then P Q {m = m} {f = f} goes h g = record {
    sized = λ n le b e. sized_behind Q f (m (record s { left = n })).came (m (record s { left = n })).after n le
        (goes (record s { left = n })).0 (goes (record s { left = n })).1 (λ a c. (g a (h.sized n le a c)).sized) b e;
  }

  any_behind : {A B : Type 0} (Q : B → Type 0) (f : A → Step B) (came : Result A Halt) (t : State) →
      ((a : A) → came ≡ Ok a → Gives Q (f a))
      → (b : B) → (behind f came t).came ≡ Ok b → Q b
  unfolding behind
  any_behind Q f (Ok a) t h b e = (h a refl).gives t b e
  any_behind Q f (Err halt) t h b e = cc

  -- what holds of the next value from each state
  sized_map : {A B : Type 0} (P : A → Type 0) (Q : B → Type 0) {m : Step A} {f : A → Step B} → Sized s P m →
      ((a : A) → P a → Gives Q (f a)) → Sized s Q (m >>= f)
  unfolding ◌>>=◌
  sized_map P Q {m = m} {f = f} h g = record {
    sized = λ n le b e. any_behind Q f (m (record s { left = n })).came (m (record s { left = n })).after
        (λ a c. g a (h.sized n le a c)) b e;
  }

  sized_gives : {A : Type 0} (P : A → Type 0) {m : Step A} → Gives P m → Sized s P m
  sized_gives P h = record { sized = λ n le a e. h.gives (record s { left = n }) a e }

  sized_choose : {A : Type 0} (P : A → Type 0) (b : Bool) {m o : Step A} → Sized s P m → Sized s P o → Sized s P (choose b m o)
  unfolding choose
  sized_choose P true h g = record { sized = h.sized }
  sized_choose P false h g = record { sized = g.sized }

  places_or : (b : Bool) {P R : Type 0} → Either b P (Unit {0}) → (P → R) → ((b ≡ false) → R) → R
  places_or true h f g = f h
  places_or false h f g = g refl

  -- ---- the parts of an expression

  module _ (unit : Program) (calls : Caller) (line : ℕ) where
    abbrev Sees : ℕ → Type 0
    Sees = SeesActualsAlone calls

    takes : (p : ℕ) → Sees p → (l : ℕ) (vs : List (ℕ × Passed)) → Changes TurnsAlone (calls p l vs)
    takes p h l vs t = h.takes l vs t

    abbrev AllWhole : List (ℕ × Value) → Type 0
    AllWhole vs = Every (λ (x : ℕ × Value). IsWhole x.1) vs

    gives_held : (v : Value) → IsLimited v → Gives LeavesSmall (pure (held v))
    gives_held v h = gives_pure LeavesSmall (held v) h

    mutual
      sized_prepare : (ix : List ℤ) (e : Expr) → Refers Sees e → TakesLimited unit calls line s ix e
          → Sized s LeavesSmall (prepare unit calls line ix e)
      sized_prepare ix (typed f (Literal x)) g h = sized_gives LeavesSmall (gives_pure LeavesSmall _ scalar_small)
      sized_prepare ix (typed f (Constant n)) g h = sized_gives LeavesSmall (gives_pure LeavesSmall _ scalar_small)
      sized_prepare ix (typed f (Index k)) g h = sized_gives LeavesSmall (gives_pure LeavesSmall _ scalar_small)
      sized_prepare ix (typed f (Named d)) g h = sized_gives LeavesSmall
          (gives_then NamesFew LeavesSmall (designate_few unit calls line ix d)
          (λ named few. gives_then IsLimited LeavesSmall (read_small line named few) (λ v small. gives_pure LeavesSmall _ small)))
      sized_prepare ix (typed f (Brackets e)) g h = sized_map LeavesSmall LeavesSmall (sized_prepare ix e g h)
          (λ t p. gives_pure LeavesSmall _ (in_brackets t p))
      sized_prepare ix (typed f (Unary op e)) g h = sized_map LeavesSmall LeavesSmall (sized_prepare ix e g h)
          (λ t p. gives_pure LeavesSmall _ p)
      sized_prepare ix (typed f (Binary op e b)) g h = sized_then LeavesSmall LeavesSmall
          (keeps_prepare turns_alone Sees calls takes line unit ix e g.0).goes (sized_prepare ix e g.0 h.0)
          (λ t p. sized_map LeavesSmall LeavesSmall (sized_prepare ix b g.1 h.1) (λ u q. gives_pure LeavesSmall _ (p, q)))
      sized_prepare ix (typed f (Constructor items)) g h = sized_gives LeavesSmall
          (gives_then Few LeavesSmall (gather_few unit calls line ix items [] (omega arith))
          (λ xs few. gives_pure LeavesSmall _ (vector_small _ few)))
      sized_prepare ix (typed f (Elementwise which es)) g h = sized_choose LeavesSmall (has_no_extents f.extents)
          (sized_gives LeavesSmall (gives_then (λ vs. Unit {0}) LeavesSmall (gives_any _)
          (λ vs u. gives_then (λ x. Unit {0}) LeavesSmall (gives_any _) (λ x u. gives_pure LeavesSmall _ scalar_small))))
          (sized_map AllSmall LeavesSmall (sized_trees ix es g h) (λ ts p. gives_pure LeavesSmall _ p))
      sized_prepare ix (typed f (Trim e)) g h = sized_gives LeavesSmall (gives_then (λ v. Unit {0}) LeavesSmall (gives_any _)
          (λ v u. gives_pure LeavesSmall _ scalar_small))
      sized_prepare ix (typed f (Asked which dim subject)) g h = sized_map IsLimited LeavesSmall
          (record { sized = h }) (λ v p. gives_pure
          LeavesSmall _ p)
      sized_prepare ix (typed f (Reduced which dim es)) g h = places_or (is_of_places which) h
          (λ j. sized_map (λ vs. (v : Value) → reduction_of which dim vs ≡ Ok v → IsLimited v) LeavesSmall (record { sized = j })
          (λ vs p. gives_then IsLimited LeavesSmall (gives_given IsLimited line _ p) (λ v q. gives_pure LeavesSmall _ q)))
          (λ j. sized_gives LeavesSmall (gives_then (λ vs. Unit {0}) LeavesSmall (gives_any _)
          (λ vs u. gives_then IsLimited LeavesSmall
          (gives_given IsLimited line _ (λ v e. reductions_are_limited which dim vs v j e))
          (λ v q. gives_pure LeavesSmall _ q))))
      sized_prepare ix (typed f (Rearranged which dim es)) g h = sized_map AllWhole LeavesSmall (sized_values ix es g h)
          (λ vs p. gives_then IsLimited LeavesSmall (gives_given IsLimited line _ (rearranged_small vs p which dim))
          (λ v q. gives_pure LeavesSmall _ q))
      sized_prepare ix (typed f (Called (call p es))) g h = sized_choose LeavesSmall
          ((procedure_at unit p).elemental && not (has_no_extents f.extents))
          (sized_map AllSmall LeavesSmall (sized_trees ix es g.1 h.1) (λ ts q. gives_pure LeavesSmall _ q))
          (sized_gives LeavesSmall (gives_then (λ vs. Unit {0}) LeavesSmall (gives_any _)
          (λ vs u. gives_then IsLimited LeavesSmall (record { gives = λ t v e. h.0 line vs t v e })
          (λ v q. gives_pure LeavesSmall _ q))))

      sized_trees : (ix : List ℤ) (es : Arguments) → RefersArguments Sees es → AllTakeLimited unit calls line s ix es
          → Sized s AllSmall (trees unit calls line ix es)
      sized_trees ix no_argument g h = sized_gives AllSmall (gives_pure AllSmall _ tt)
      sized_trees ix (argument place e es) g h = sized_then LeavesSmall AllSmall
          (keeps_prepare turns_alone Sees calls takes line unit ix e g.0).goes (sized_prepare ix e g.0 h.0)
          (λ t p. sized_map AllSmall AllSmall (sized_trees ix es g.1 h.1) (λ ts q. gives_pure AllSmall _ (p, q)))

      sized_values : (ix : List ℤ) (es : Arguments) → RefersArguments Sees es → AllTakeLimited unit calls line s ix es
          → Sized s AllWhole (values unit calls line ix es)
      sized_values ix no_argument g h = sized_gives AllWhole (gives_pure AllWhole _ tt)
      sized_values ix (argument place e es) g h = sized_then IsWhole AllWhole
          (keeps_evaluate turns_alone Sees calls takes line unit ix e g.0).goes
          (sized_map LeavesSmall IsWhole (sized_prepare ix e g.0 h.0) (λ t p. gives_whole calls line t p))
          (λ v p. sized_map AllWhole AllWhole (sized_values ix es g.1 h.1) (λ vs q. gives_pure AllWhole _ (p, q)))

pub values_are_limited : ValuesAreLimited
values_are_limited unit calls line s ix e g h v came =
    ((sized_map s LeavesSmall IsWhole (sized_prepare s unit calls line ix e g h) (λ t p. gives_whole calls line t p)).sized
    s.left (le_refl s.left) v came).0
