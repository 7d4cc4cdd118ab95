-- The keywords of an intrinsic differ, and what stands where.
use Rattle.std.proofs.Common.{◌≡◌, ◌≢◌, ◌↔◌, ℕ, zero, suc, ◌+◌, ◌<◌, Bool, true, false, not, ◌&&◌, cond, List, [], ◌∷◌, ◌++◌}
use Rattle.std.proofs.Common.{length, Option, Some, None, refl, sym, ap, ◌∙◌, arith, length-append}
use Rattle.std.specs.Prelude.{slice_get, nat_lt, decimal, IsTrue, IsSome, IfSome, IfNone}
use Rattle.std.proofs.lemmas.Slice.Eq.{bytes_eq-Decides}
use Rattle.std.proofs.lemmas.Bool.Decides.{Decides-ltb}
use Rattle.std.proofs.lemmas.Fmt.{decimal_injective}
use Rattle.a95_base.specs.Lists.{Every}
use Rattle.std.proofs.lemmas.Bool.{and_parts}
use Rattle.intrinsic_table.specs.declared.intrinsic.Intrinsic.{Intrinsic}
use Rattle.intrinsic_table.specs.declared.intrinsic.Intrinsic.TheVariants as intrinsic
use Rattle.intrinsic_table.specs.Table.{Word, Arguments, Takes, Numbered, row_of}
use Rattle.intrinsic_table.specs.Interface.{keyword_in, needed_in, most_numbered}
use Rattle.intrinsic_table.specs.Finding.{is_word}
use Rattle.intrinsic_table.specs.Standing.{StandsIn}
use Rattle.intrinsic_table.specs.TableLaws.{count_in, KeywordsDiffer, PlacesAreCounted, NeededStandFirst}

-- ---- words that differ

some_same : (w k : Word) → Some w ≡ Some k → w ≡ k
some_same w k e = cc

none_some : (k : Word) (o : Option Word) → o ≡ None → o ≡ Some k → ⊥
none_some k o e f = cc

-- where no word is the keyword, it stands nowhere
pub nowhere : (words : List Word) (keyword : Word) → Every (λ w. w ≢ keyword) words → (p : ℕ) → slice_get words p ≢ Some keyword
nowhere [] k none p e = none_some k None refl e
nowhere (w ∷ ws) k none zero e = none.0 (some_same w k e)
nowhere (w ∷ ws) k none (suc p) e = nowhere ws k none.1 p e

abbrev is_new : Word → List Word → Bool
is_new k [] = true
is_new k (w ∷ ws) = not (is_word k w) && is_new k ws

abbrev differ : List Word → Bool
differ [] = true
differ (w ∷ ws) = is_new w ws && differ ws

false_true : false ≡ true → ⊥
false_true e = cc

not_both : (b : Bool) → b ≡ true → not b ≡ true → ⊥
not_both true e f = false_true f
not_both false e f = false_true e

new_stands_nowhere : (k : Word) (ws : List Word) → is_new k ws ≡ true → (p : ℕ) → slice_get ws p ≢ Some k
new_stands_nowhere k [] h p e = none_some k None refl e
new_stands_nowhere k (w ∷ ws) h zero e =
    not_both (is_word k w) ((bytes_eq-Decides k w).1 (sym (some_same w k e))) (and_parts (not (is_word k w)) (is_new k ws) h).0
new_stands_nowhere k (w ∷ ws) h (suc p) e = new_stands_nowhere k ws (and_parts (not (is_word k w)) (is_new k ws) h).1 p e

one_place : (ws : List Word) → differ ws ≡ true → (p q : ℕ) (k : Word) → slice_get ws p ≡ Some k → slice_get ws q ≡ Some k → p ≡ q
one_place [] h p q k e f = absurd (none_some k None refl e)
one_place (w ∷ ws) h zero zero k e f = refl
one_place (w ∷ ws) h zero (suc q) k e f = absurd (new_stands_nowhere w ws (and_parts (is_new w ws) (differ ws) h).0 q (f ∙ sym e))
one_place (w ∷ ws) h (suc p) zero k e f = absurd (new_stands_nowhere w ws (and_parts (is_new w ws) (differ ws) h).0 p (e ∙ sym f))
one_place (w ∷ ws) h (suc p) (suc q) k e f = ap (λ n. suc n) (one_place ws (and_parts (is_new w ws) (differ ws) h).1 p q k e f)

abbrev differ_in : Arguments → Bool
differ_in (Takes needed optional) = differ (needed ++ optional)
differ_in Numbered = true

rows_differ : (w : Intrinsic) → differ_in (row_of w).arguments ≡ true
rows_differ intrinsic.Abs = refl
rows_differ intrinsic.Mod = refl
rows_differ intrinsic.Modulo = refl
rows_differ intrinsic.Sign = refl
rows_differ intrinsic.Max = refl
rows_differ intrinsic.Min = refl
rows_differ intrinsic.Iand = refl
rows_differ intrinsic.Ior = refl
rows_differ intrinsic.Ieor = refl
rows_differ intrinsic.Merge = refl
rows_differ intrinsic.Ichar = refl
rows_differ intrinsic.Char = refl
rows_differ intrinsic.LenTrim = refl
rows_differ intrinsic.Index = refl
rows_differ intrinsic.Adjustl = refl
rows_differ intrinsic.Adjustr = refl
rows_differ intrinsic.Trim = refl
rows_differ intrinsic.Size = refl
rows_differ intrinsic.Shape = refl
rows_differ intrinsic.Lbound = refl
rows_differ intrinsic.Ubound = refl
rows_differ intrinsic.Allocated = refl
rows_differ intrinsic.Len = refl
rows_differ intrinsic.Sum = refl
rows_differ intrinsic.Product = refl
rows_differ intrinsic.Maxval = refl
rows_differ intrinsic.Minval = refl
rows_differ intrinsic.All = refl
rows_differ intrinsic.Any = refl
rows_differ intrinsic.Count = refl
rows_differ intrinsic.Maxloc = refl
rows_differ intrinsic.Minloc = refl
rows_differ intrinsic.DotProduct = refl
rows_differ intrinsic.Matmul = refl
rows_differ intrinsic.Transpose = refl
rows_differ intrinsic.Cshift = refl
rows_differ intrinsic.Eoshift = refl
rows_differ intrinsic.Spread = refl
rows_differ intrinsic.Pack = refl
rows_differ intrinsic.Unpack = refl
rows_differ intrinsic.Reshape = refl

-- ---- `a1`, `a2` and so on

pub record IsNumbered (p : ℕ) (k : Word) : Type 0 where
  pub below : p < most_numbered
  pub spelled : k ≡ 97 ∷ decimal (p + 1)

numbered_by : (b : Bool) (p : ℕ) (k : Word) → nat_lt p most_numbered ≡ b
    → cond b (Some (97 ∷ decimal (p + 1))) None ≡ Some k → IsNumbered p k
numbered_by true p k h e =
    record { below = (Decides-ltb p most_numbered).0 h; spelled = sym (some_same (97 ∷ decimal (p + 1)) k e) }
numbered_by false p k h e = absurd (none_some k None refl e)

pub numbered_is : (p : ℕ) (k : Word) → keyword_in Numbered p ≡ Some k → IsNumbered p k
numbered_is p k e = numbered_by (nat_lt p most_numbered) p k refl e

-- and the way back
numbered_from : (b : Bool) (p : ℕ) (ds : List ℕ) → b ≡ true → cond b (Some (97 ∷ ds)) None ≡ Some (97 ∷ ds)
numbered_from true p ds h = refl
numbered_from false p ds h = absurd (false_true h)

pub is_numbered : (p : ℕ) → p < most_numbered → keyword_in Numbered p ≡ Some (97 ∷ decimal (p + 1))
is_numbered p h = numbered_from (nat_lt p most_numbered) p (decimal (p + 1)) ((Decides-ltb p most_numbered).1 h)

same_tail : (c : ℕ) (xs ys : List ℕ) → c ∷ xs ≡ c ∷ ys → xs ≡ ys
same_tail c xs ys e = cc

one_number : (p q : ℕ) (k : Word) → keyword_in Numbered p ≡ Some k → keyword_in Numbered q ≡ Some k → p ≡ q
one_number p q k e f =
    let a = numbered_is p k e in
    let b = numbered_is q k f in
    let same : p + 1 ≡ q + 1 = decimal_injective (p + 1) (q + 1) (omega (arith, a.below)) (omega (arith, b.below))
    (same_tail 97 (decimal (p + 1)) (decimal (q + 1)) (sym a.spelled ∙ b.spelled)) in
    omega arith

one_place_in : (a : Arguments) → differ_in a ≡ true → (p q : ℕ) (k : Word)
    → keyword_in a p ≡ Some k → keyword_in a q ≡ Some k → p ≡ q
one_place_in (Takes needed optional) h p q k e f = one_place (needed ++ optional) h p q k e f
one_place_in Numbered h p q k e f = one_number p q k e f

pub keywords_differ : KeywordsDiffer
keywords_differ w p q k e f = one_place_in (row_of w).arguments (rows_differ w) p q k e f

-- ---- places

some_within : (ws : List Word) (p : ℕ) → IsSome (slice_get ws p) → p < length ws
some_within [] p h = absurd (false_true h)
some_within (w ∷ ws) zero h = omega arith
some_within (w ∷ ws) (suc p) h = let i : p < length ws = some_within ws p h in omega arith

within_some : (ws : List Word) (p : ℕ) → p < length ws → IsSome (slice_get ws p)
within_some [] p h = absurd (omega arith)
within_some (w ∷ ws) zero h = refl
within_some (w ∷ ws) (suc p) h = within_some ws p (omega arith)

some_by : (b : Bool) (k : Word) → IsSome (cond b (Some k) None) → b ≡ true
some_by true k h = refl
some_by false k h = h

by_some : (b : Bool) (k : Word) → b ≡ true → IsSome (cond b (Some k) None)
by_some true k h = refl
by_some false k h = h

counted : (a : Arguments) (p : ℕ) → IsSome (keyword_in a p) ↔ (p < count_in a)
counted (Takes needed optional) p = (some_within (needed ++ optional) p, within_some (needed ++ optional) p)
counted Numbered p = (
  λ h. (Decides-ltb p most_numbered).0 (some_by (nat_lt p most_numbered) (97 ∷ decimal (p + 1)) h),
  λ h. by_some (nat_lt p most_numbered) (97 ∷ decimal (p + 1)) ((Decides-ltb p most_numbered).1 h),
)

pub places_are_counted : PlacesAreCounted
places_are_counted w p = counted (row_of w).arguments p

needed_within : (a : Arguments) (p : ℕ) → p < needed_in a → p < count_in a
needed_within (Takes needed optional) p h = let e = length-append needed optional in omega arith
needed_within Numbered p h = omega arith

needed_first : (a : Arguments) (p : ℕ) → IsTrue (nat_lt p (needed_in a))
    → IsSome (keyword_in a p) × ((q : ℕ) → q < p → IsTrue (nat_lt q (needed_in a)))
needed_first a p h =
    let below : p < needed_in a = (Decides-ltb p (needed_in a)).0 h in
    ((counted a p).1 (needed_within a p below), λ q less. (Decides-ltb q (needed_in a)).1 (omega arith))

pub needed_stand_first : NeededStandFirst
needed_stand_first w p h = needed_first (row_of w).arguments p h

-- ---- what the look-up of a place says

pub stands_some : (a : Arguments) (k : Word) (r : Option ℕ) → StandsIn a k r → IfSome r (λ p. keyword_in a p ≡ Some k)
stands_some (Takes needed optional) k (Some p) h = h
stands_some (Takes needed optional) k None h = tt
stands_some Numbered k (Some p) h = h
stands_some Numbered k None h = tt

pub stands_none : (a : Arguments) (k : Word) (r : Option ℕ) → StandsIn a k r → IfNone r ((p : ℕ) → keyword_in a p ≢ Some k)
stands_none (Takes needed optional) k (Some p) h = tt
stands_none (Takes needed optional) k None h = h
stands_none Numbered k (Some p) h = tt
stands_none Numbered k None h = h
