-- Laws of sums of atoms: their values and factors, sums that rise, and what a merge of two keeps.
use Rattle.std.proofs.Common.{◌≡◌, ◌≢◌, ℕ, ℤ, pos, zero, suc, ◌+◌, ◌<◌, ◌≤◌, ◌+ℤ◌, ◌-ℤ◌, ◌*ℤ◌, Bool, true, false, nat_eq, List, [], ◌∷◌, ◌++◌, length, get_or, take, drop, refl, sym, ap, ◌∙◌, subst, inl, inr, arith, FitsSigned, w32, of_z, to_z}
use Rattle.std.specs.Prelude.{if◌then◌else◌}
use Rattle.std.proofs.lemmas.Int.{ints, to_z-of_z}
use Rattle.std.proofs.lemmas.Bool.{cases_order, cases_eq, eq-eqb, ne_eqb}
use Rattle.std.proofs.lemmas.List.{take_more, drop_more, drop_all}
use lib.IntN.{one, zero-*ℤ, *ℤ_comm, *ℤ-one, *ℤ-zero}
use Rattle.a95_base.specs.Integer.{wrapped, difference_of}
use Rattle.a95_base.specs.IntegerLaws.{IsInteger}
use Rattle.a95_base.specs.Lists.{Every}
use Rattle.a95_base.proofs.Lists.{Every-append, Every-weaker, Pairwise-append, each_at}
use Rattle.a95_base.proofs.Integers.{mul_add, mul_sub, mul_assoc, fits_integer, integer_fits}
use Rattle.a95_base.proofs.Wrapping.{wrapped_fits, fits_wrapped, wrapped-wrapped, wrapped-add, wrapped-multiply}
use Rattle.section_algebra.specs.declared.atom.Atom.{Atom}
use Rattle.section_algebra.specs.Form.{Term, Form, factor_of, factor_in, sum_in, IsBelow, IsSum, IsForm}
use Rattle.section_algebra.specs.Merging.{Grows, IsLeast, Starts, IsLeastOf, Takes}

pub wrapped_integer : (z : ℤ) → IsInteger z → wrapped z ≡ z
wrapped_integer z h = wrapped_fits z (integer_fits z h)

pub wrapped_is_integer : (z : ℤ) → IsInteger (wrapped z)
wrapped_is_integer z = fits_integer (wrapped z) (fits_wrapped z)

-- ---- sums end to end

pub sum_in-append : (values : ℕ → ℤ) (xs ys : List Term) → sum_in values (xs ++ ys) ≡ sum_in values xs +ℤ sum_in values ys
sum_in-append values [] ys = omega (arith, ints)
sum_in-append values (x ∷ xs) ys = omega (arith, ints, sum_in-append values xs ys)

-- ---- the factor of an atom is the value of the sum where this atom is 1 and each other is 0

abbrev one_at : ℕ → ℕ → ℤ
one_at atom n = if nat_eq n atom then pos 1 else pos 0

by_one : (z : ℤ) (b : Bool) → z *ℤ (if b then pos 1 else pos 0) ≡ (if b then z else pos 0)
unfolding one
by_one z true = *ℤ-one z
by_one z false = *ℤ-zero z

factor_is_sum : (atom : ℕ) (terms : List Term) → sum_in (one_at atom) terms ≡ factor_in terms atom
factor_is_sum atom [] = refl
factor_is_sum atom (t ∷ terms) =
    ap (λ z. z +ℤ sum_in (one_at atom) terms) (by_one t.1 (nat_eq t.0.0 atom))
    ∙ ap (λ z. factor_of t atom +ℤ z) (factor_is_sum atom terms)

-- ---- sums that rise

factor_same : (t : Term) (atom : ℕ) → t.0.0 ≡ atom → factor_of t atom ≡ t.1
factor_same t atom e = ap (λ b. if b then t.1 else pos 0) (eq-eqb t.0.0 atom e)

factor_other : (t : Term) (atom : ℕ) → t.0.0 ≢ atom → factor_of t atom ≡ pos 0
factor_other t atom apart = ap (λ b. if b then t.1 else pos 0) (ne_eqb t.0.0 atom apart)

factor_none : (atom : ℕ) (terms : List Term) → IsBelow atom terms → factor_in terms atom ≡ pos 0
factor_none atom [] below = refl
factor_none atom (t ∷ terms) below =
    omega (arith, ints, factor_other t atom (λ e. absurd (omega (arith, e, below.0))), factor_none atom terms below.1)

IsBelow-weaker : (atom later : ℕ) (terms : List Term) → atom ≤ later → IsBelow later terms → IsBelow atom terms
IsBelow-weaker atom later terms h = Every-weaker (λ t. later < t.0.0) (λ t. atom < t.0.0) (λ t below. omega (arith, below)) terms

pub tail_of : (t : Term) (terms : List Term) → IsSum (t ∷ terms) → IsSum terms
tail_of t terms h = record { rises = h.rises.1; factors = h.factors.1 }

factor_fits : (atom : ℕ) (terms : List Term) → IsSum terms → IsInteger (factor_in terms atom)
factor_fits atom [] h = (omega (arith, ints), omega (arith, ints))
factor_fits atom (t ∷ terms) h =
    let P : ℤ → Type 0 = IsInteger in
    elim (cases_eq t.0.0 atom) [
      | inl same ↦
          let none : factor_in terms atom ≡ pos 0 =
          factor_none atom terms (IsBelow-weaker atom t.0.0 terms (omega (arith, same)) h.rises.0) in
          let is : t.1 ≡ factor_of t atom +ℤ factor_in terms atom = omega (arith, ints, factor_same t atom same, none) in
          subst P is h.factors.0.0
      | inr apart ↦
          let is : factor_in terms atom ≡ factor_of t atom +ℤ factor_in terms atom =
          omega (arith, ints, factor_other t atom apart) in
          subst P is (factor_fits atom terms (tail_of t terms h))
    ]

-- sums that rise are equal where their factors are
same_term : (s t : Term) → s.0.0 ≡ t.0.0 → s.1 ≡ t.1 → s ≡ t
same_term s t e f =
    let atom : ℕ → Atom = λ n. record { 0 = n } in
    let term : ℕ → ℤ → Term = λ n z. (atom n, z) in
    ap (λ n. term n s.1) e ∙ ap (λ z. term t.0.0 z) f

no_first : (t : Term) (ts us : List Term) → IsSum (t ∷ ts) → IsBelow t.0.0 us → factor_in (t ∷ ts) t.0.0 ≡ factor_in us t.0.0 → ⊥
no_first t ts us h below same =
    h.factors.0.1 (omega (arith, ints, same, factor_same t t.0.0 refl, factor_none t.0.0 ts h.rises.0, factor_none t.0.0 us below))

same_rest : (s t : Term) (ss ts : List Term) (atom : ℕ) → s ≡ t → factor_in (s ∷ ss) atom ≡ factor_in (t ∷ ts) atom
    → factor_in ss atom ≡ factor_in ts atom
same_rest s t ss ts atom e h = omega (arith, ints, h, ap (λ u. factor_of u atom) e)

pub same_sums : (ss ts : List Term) → IsSum ss → IsSum ts → ((atom : ℕ) → factor_in ss atom ≡ factor_in ts atom) → ss ≡ ts
same_sums [] [] f g same = refl
same_sums [] (t ∷ ts) f g same = absurd (no_first t ts [] g tt (sym (same t.0.0)))
same_sums (s ∷ ss) [] f g same = absurd (no_first s ss [] f tt (same s.0.0))
same_sums (s ∷ ss) (t ∷ ts) f g same =
    elim (cases_order s.0.0 t.0.0) [
      | inl here ↦
          let first : s.1 ≡ t.1 =
          omega (
            arith,
            ints,
            same s.0.0,
            factor_same s s.0.0 refl,
            factor_same t s.0.0 (sym here),
            factor_none s.0.0 ss
                f.rises.0,
            factor_none s.0.0 ts (IsBelow-weaker s.0.0 t.0.0 ts (omega (arith, here)) g.rises.0),
          ) in
          let both : s ≡ t = same_term s t here first in
          ap (λ u. u ∷ ss) both ∙ ap (λ us. t ∷ us)
          (same_sums ss ts (tail_of s ss f) (tail_of t ts g) (λ atom. same_rest s t ss ts atom both (same atom)))
      | inr apart ↦
          elim apart [
            | inl less ↦ absurd (no_first s ss (t ∷ ts) f (less, IsBelow-weaker s.0.0 t.0.0 ts (omega (arith, less)) g.rises.0)
                (same s.0.0))
            | inr more ↦ absurd (no_first t ts (s ∷ ss) g (more, IsBelow-weaker t.0.0 s.0.0 ss (omega (arith, more)) f.rises.0)
                (sym (same t.0.0)))
          ]
    ]

-- ---- what is known of values is known of factors

-- a factor of a sum that rises is what its value says modulo 2 ^ 32
pub factor_by_value : (terms : List Term) (atom : ℕ) (z : ℤ) → IsSum terms → wrapped (sum_in (one_at atom) terms) ≡ wrapped z
    → factor_in terms atom ≡ wrapped z
factor_by_value terms atom z h e =
    sym (wrapped_integer (factor_in terms atom) (factor_fits atom terms h)) ∙ ap wrapped (sym (factor_is_sum atom terms)) ∙ e

pub factors_apart : (terms ones others : List Term) (atom : ℕ) → IsSum terms
    → ((values : ℕ → ℤ) → wrapped (sum_in values terms) ≡ wrapped (sum_in values ones -ℤ sum_in values others))
    → factor_in terms atom ≡ difference_of (factor_in ones atom) (factor_in others atom)
factors_apart terms ones others atom h known =
    factor_by_value terms atom (factor_in ones atom -ℤ factor_in others atom) h
    (known (one_at atom) ∙ ap (λ z. wrapped (z -ℤ sum_in (one_at atom) others)) (factor_is_sum atom ones)
    ∙ ap (λ z. wrapped (factor_in ones atom -ℤ z)) (factor_is_sum atom others))

pub factors_scaled : (terms ones : List Term) (factor : ℤ) (atom : ℕ) → IsSum terms
    → ((values : ℕ → ℤ) → wrapped (sum_in values terms) ≡ wrapped (factor *ℤ sum_in values ones))
    → factor_in terms atom ≡ wrapped (factor *ℤ factor_in ones atom)
factors_scaled terms ones factor atom h known =
    factor_by_value terms atom (factor *ℤ factor_in ones atom) h
    (known (one_at atom) ∙ ap (λ z. wrapped (factor *ℤ z)) (factor_is_sum atom ones))

-- ---- one term more

pub grows : (old : List Term) (t : Term) → IsSum old → Every (λ u. u.0.0 < t.0.0) old → IsInteger t.1 → t.1 ≢ pos 0
    → Grows old t.0.0 t.1 (old ++ t ∷ [])
grows old t h lesser fits some = record {
  sum = record {
    rises = Pairwise-append (λ u v. u.0.0 < v.0.0) old (t ∷ []) h.rises (tt, tt)
        (Every-weaker (λ u. u.0.0 < t.0.0) (λ u. Every (λ v. u.0.0 < v.0.0) (t ∷ [])) (λ u less. (less, tt)) old lesser);
    factors = Every-append (λ u. IsInteger u.1 × (u.1 ≢ pos 0)) old (t ∷ []) h.factors ((fits, some), tt);
  };
  value = λ values. omega (arith, ints, sum_in-append values old (t ∷ []));
  below = λ rest before here. Every-append (λ u. IsBelow u.0.0 rest) old (t ∷ []) before (here, tt);
}

pub grows_not : (old : List Term) (atom : ℕ) (factor : ℤ) → IsSum old → factor ≡ pos 0 → Grows old atom factor old
grows_not old atom factor h none = record {
  sum = h;
  value = λ values. omega (arith, ints, ap (λ z. z *ℤ values atom) none ∙ zero-*ℤ (values atom));
  below = λ rest before here. before;
}

-- ---- a term is taken from what is left

rises_from : (terms : List Term) (k : ℕ) → IsSum terms → IsSum (drop k terms)
rises_from terms zero h = h
rises_from [] (suc k) h = h
rises_from (t ∷ terms) (suc k) h = rises_from terms k (tail_of t terms h)

pub takes_one : (terms : List Term) (from : ℕ) (d : Term) (atom : ℕ) → IsSum terms → from < length terms
    → (get_or terms from d).0.0 ≡ atom → Takes terms from atom (from + 1) (get_or terms from d).1
takes_one terms from d atom h below is =
    let t : Term = get_or terms from d in
    let split : drop from terms ≡ t ∷ drop (from + 1) terms = drop_more terms from d below in
    let P : List Term → Type 0 = IsSum in
    let whole : IsSum (t ∷ drop (from + 1) terms) = subst P split (rises_from terms from h) in
    record {
      within = omega arith;
      onward = omega arith;
      value = λ values. ap (sum_in values) (take_more terms from d below) ∙ sum_in-append values (take from terms) (t ∷ [])
          ∙ omega (arith, ints, ap (λ n. t.1 *ℤ values n) is);
      left = IsBelow-weaker atom t.0.0 (drop (from + 1) terms) (omega (arith, is)) whole.rises.0;
      falls = λ rest each. (let R : List Term → Type 0 = IsBelow rest in subst R split each).1;
      takes = λ starts. omega arith;
    }

pub takes_none : (terms : List Term) (from : ℕ) (d : Term) (atom : ℕ) → IsSum terms → from < length terms
    → atom ≤ (get_or terms from d).0.0 → (get_or terms from d).0.0 ≢ atom → Takes terms from atom from (pos 0)
takes_none terms from d atom h below least apart =
    let t : Term = get_or terms from d in
    let split : drop from terms ≡ t ∷ drop (from + 1) terms = drop_more terms from d below in
    let P : List Term → Type 0 = IsSum in
    let whole : IsSum (t ∷ drop (from + 1) terms) = subst P split (rises_from terms from h) in
    let less : atom < t.0.0 = omega (arith, least, apart) in
    let Q : List Term → Type 0 = IsBelow atom in
    record {
      within = omega arith;
      onward = omega arith;
      value = λ values. omega (arith, ints, zero-*ℤ (values atom));
      left = subst Q (sym split) (less, IsBelow-weaker atom t.0.0 (drop (from + 1) terms) (omega (arith, less)) whole.rises.0);
      falls = λ rest each. each;
      takes = λ starts. absurd (apart (let S : List Term → Type 0 = Starts atom in subst S split starts));
    }

abbrev pub no_term : Term
no_term = (record { 0 = 0 }, pos 0)

-- what is above all that is left is above the first of them
pub next_above : (terms : List Term) (from : ℕ) (d : Term) (atom : ℕ) → from < length terms → IsBelow atom (drop from terms)
    → atom < (get_or terms from d).0.0
next_above terms from d atom below less =
    (let Q : List Term → Type 0 = IsBelow atom in subst Q (drop_more terms from d below) less).0

pub factor_at : (terms : List Term) (k : ℕ) (d : Term) → IsSum terms → k < length terms → IsInteger (get_or terms k d).1
factor_at terms k d h below = (each_at (λ t. IsInteger t.1 × (t.1 ≢ pos 0)) terms k d h.factors below).0

-- the factor that stands there, as the code reads it
pub factor_read : (terms : List Term) (k : ℕ) (d : Term) → IsSum terms → k < length terms
    → to_z w32 (of_z w32 (get_or terms k d).1) ≡ (get_or terms k d).1
factor_read terms k d h below = to_z-of_z w32 (get_or terms k d).1 (integer_fits (get_or terms k d).1 (factor_at terms k d h below))

pub least_at : (terms : List Term) (from : ℕ) (d : Term) (atom : ℕ) → from < length terms → IsLeast atom (drop from terms)
    → atom ≤ (get_or terms from d).0.0
least_at terms from d atom below least =
    (let Q : List Term → Type 0 = IsLeast atom in subst Q (drop_more terms from d below) least).0

pub takes_end : (terms : List Term) (from atom : ℕ) → from ≡ length terms → Takes terms from atom from (pos 0)
takes_end terms from atom is = record {
  within = omega arith;
  onward = omega arith;
  value = λ values. omega (arith, ints, zero-*ℤ (values atom));
  left = (let Q : List Term → Type 0 = IsBelow atom in subst Q (sym (drop_all from terms (omega arith))) tt);
  falls = λ rest each. each;
  takes = λ starts. absurd (let S : List Term → Type 0 = Starts atom in subst S (drop_all from terms (omega arith)) starts);
}

-- what was made stays below what is left
pub still_below : (old new terms : List Term) (from next atom : ℕ) (factor part : ℤ) → Grows old atom factor new
    → Takes terms from atom next part → Every (λ t. IsBelow t.0.0 (drop from terms)) old
    → Every (λ t. IsBelow t.0.0 (drop next terms)) new
still_below old new terms from next atom factor part grown taken below =
    grown.below (drop next terms) (Every-weaker (λ t. IsBelow t.0.0 (drop from terms)) (λ t. IsBelow t.0.0 (drop next terms))
    (λ t h. taken.falls t.0.0 h) old below) taken.left

-- the first atom that is left is the least
first_is_least : (terms : List Term) (from : ℕ) (d : Term) (atom : ℕ) → IsSum terms → from < length terms
    → atom ≤ (get_or terms from d).0.0 → IsLeast atom (drop from terms)
first_is_least terms from d atom h below least =
    let t : Term = get_or terms from d in
    let split : drop from terms ≡ t ∷ drop (from + 1) terms = drop_more terms from d below in
    let P : List Term → Type 0 = IsSum in
    let whole : IsSum (t ∷ drop (from + 1) terms) = subst P split (rises_from terms from h) in
    let Q : List Term → Type 0 = IsLeast atom in
    subst Q (sym split) (
      least,
      Every-weaker (λ u. t.0.0 < u.0.0) (λ u. atom ≤ u.0.0) (λ u more. omega (arith, least, more))
          (drop (from + 1) terms) whole.rises.0,
    )

starts_with : (terms : List Term) (from : ℕ) (d : Term) (atom : ℕ) → from < length terms → (get_or terms from d).0.0 ≡ atom
    → Starts atom (drop from terms)
starts_with terms from d atom below is = let S : List Term → Type 0 = Starts atom in subst S (sym (drop_more terms from d below)) is

none_left : (terms : List Term) (from atom : ℕ) → length terms ≤ from → IsLeast atom (drop from terms)
none_left terms from atom done = let Q : List Term → Type 0 = IsLeast atom in subst Q (sym (drop_all from terms done)) tt

pub least_by_first : (ones others : List Term) (i j : ℕ) (d e : Term) → IsSum ones → IsSum others → i < length ones
    → j < length others → (get_or ones i d).0.0 ≤ (get_or others j e).0.0
    → IsLeastOf (drop i ones) (drop j others) (get_or ones i d).0.0
least_by_first ones others i j d e f g below other least = record {
  first = first_is_least ones i d (get_or ones i d).0.0 f below (omega arith);
  second = first_is_least others j e (get_or ones i d).0.0 g other least;
  stands = inl (starts_with ones i d (get_or ones i d).0.0 below refl);
}

pub least_by_second : (ones others : List Term) (i j : ℕ) (d e : Term) → IsSum ones → IsSum others → i < length ones
    → j < length others → (get_or others j e).0.0 ≤ (get_or ones i d).0.0
    → IsLeastOf (drop i ones) (drop j others) (get_or others j e).0.0
least_by_second ones others i j d e f g below other least = record {
  first = first_is_least ones i d (get_or others j e).0.0 f below least;
  second = first_is_least others j e (get_or others j e).0.0 g other (omega arith);
  stands = inr (starts_with others j e (get_or others j e).0.0 other refl);
}

pub least_of_first : (ones others : List Term) (i j : ℕ) (d : Term) → IsSum ones → i < length ones → length others ≤ j
    → IsLeastOf (drop i ones) (drop j others) (get_or ones i d).0.0
least_of_first ones others i j d f below done = record {
  first = first_is_least ones i d (get_or ones i d).0.0 f below (omega arith);
  second = none_left others j (get_or ones i d).0.0 done;
  stands = inl (starts_with ones i d (get_or ones i d).0.0 below refl);
}

pub least_of_second : (ones others : List Term) (i j : ℕ) (e : Term) → IsSum others → length ones ≤ i → j < length others
    → IsLeastOf (drop i ones) (drop j others) (get_or others j e).0.0
least_of_second ones others i j e g done other = record {
  first = none_left ones i (get_or others j e).0.0 done;
  second = first_is_least others j e (get_or others j e).0.0 g other (omega arith);
  stands = inr (starts_with others j e (get_or others j e).0.0 other refl);
}

-- ---- values modulo 2 ^ 32

regrouped : (a b p m x y z : ℤ) → x ≡ y -ℤ z → (a -ℤ b) +ℤ x ≡ (a +ℤ y) -ℤ (b +ℤ z)
regrouped a b p m x y z e = omega (arith, ints, e)

pub merge_value : (s a b plus minus factor v s' a' b' : ℤ) → wrapped s ≡ wrapped (a -ℤ b) → factor ≡ wrapped (plus -ℤ minus)
    → s' ≡ s +ℤ factor *ℤ v → a' ≡ a +ℤ plus *ℤ v → b' ≡ b +ℤ minus *ℤ v → wrapped s' ≡ wrapped (a' -ℤ b')
merge_value s a b plus minus factor v s' a' b' known is new left right =
    let cut : wrapped (factor *ℤ v) ≡ wrapped ((plus -ℤ minus) *ℤ v) =
    wrapped-multiply factor v (plus -ℤ minus) v (ap wrapped is ∙ wrapped-wrapped (plus -ℤ minus)) refl in
    let whole : (a -ℤ b) +ℤ (plus -ℤ minus) *ℤ v ≡ a' -ℤ b' =
    regrouped a b plus minus ((plus -ℤ minus) *ℤ v) (plus *ℤ v) (minus *ℤ v) (mul_sub plus minus v)
    ∙ ap (λ x. x -ℤ (b +ℤ minus *ℤ v)) (sym left) ∙ ap (λ x. a' -ℤ x) (sym right) in
    ap wrapped new ∙ wrapped-add s (factor *ℤ v) (a -ℤ b) ((plus -ℤ minus) *ℤ v) known cut ∙ ap wrapped whole

mul_add_left : (c a b : ℤ) → c *ℤ (a +ℤ b) ≡ c *ℤ a +ℤ c *ℤ b
mul_add_left c a b = *ℤ_comm c (a +ℤ b) ∙ mul_add a b c ∙ ap (λ x. x +ℤ b *ℤ c) (*ℤ_comm a c) ∙ ap (λ x. c *ℤ a +ℤ x) (*ℤ_comm b c)

pub scale_value : (s a z factor part v s' a' : ℤ) → wrapped s ≡ wrapped (factor *ℤ a) → z ≡ wrapped (factor *ℤ part)
    → s' ≡ s +ℤ z *ℤ v → a' ≡ a +ℤ part *ℤ v → wrapped s' ≡ wrapped (factor *ℤ a')
scale_value s a z factor part v s' a' known is new left =
    let cut : wrapped (z *ℤ v) ≡ wrapped ((factor *ℤ part) *ℤ v) =
    wrapped-multiply z v (factor *ℤ part) v (ap wrapped is ∙ wrapped-wrapped (factor *ℤ part)) refl in
    let whole : factor *ℤ a +ℤ (factor *ℤ part) *ℤ v ≡ factor *ℤ a' =
    ap (λ x. factor *ℤ a +ℤ x) (mul_assoc factor part v) ∙ sym (mul_add_left factor a (part *ℤ v))
    ∙ ap (λ x. factor *ℤ x) (sym left) in
    ap wrapped new ∙ wrapped-add s (z *ℤ v) (factor *ℤ a) ((factor *ℤ part) *ℤ v) known cut ∙ ap wrapped whole

-- ---- whole forms

pub value_apart : (c d x y sum c' : ℤ) → c' ≡ wrapped (c -ℤ d) → wrapped sum ≡ wrapped (x -ℤ y)
    → wrapped (c' +ℤ sum) ≡ wrapped ((c +ℤ x) -ℤ (d +ℤ y))
value_apart c d x y sum c' is known =
    wrapped-add c' sum (c -ℤ d) (x -ℤ y) (ap wrapped is ∙ wrapped-wrapped (c -ℤ d)) known
    ∙ ap wrapped (let e : (c -ℤ d) +ℤ (x -ℤ y) ≡ (c +ℤ x) -ℤ (d +ℤ y) = omega (arith, ints) in e)

pub value_scaled : (c x sum factor c' : ℤ) → c' ≡ wrapped (factor *ℤ c) → wrapped sum ≡ wrapped (factor *ℤ x)
    → wrapped (c' +ℤ sum) ≡ wrapped (factor *ℤ (c +ℤ x))
value_scaled c x sum factor c' is known =
    wrapped-add c' sum (factor *ℤ c) (factor *ℤ x) (ap wrapped is ∙ wrapped-wrapped (factor *ℤ c)) known
    ∙ ap wrapped (sym (mul_add_left factor c x))

pub constant_form : (z : ℤ) → FitsSigned w32 z → IsForm (record { constant = z; terms = [] })
constant_form z fits = record { constant = fits_integer z fits; sum = record { rises = tt; factors = tt } }

pub atom_form : (atom : Atom) → IsForm (record { constant = pos 0; terms = (atom, pos 1) ∷ [] })
atom_form atom = record {
  constant = (omega (arith, ints), omega (arith, ints));
  sum = record {
    rises = (tt, tt);
    factors =
        (((omega (arith, ints), omega (arith, ints)), (λ e. absurd (omega (arith, ints, e)))), tt);
  };
}

pub same_form : (f g : Form) → IsForm f → IsForm g → f.constant ≡ g.constant
    → ((atom : ℕ) → factor_in f.terms atom ≡ factor_in g.terms atom) → f ≡ g
same_form f g is_f is_g constants factors =
    let form : ℤ → List Term → Form = λ k terms. record { constant = k; terms = terms } in
    ap (λ k. form k f.terms) constants ∙ ap (λ terms. form g.constant terms) (same_sums f.terms g.terms is_f.sum is_g.sum factors)
