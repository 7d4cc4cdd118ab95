-- The elements of a right side's whole value are its elements at each place.
use Rattle.std.proofs.Common.{◌≡◌, ℕ, zero, suc, ◌<◌, Bool, true, false, List, [], ◌∷◌, refl, ap, ◌∙◌, sym, subst, arith, ℤ, pos}
use Rattle.std.proofs.Common.{length, le_of_suc-le-suc, not-suc-le-zero}
use Rattle.std.specs.Prelude.{replicate, map, fold, if◌then◌else◌}
use Rattle.std.specs.List.{zip}
use Rattle.std.proofs.Math.ListN.{get_or-replicate, length-replicate}
use Rattle.std.proofs.lemmas.List.{get_or-map, length-map}
use Rattle.std.specs.Prelude.{◌+ℤ◌, ◌-ℤ◌, ◌*ℤ◌}
use Rattle.a95_base.specs.Integer.{wrapped, product_of}
use Rattle.std.specs.Int.{int_wrap, w64}
use Rattle.a95_base.proofs.Wrapping.{wrapped-wrapped, wrapped-int_wrap, wrapped_small, wrapped-add, wrapped-subtract}
use Rattle.a95_base.proofs.Wrapping.{wrapped-multiply}
use Rattle.a95_base.specs.Lists.{Every}
use Rattle.rank_one.specs.declared.unit.Sum.{Sum}
use Rattle.rank_one.specs.declared.unit.Addend.{Addend}
use Rattle.rank_one.specs.declared.unit.Term.{Term}
use Rattle.rank_one.specs.declared.unit.Factor.{Factor}
use Rattle.rank_one.specs.declared.unit.Factor.TheVariants as factor
use Rattle.rank_one.specs.Meaning.{Value, Number, Whole, combined, array_at, factor_value, term_value, sum_value, added, elements}
use Rattle.loop_tree.specs.Values.{number_at}
use Rattle.f95a_core.specs.Lowered.{none_follow}
use Rattle.f95a_core.proofs.Sums.{factor_at, term_from, term_at, sum_from, sum_at, wide_term_from, wide_term_at, either_way}
use Rattle.f95a_core.proofs.Sums.{wide_sum_from, stored_at, FactorHas, TermHas, SumHas}

-- a value of n elements, the one at i being f i
pub record Shows (n : ℕ) (value : Value) (f : ℕ → ℤ) : Type 0 where
  pub size : length (elements n value) ≡ n
  pub each : (i : ℕ) → i < n → number_at (elements n value) i ≡ f i

number_of_each : (n i : ℕ) (x y : ℤ) → i < n → number_at (replicate n x) i ≡ y → x ≡ y
number_of_each n i x y h e = sym (get_or-replicate n i x (pos 0) h) ∙ e

size_of_zip : (op : ℤ → ℤ → ℤ) (xs ys : List ℤ) → length xs ≡ length ys → length (map (λ (p : ℤ × ℤ). op p.0 p.1) (zip xs ys))
    ≡ length xs
size_of_zip op [] ys h = refl
size_of_zip op (x ∷ xs) [] h = absurd (omega arith)
size_of_zip op (x ∷ xs) (y ∷ ys) h = let same : length xs ≡ length ys = omega arith in ap suc (size_of_zip op xs ys same)

zip_at : (op : ℤ → ℤ → ℤ) (xs ys : List ℤ) (i : ℕ) → i < length xs → i < length ys →
    number_at (map (λ (p : ℤ × ℤ). op p.0 p.1) (zip xs ys)) i ≡ op (number_at xs i) (number_at ys i)
zip_at op [] ys i h k = absurd (not-suc-le-zero h)
zip_at op (x ∷ xs) [] i h k = absurd (not-suc-le-zero k)
zip_at op (x ∷ xs) (y ∷ ys) zero h k = refl
zip_at op (x ∷ xs) (y ∷ ys) (suc i) h k = zip_at op xs ys i (le_of_suc-le-suc h) (le_of_suc-le-suc k)

combined_shows : (op : ℤ → ℤ → ℤ) (n : ℕ) (v w : Value) (f g : ℕ → ℤ) → Shows n v f → Shows n w g →
    Shows n (combined op v w) (λ i. op (f i) (g i))
combined_shows op n (Number x) (Number y) f g s t = record {
  size = length-replicate n (op x y);
  each = λ i h. get_or-replicate n i (op x y) (pos 0) h ∙ ap (λ a. op a y) (number_of_each n i x (f i) h (s.each i h))
      ∙ ap (op (f i)) (number_of_each n i y (g i) h (t.each i h));
}
combined_shows op n (Number x) (Whole ys) f g s t = record {
  size = length-map ys (λ y. op x y) ∙ t.size;
  each = λ i h. get_or-map (λ y. op x y) ys i (pos 0) (pos 0) (subst (λ m. i < m) (sym t.size) h)
      ∙ ap (λ a. op a (number_at ys i)) (number_of_each n i x (f i) h (s.each i h)) ∙ ap (op (f i)) (t.each i h);
}
combined_shows op n (Whole xs) (Number y) f g s t = record {
  size = length-map xs (λ x. op x y) ∙ s.size;
  each = λ i h. get_or-map (λ x. op x y) xs i (pos 0) (pos 0) (subst (λ m. i < m) (sym s.size) h) ∙ ap (λ a. op a y) (s.each i h)
      ∙ ap (op (f i)) (number_of_each n i y (g i) h (t.each i h));
}
combined_shows op n (Whole xs) (Whole ys) f g s t = record {
  size = size_of_zip op xs ys (s.size ∙ sym t.size) ∙ s.size;
  each = λ i h. zip_at op xs ys i (subst (λ m. i < m) (sym s.size) h) (subst (λ m. i < m) (sym t.size) h)
      ∙ ap (λ a. op a (number_at ys i)) (s.each i h) ∙ ap (op (f i)) (t.each i h);
}

-- every number is an INTEGER, and every array that is named is there and has n elements
abbrev pub FactorFits : List (List ℤ) → ℕ → Factor → Type 0
FactorFits arrays n (factor.Number k) = k < 2147483648
FactorFits arrays n (factor.Array p) = (p < length arrays) × (length (array_at arrays p) ≡ n)

pub record TermFits (arrays : List (List ℤ)) (n : ℕ) (term : Term) : Type 0 where
  pub first : FactorFits arrays n term.first
  pub rest : Every (FactorFits arrays n) term.rest

pub record SumFits (arrays : List (List ℤ)) (n : ℕ) (sum : Sum) : Type 0 where
  pub first : TermFits arrays n sum.first
  pub rest : Every (λ (a : Addend). TermFits arrays n a.term) sum.rest

module _ (arrays : List (List ℤ)) (n : ℕ) where
  factor_shows : (f : Factor) → FactorFits arrays n f → Shows n (factor_value arrays f) (λ i. factor_at arrays i f)
  factor_shows (factor.Number k) fits =
      record { size = length-replicate n (pos k); each = λ i h. get_or-replicate n i (pos k) (pos 0) h }
  factor_shows (factor.Array p) fits = record { size = fits.1; each = λ i h. refl }

  factors_show : (fs : List Factor) → Every (FactorFits arrays n) fs → (v : Value) (f : ℕ → ℤ) → Shows n v f
      → Shows n (fold (λ value more. combined product_of value (factor_value arrays more)) v fs) (λ i. term_from arrays i (f i) fs)
  factors_show [] fits v f s = s
  factors_show (g ∷ fs) fits v f s =
      factors_show fs fits.1 (combined product_of v (factor_value arrays g)) (λ i. product_of (f i) (factor_at arrays i g))
      (combined_shows product_of n v (factor_value arrays g) f (λ i. factor_at arrays i g) s (factor_shows g fits.0))

  term_shows : (t : Term) → TermFits arrays n t → Shows n (term_value arrays t) (λ i. term_at arrays i t)
  term_shows t fits = factors_show t.rest fits.rest (factor_value arrays t.first) (λ i. factor_at arrays i t.first)
      (factor_shows t.first fits.first)

  addends_show : (more : List Addend) → Every (λ (a : Addend). TermFits arrays n a.term) more → (v : Value) (f : ℕ → ℤ) →
      Shows n v f
      → Shows n (fold (λ value a. combined (added a.minus) value (term_value arrays a.term)) v more)
      (λ i. sum_from arrays i (f i) more)
  addends_show [] fits v f s = s
  addends_show (a ∷ more) fits v f s =
      addends_show more fits.1 (combined (added a.minus) v (term_value arrays a.term))
      (λ i. added a.minus (f i) (term_at arrays i a.term))
      (combined_shows (added a.minus) n v (term_value arrays a.term) f (λ i. term_at arrays i a.term) s (term_shows a.term fits.0))

  pub sum_shows : (s : Sum) → SumFits arrays n s → Shows n (sum_value arrays s) (λ i. sum_at arrays i s)
  sum_shows s fits = addends_show s.rest fits.rest (term_value arrays s.first) (λ i. term_at arrays i s.first)
      (term_shows s.first fits.first)

  module _ (i : ℕ) (within : i < n) where
    factor_has : (f : Factor) → FactorFits arrays n f → FactorHas arrays i f
    factor_has (factor.Number k) fits = tt
    factor_has (factor.Array p) fits = (fits.0, subst (λ m. i < m) (sym fits.1) within)

    factors_have : (fs : List Factor) → Every (FactorFits arrays n) fs → Every (FactorHas arrays i) fs
    factors_have [] fits = tt
    factors_have (f ∷ fs) fits = (factor_has f fits.0, factors_have fs fits.1)

    term_has : (t : Term) → TermFits arrays n t → TermHas arrays i t
    term_has t fits = record { first = factor_has t.first fits.first; rest = factors_have t.rest fits.rest }

    addends_have : (more : List Addend) → Every (λ (a : Addend). TermFits arrays n a.term) more →
        Every (λ (a : Addend). TermHas arrays i a.term) more
    addends_have [] fits = tt
    addends_have (a ∷ more) fits = (term_has a.term fits.0, addends_have more fits.1)

    pub sum_has : (s : Sum) → SumFits arrays n s → SumHas arrays i s
    sum_has s fits = record { first = term_has s.first fits.first; rest = addends_have s.rest fits.rest }

-- ---- what an element is

-- a number that wrapping leaves as it is
pub record IsInt (z : ℤ) : Type 0 where
  pub kept : wrapped z ≡ z

pub int_wrapped : (z : ℤ) → IsInt (wrapped z)
int_wrapped z = record { kept = wrapped-wrapped z }

added_int : (minus : Bool) (x y : ℤ) → IsInt (added minus x y)
added_int true x y = int_wrapped (x -ℤ y)
added_int false x y = int_wrapped (x +ℤ y)

module _ (arrays : List (List ℤ)) (i : ℕ) where
  term_int : (x : ℤ) → IsInt x → (fs : List Factor) → IsInt (term_from arrays i x fs)
  term_int x h [] = h
  term_int x h (f ∷ fs) = term_int (product_of x (factor_at arrays i f)) (int_wrapped (x *ℤ factor_at arrays i f)) fs

  addends_int : (x : ℤ) → IsInt x → (more : List Addend) → IsInt (sum_from arrays i x more)
  addends_int x h [] = h
  addends_int x h (a ∷ more) = addends_int (added a.minus x (term_at arrays i a.term))
      (added_int a.minus x (term_at arrays i a.term)) more

  -- ---- operations that wrap at 64 bits leave the same in 32 bits

  term_alike : (x y : ℤ) → wrapped x ≡ wrapped y → (fs : List Factor) → wrapped (wide_term_from arrays i x fs)
      ≡ wrapped (term_from arrays i y fs)
  term_alike x y e [] = e
  term_alike x y e (f ∷ fs) =
      let z = factor_at arrays i f in
      term_alike (int_wrap w64 (x *ℤ z)) (product_of y z)
      (wrapped-int_wrap (x *ℤ z) ∙ wrapped-multiply x z y z e refl ∙ sym (wrapped-wrapped (y *ℤ z))) fs

  added_alike : (minus : Bool) (a b x y : ℤ) → wrapped a ≡ wrapped x → wrapped b ≡ wrapped y →
      wrapped (int_wrap w64 (either_way minus a b)) ≡ wrapped (added minus x y)
  added_alike true a b x y e f = wrapped-int_wrap (a -ℤ b) ∙ wrapped-subtract a b x y e f ∙ sym (wrapped-wrapped (x -ℤ y))
  added_alike false a b x y e f = wrapped-int_wrap (a +ℤ b) ∙ wrapped-add a b x y e f ∙ sym (wrapped-wrapped (x +ℤ y))

  addends_alike : (x y : ℤ) → wrapped x ≡ wrapped y → (more : List Addend) → wrapped (wide_sum_from arrays i x more)
      ≡ wrapped (sum_from arrays i y more)
  addends_alike x y e [] = e
  addends_alike x y e (a ∷ more) =
      let u = wide_term_at arrays i a.term in
      let v = term_at arrays i a.term in
      addends_alike (int_wrap w64 (either_way a.minus x u)) (added a.minus y v)
      (added_alike a.minus x u y v e
      (term_alike (factor_at arrays i a.term.first) (factor_at arrays i a.term.first) refl a.term.rest)) more

  -- what is stored is the element
  pub stored_is : (s : Sum) → stored_at arrays i s ≡ sum_at arrays i s
  stored_is s = by s.first.first s.first.rest s.rest
    where
      added_up : (f : Factor) (fs : List Factor) (a : Addend) (more : List Addend)
          → wrapped (wide_sum_from arrays i (wide_term_from arrays i (factor_at arrays i f) fs) (a ∷ more))
          ≡ sum_from arrays i (term_from arrays i (factor_at arrays i f) fs) (a ∷ more)
      added_up f fs a more =
          let x = term_from arrays i (factor_at arrays i f) fs in
          addends_alike (wide_term_from arrays i (factor_at arrays i f) fs) x
          (term_alike (factor_at arrays i f) (factor_at arrays i f) refl fs) (a ∷ more)
          ∙ (addends_int (added a.minus x (term_at arrays i a.term)) (added_int a.minus x (term_at arrays i a.term)) more).kept

      by : (f : Factor) (fs : List Factor) (more : List Addend)
          → (if none_follow fs more then wide_sum_from arrays i (wide_term_from arrays i (factor_at arrays i f) fs) more else
          wrapped (wide_sum_from arrays i (wide_term_from arrays i (factor_at arrays i f) fs) more))
          ≡ sum_from arrays i (term_from arrays i (factor_at arrays i f) fs) more
      by f [] [] = refl
      by f (g ∷ fs) [] =
          let x = factor_at arrays i f in
          let z = factor_at arrays i g in
          term_alike x x refl (g ∷ fs) ∙ (term_int (product_of x z) (int_wrapped (x *ℤ z)) fs).kept
      by f [] (a ∷ more) = added_up f [] a more
      by f (g ∷ fs) (a ∷ more) = added_up f (g ∷ fs) a more

module _ (arrays : List (List ℤ)) (n i : ℕ) (each : (p : ℕ) → IsInt (number_at (array_at arrays p) i)) where
  factor_int : (f : Factor) → FactorFits arrays n f → IsInt (factor_at arrays i f)
  factor_int (factor.Number k) fits = record { kept = wrapped_small k fits }
  factor_int (factor.Array p) fits = each p

  pub sum_int : (s : Sum) → SumFits arrays n s → IsInt (sum_at arrays i s)
  sum_int s fits = addends_int arrays i (term_at arrays i s.first)
      (term_int arrays i (factor_at arrays i s.first.first) (factor_int s.first.first fits.first.first) s.first.rest) s.rest
