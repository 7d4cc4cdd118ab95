-- What the private fields of a section keep, and that the value which contracts see gives them back.
use Rattle.std.specs.Prelude.{◌≡◌, ℕ, ℤ, pos, List, [], ◌∷◌, length, map, refl}
use Rattle.std.proofs.Common.{zero, suc, ap, ◌∙◌, arith}
use Rattle.rank_shape.specs.Shape.{AreNatural, naturals}
use Rattle.rank_shape.specs.Fields.{natural_is}
use Rattle.section_algebra.specs.Section.{Progression, IsSection}

abbrev pub progressions : List ℤ → List ℤ → List ℕ → List Progression
progressions (z ∷ start) (d ∷ stride) (n ∷ count) = record { start = z; stride = d; count = n } ∷ progressions start stride count
progressions start stride count = []

pub record SectionFields (rank : ℕ) (start stride count : List ℤ) : Type 0 where
  pub section : IsSection rank (progressions start stride (naturals count))
  pub natural : AreNatural count
  pub start_long : length start ≡ rank
  pub stride_long : length stride ≡ rank
  pub count_long : length count ≡ rank

abbrev pub starts_of : List Progression → List ℤ
starts_of = map (λ p. p.start)

abbrev pub strides_of : List Progression → List ℤ
strides_of = map (λ p. p.stride)

abbrev pub whole_counts_of : List Progression → List ℤ
whole_counts_of = map (λ p. pos p.count)

pub starts_back : (rank : ℕ) (start stride count : List ℤ) → length start ≡ rank → length stride ≡ rank → length count ≡ rank
    → starts_of (progressions start stride (naturals count)) ≡ start
starts_back rank [] stride count e f g = refl
starts_back rank (z ∷ start) [] count e f g = absurd (omega (arith, e, f))
starts_back rank (z ∷ start) (d ∷ stride) [] e f g = absurd (omega (arith, e, g))
starts_back zero (z ∷ start) (d ∷ stride) (n ∷ count) e f g = absurd (omega (arith, e))
starts_back (suc rank) (z ∷ start) (d ∷ stride) (n ∷ count) e f g =
    ap (λ zs. z ∷ zs) (starts_back rank start stride count (omega (arith, e)) (omega (arith, f)) (omega (arith, g)))

pub strides_back : (rank : ℕ) (start stride count : List ℤ) → length start ≡ rank → length stride ≡ rank → length count ≡ rank
    → strides_of (progressions start stride (naturals count)) ≡ stride
strides_back rank [] [] count e f g = refl
strides_back rank [] (d ∷ stride) count e f g = absurd (omega (arith, e, f))
strides_back rank (z ∷ start) [] count e f g = absurd (omega (arith, e, f))
strides_back rank (z ∷ start) (d ∷ stride) [] e f g = absurd (omega (arith, e, g))
strides_back zero (z ∷ start) (d ∷ stride) (n ∷ count) e f g = absurd (omega (arith, e))
strides_back (suc rank) (z ∷ start) (d ∷ stride) (n ∷ count) e f g =
    ap (λ zs. d ∷ zs) (strides_back rank start stride count (omega (arith, e)) (omega (arith, f)) (omega (arith, g)))

pub counts_back : (rank : ℕ) (start stride count : List ℤ) → AreNatural count → length start ≡ rank → length stride ≡ rank
    → length count ≡ rank → whole_counts_of (progressions start stride (naturals count)) ≡ count
counts_back rank [] [] [] h e f g = refl
counts_back rank [] [] (n ∷ count) h e f g = absurd (omega (arith, e, g))
counts_back rank [] (d ∷ stride) count h e f g = absurd (omega (arith, e, f))
counts_back rank (z ∷ start) [] count h e f g = absurd (omega (arith, e, f))
counts_back rank (z ∷ start) (d ∷ stride) [] h e f g = absurd (omega (arith, e, g))
counts_back zero (z ∷ start) (d ∷ stride) (n ∷ count) h e f g = absurd (omega (arith, e))
counts_back (suc rank) (z ∷ start) (d ∷ stride) (n ∷ count) h e f g =
    ap (λ c. c ∷ whole_counts_of (progressions start stride (naturals count))) (natural_is n h.0)
    ∙ ap (λ cs. n ∷ cs) (counts_back rank start stride count h.1 (omega (arith, e)) (omega (arith, f)) (omega (arith, g)))
