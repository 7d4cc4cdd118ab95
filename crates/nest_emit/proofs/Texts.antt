-- Parts of texts that are read and replaced, and texts of a length.
use Rattle.std.proofs.Common.{◌≡◌, ℕ, suc, ◌+◌, ◌-◌, ◌≤◌, min, Bool, true, false, ◌&&◌, ◌||◌, nat_le, List, [], ◌∷◌, ◌++◌, Some, refl, sym, ap, ◌∙◌, subst, arith, ℤ, pos, length, if◌then◌else◌}
use Rattle.std.specs.Prelude.{Ok, negsuc, take, drop, replicate, unsigned_abs, cond, int_lt, int_le}
use Rattle.std.proofs.lemmas.List.{length-append, length-take, length-drop, length-replicate}
use Rattle.std.proofs.lemmas.Bool.Decides.{nat_tests}
use Rattle.a95_base.specs.Text.{fit, part_of, over}
use Rattle.std.proofs.lemmas.Bool.{and_parts}
use Rattle.array_meaning.specs.Sections.{is_part, part_bytes}
use Rattle.loop_tree.specs.Values.{sub, sub_within, replaced, replaced_within}

-- ---- lengths

abbrev blanks : ℕ → List ℕ
blanks k = replicate k 32

pub length-fit : (n : ℕ) (text : List ℕ) → length (fit n text) ≡ n
length-fit n text =
    length-append (take n text) (blanks (n - length text))
    ∙ ap (λ k. k + length (blanks (n - length text))) (length-take n text)
    ∙ ap (λ k. min n (length text) + k) (length-replicate (n - length text) 32) ∙ omega arith

length-part : (text : List ℕ) (from to : ℕ) → to ≤ length text → length (part_of text from to) ≡ to - (from - 1)
length-part text from to within =
    let short : min to (length text) ≡ to = omega (arith, within) in
    length-drop (from - 1) (take to text) ∙ ap (λ k. k - (from - 1)) (length-take to text ∙ short)

length-over : (text : List ℕ) (from : ℕ) (new : List ℕ) → from - 1 + length new ≤ length text →
    length (over text from new) ≡ length text
length-over text from new within =
    let front : min (from - 1) (length text) ≡ from - 1 = omega (arith, within) in
    length-append (take (from - 1) text) (new ++ drop (from - 1 + length new) text)
    ∙ ap (λ k. k + length (new ++ drop (from - 1 + length new) text)) (length-take (from - 1) text ∙ front)
    ∙ ap (λ k. from - 1 + k) (length-append new (drop (from - 1 + length new) text)
    ∙ ap (λ k. length new + k) (length-drop (from - 1 + length new) text))
    ∙ omega (arith, within)

-- ---- a part that is within a text of some length

-- its places, where there are any
pub record Places (len : ℕ) (from to : ℤ) : Type 0 where
  pub first : ℕ
  pub last : ℕ
  pub starts : from ≡ pos first
  pub ends : to ≡ pos last
  pub one : 1 ≤ first
  pub order : first ≤ last
  pub within : last ≤ len

places_by : (len : ℕ) (from to : ℤ) → int_lt to from ≡ false → (int_le (pos 1) from && int_le to (pos len)) ≡ true → Places len from to
places_by len (pos f) (pos t) h g =
    let two = and_parts (int_le (pos 1) (pos f)) (int_le (pos t) (pos len)) g in
    let order : f ≤ t = grind (arith, nat_tests, h) in
    let one : 1 ≤ f = grind (arith, nat_tests, two.0) in
    let within : t ≤ len = grind (arith, nat_tests, two.1) in
    record { first = f; last = t; starts = refl; ends = refl; one = one; order = order; within = within }
places_by len (pos f) (negsuc t) h g = cc
places_by len (negsuc f) to h g = cc

pub places_are : (len : ℕ) (from to : ℤ) → is_part len (Some (from, to)) ≡ true → int_lt to from ≡ false → Places len from to
places_are len from to h none = places_by len from to none (ap (λ b. b || (int_le (pos 1) from && int_le to (pos len))) (sym none) ∙ h)

abbrev pub part_if : Bool → ℤ → ℤ → ℕ × ℕ
part_if true from to = (1, 0)
part_if false from to = (unsigned_abs from, unsigned_abs to)

abbrev pub part : ℤ → ℤ → ℕ × ℕ
part from to = part_if (int_lt to from) from to

bytes_if : (b : Bool) (from to : ℤ) → cond b (Some (part_if true from to)) (Some (part_if false from to)) ≡ Some (part_if b from to)
bytes_if true from to = refl
bytes_if false from to = refl

pub part_is : (from to : ℤ) → part_bytes (Some (from, to)) ≡ Some (part from to)
part_is from to = bytes_if (int_lt to from) from to

-- ---- the part that is read

sub_by : (text : List ℕ) (len : ℕ) (from to : ℤ) → len ≤ length text → is_part len (Some (from, to)) ≡ true →
    (b : Bool) → int_lt to from ≡ b →
    cond b (Ok []) (sub_within text from to) ≡ Ok (part_of text (part_if b from to).0 (part_if b from to).1)
sub_by text len from to long h true e = refl
sub_by text len from to long h false e = by (places_are len from to h e)
  where
    inside : (f t : ℕ) → 1 ≤ f → t ≤ length text → sub_within text (pos f) (pos t) ≡ Ok (part_of text f t)
    inside f t one within =
        let low : nat_le 1 f ≡ true = grind (arith, nat_tests, one) in
        let high : nat_le t (length text) ≡ true = grind (arith, nat_tests, within) in
        ap (λ b. if b && nat_le t (length text) then Ok (part_of text f t) else sub_within text (pos f) (negsuc 0)) low
        ∙ ap (λ b. if b then Ok (part_of text f t) else sub_within text (pos f) (negsuc 0)) high

    by : Places len from to → sub_within text from to ≡ Ok (part_of text (unsigned_abs from) (unsigned_abs to))
    by p = ap (λ z. sub_within text z to) p.starts ∙ ap (λ z. sub_within text (pos p.first) z) p.ends
        ∙ inside p.first p.last p.one (omega (arith, long, p.within))
        ∙ ap (λ z. Ok (part_of text (unsigned_abs z) p.last)) (sym p.starts)
        ∙ ap (λ z. Ok (part_of text (unsigned_abs from) (unsigned_abs z))) (sym p.ends)

pub sub_is : (text : List ℕ) (len : ℕ) (from to : ℤ) → len ≤ length text → is_part len (Some (from, to)) ≡ true →
    sub text from to ≡ Ok (part_of text (part from to).0 (part from to).1)
sub_is text len from to long h = sub_by text len from to long h (int_lt to from) refl

-- ---- the part that is replaced

-- by as many bytes
pub record Replaced (text : List ℕ) (from : ℤ) (place : ℕ) (new : List ℕ) : Type 0 where
  pub is : replaced text from new ≡ Ok (over text place new)
  pub long : length (over text place new) ≡ length text

nothing_replaced : (text new : List ℕ) (from : ℤ) → length new ≡ 0 → Replaced text from 1 new
nothing_replaced text [] from h = record { is = refl; long = refl }
nothing_replaced text (c ∷ cs) from h = absurd (omega (arith, h))

some_replaced : (text new : List ℕ) (f t : ℕ) → 1 ≤ f → f ≤ t → t ≤ length text → length new ≡ t - (f - 1) →
    Replaced text (pos f) f new
some_replaced text [] f t one order within many =
    let none : 0 ≡ t - (f - 1) = many in absurd (omega (arith, one, order, none))
some_replaced text (c ∷ cs) f t one order within many =
    let size : suc (length cs) ≡ t - (f - 1) = many in
    let low : nat_le 1 f ≡ true = grind (arith, nat_tests, one) in
    let fits : f - 1 + suc (length cs) ≤ length text = omega (arith, one, order, within, size) in
    let high : nat_le (f - 1 + suc (length cs)) (length text) ≡ true = grind (arith, nat_tests, fits) in
    record {
      is = ap (λ b. if b && nat_le (f - 1 + suc (length cs)) (length text) then Ok (over text f (c ∷ cs))
          else replaced_within text (negsuc 0) (c ∷ cs)) low
          ∙ ap (λ b. if b then Ok (over text f (c ∷ cs)) else replaced_within text (negsuc 0) (c ∷ cs)) high;
      long = length-over text f (c ∷ cs) fits;
    }

replaced_by : (text new : List ℕ) (len : ℕ) (from to : ℤ) → len ≤ length text → is_part len (Some (from, to)) ≡ true →
    (b : Bool) → int_lt to from ≡ b →
    length new ≡ length (part_of text (part_if b from to).0 (part_if b from to).1) →
    Replaced text from (part_if b from to).0 new
replaced_by text new len from to long h true e many = nothing_replaced text new from many
replaced_by text new len from to long h false e many =
    let p = places_are len from to h e in
    let within : p.last ≤ length text = omega (arith, long, p.within) in
    let size : length new ≡ p.last - (p.first - 1) = many ∙ ap (λ z. length (part_of text (unsigned_abs z) (unsigned_abs to))) p.starts
    ∙ ap (λ z. length (part_of text p.first (unsigned_abs z))) p.ends ∙ length-part text p.first p.last within in
    subst (λ z. Replaced text z (unsigned_abs z) new) (sym p.starts)
    (some_replaced text new p.first p.last p.one p.order within size)

pub replaced_is : (text new : List ℕ) (len : ℕ) (from to : ℤ) → len ≤ length text → is_part len (Some (from, to)) ≡ true →
    length new ≡ length (part_of text (part from to).0 (part from to).1) → Replaced text from (part from to).0 new
replaced_is text new len from to long h many = replaced_by text new len from to long h (int_lt to from) refl many
