-- The place of a keyword, as the definitions have it and as the table of intrinsics answers it.
use Rattle.std.proofs.Common.{◌≡◌, ◌≢◌, ℕ, zero, suc, ◌+◌, ◌-◌, ◌<◌, ◌≤◌, ◌*◌, Bool, true, false, ◌&&◌, cond, List, [], ◌∷◌, ◌++◌}
use Rattle.std.proofs.Common.{length, get_or, fold, Option, Some, None, refl, sym, ap, ◌∙◌, true≢false, arith}
use Rattle.std.specs.Prelude.{slice_get, nat_lt, nat_le, decimal, IfSome, IfNone, IsSome, ◌==◌, if◌then◌else◌}
use Rattle.std.specs.List.{list_all, position_from}
use Rattle.std.specs.Option.{is_some}
use Rattle.std.proofs.lemmas.Bool.Decides.{Decides-ltb, Decides-eqb, nat_tests}
use Rattle.std.proofs.lemmas.Bool.{leb-true, le-leb, and_parts}
use Rattle.std.proofs.lemmas.Fmt.{digits_decimal, digits_value-decimal, decimal-digits_value}
use Rattle.std.proofs.lemmas.Slice.Eq.{bytes_eq-Decides}
use Rattle.std.proofs.lemmas.Str.Parse.{IsDigitsTest, IsNumeralModel, numerals_by_fold}
use Rattle.std.specs.Int.{IsInRange}
use Rattle.std.proofs.lemmas.Option.{same_Some, none-some}
use Rattle.a95_base.proofs.Tests.{next_place}
use Rattle.a95_base.proofs.Texts.{some_number}
use Rattle.a95_base.specs.Input.{is_digit}
use Rattle.f95_tree.specs.Forms.{Word}
use Rattle.intrinsic_table.specs.declared.intrinsic.Intrinsic.{Intrinsic}
use Rattle.intrinsic_table.specs.Finding.{is_word}
use Rattle.intrinsic_table.specs.Interface.{keyword_at, keyword_in, most_numbered}
use Rattle.intrinsic_table.specs.Standing.{begins_number}
use Rattle.intrinsic_table.specs.Table.{Arguments, Takes, Numbered, row_of}
use Rattle.intrinsic_table.specs.TableLaws.{argument_count}
use Rattle.intrinsic_table.proofs.Keywords.{numbered_is, is_numbered, keywords_differ, places_are_counted}
use Rattle.intrinsic_table.proofs.Numerals.{decimal_begins}
use Rattle.names_types.specs.Keywords.{number_written, is_numeral, numbered_place, keyword_place_in, keyword_place}

-- ---- keywords in a list

record Found (w : Word) (ws : List Word) (i q : ℕ) : Type 0 where
  behind : i ≤ q
  stands : slice_get ws (q - i) ≡ Some w

found : (w : Word) (ws : List Word) (i q : ℕ) → position_from (is_word w) i ws ≡ Some q → Found w ws i q
found w [] i q e = absurd (none-some q e)
found w (x ∷ xs) i q e = by (is_word w x) refl e (found w xs (i + 1) q)
  where
    by : (b : Bool) → is_word w x ≡ b → cond b (Some i) (position_from (is_word w) (i + 1) xs) ≡ Some q
        → (position_from (is_word w) (i + 1) xs ≡ Some q → Found w xs (i + 1) q) → Found w (x ∷ xs) i q
    by true is e next =
        let same : i ≡ q = same_Some i q e in
        let here : q - i ≡ 0 = omega arith in
        let word : w ≡ x = (bytes_eq-Decides w x).0 is in
        record { behind = omega arith; stands = ap (λ n. slice_get (x ∷ xs) n) here ∙ ap Some (sym word) }
    by false is e next =
        let more = next e in
        record {
          behind = omega (arith, more.behind);
          stands = ap (λ n. slice_get (x ∷ xs) n) (next_place i q more.behind)
              ∙ more.stands;
        }

nowhere : (w : Word) (ws : List Word) (i p : ℕ) → position_from (is_word w) i ws ≡ None → slice_get ws p ≡ Some w → ⊥
nowhere w [] i p e f = none-some w f
nowhere w (x ∷ xs) i p e f = by (is_word w x) refl e p f (nowhere w xs (i + 1))
  where
    by : (b : Bool) → is_word w x ≡ b → cond b (Some i) (position_from (is_word w) (i + 1) xs) ≡ None → (p : ℕ)
        → slice_get (x ∷ xs) p ≡ Some w
        → ((k : ℕ) → position_from (is_word w) (i + 1) xs ≡ None → slice_get xs k ≡ Some w → ⊥) → ⊥
    by true is e p f next = none-some i (sym e)
    by false is e zero f next =
        let same : is_word w x ≡ true = (bytes_eq-Decides w x).1 (sym (same_Some x w f)) in
        true≢false (sym same ∙ is)
    by false is e (suc p) f next = next p e f

-- ---- `a1`, `a2` and so on

tells : IsDigitsTest (λ ds. list_all is_digit ds ≡ true)
tells = record { empty = refl; parts = parts; more = more }
  where
    in_range : (c : ℕ) → (nat_le 48 c && nat_le c 57) ≡ true → IsInRange 48 57 c
    in_range c h = (grind (arith, nat_tests), grind (arith, nat_tests))

    digit : (c : ℕ) → IsInRange 48 57 c → (nat_le 48 c && nat_le c 57) ≡ true
    digit c k = let low : 48 ≤ c = k.0 in let high : c ≤ 57 = k.1 in grind (arith, nat_tests)

    parts : (c : ℕ) (cs : List ℕ) → list_all is_digit (c ∷ cs) ≡ true → IsInRange 48 57 c × (list_all is_digit cs ≡ true)
    parts c cs e = let k = and_parts (is_digit c) (list_all is_digit cs) e in (in_range c k.0, k.1)

    more : (c : ℕ) (cs : List ℕ) → IsInRange 48 57 c → list_all is_digit cs ≡ true → list_all is_digit (c ∷ cs) ≡ true
    more c cs k e = ap (λ b. b && list_all is_digit cs) (digit c k) ∙ e

numerals : IsNumeralModel (λ ds. list_all is_digit ds ≡ true) number_written
numerals = numerals_by_fold (λ ds. list_all is_digit ds ≡ true) tells (λ n ds. fold (λ m d. m * 10 + (d - 48)) n ds)
    (record { empty = λ n. refl; more = λ n c cs k. refl })

record Begun (ds : List ℕ) : Type 0 where
  low : 49 ≤ get_or ds 0 0
  some : 0 < length ds

begun : (ds : List ℕ) → begins_number ds ≡ true → Begun ds
begun [] h = absurd (let z : ⊥ = cc in z)
begun (d ∷ more) h =
    record { low = let k = and_parts (nat_le 49 d) (nat_le d 57) h in grind (arith, nat_tests, k.0); some = omega arith }

record Numeral (ds : List ℕ) : Type 0 where
  positive : 0 < number_written ds
  small : number_written ds ≤ most_numbered
  written : decimal (number_written ds) ≡ ds

numeral : (ds : List ℕ) → is_numeral ds ≡ true → Numeral ds
numeral ds h =
    let first = and_parts (begins_number ds) (list_all is_digit ds && nat_le (number_written ds) most_numbered) h in
    let second = and_parts (list_all is_digit ds) (nat_le (number_written ds) most_numbered) first.1 in
    let b = begun ds first.0 in
    let small : number_written ds ≤ most_numbered = leb-true (number_written ds) most_numbered second.1 in
    let written : decimal (number_written ds) ≡ ds =
    decimal-digits_value numerals ds second.0 b.some (λ nought. absurd (omega (arith, nought, b.low))) (omega arith) in
    record { positive = some_number (number_written ds) ds written b.low; small = small; written = written }

is_a_numeral : (n : ℕ) → 0 < n → n ≤ most_numbered → is_numeral (decimal n) ≡ true
is_a_numeral n some small =
    let value : number_written (decimal n) ≡ n = digits_value-decimal numerals n (omega arith) in
    let begins : begins_number (decimal n) ≡ true = decimal_begins n some (omega arith) in
    let digits : list_all is_digit (decimal n) ≡ true = digits_decimal numerals n (omega arith) in
    let below : nat_le (number_written (decimal n)) most_numbered ≡ true =
    le-leb (number_written (decimal n)) most_numbered (omega (arith, value)) in
    ap (λ b. b && (list_all is_digit (decimal n) && nat_le (number_written (decimal n)) most_numbered)) begins
    ∙ (ap (λ b. b && nat_le (number_written (decimal n)) most_numbered) digits ∙ below)

numbered_found : (w : Word) (p : ℕ) → numbered_place w ≡ Some p → keyword_in Numbered p ≡ Some w
numbered_found [] p e = absurd (none-some p e)
numbered_found (letter ∷ ds) p e = by (letter == 97) (is_numeral ds) refl refl e
  where
    by : (a b : Bool) → (letter == 97) ≡ a → is_numeral ds ≡ b → (if a && b then Some (number_written ds - 1) else None) ≡ Some p
        → keyword_in Numbered p ≡ Some (letter ∷ ds)
    by true true is n e =
        let d = numeral ds n in
        let same : number_written ds - 1 ≡ p = same_Some (number_written ds - 1) p e in
        let next : p + 1 ≡ number_written ds = omega (arith, same, d.positive) in
        let first : 97 ≡ letter = sym ((Decides-eqb letter 97).0 is) in
        is_numbered p (omega (arith, next, d.small)) ∙ ap Some
        (ap (λ n. 97 ∷ decimal n) next ∙ ap (λ xs. 97 ∷ xs) d.written ∙ ap (λ c. c ∷ ds) first)
    by true false is n e = absurd (none-some p e)
    by false b is n e = absurd (none-some p e)

numbered_at : (p : ℕ) → p < most_numbered → numbered_place (97 ∷ decimal (p + 1)) ≡ Some p
numbered_at p h =
    let is : is_numeral (decimal (p + 1)) ≡ true = is_a_numeral (p + 1) (omega arith) (omega arith) in
    let value : number_written (decimal (p + 1)) ≡ p + 1 = digits_value-decimal numerals (p + 1) (omega arith) in
    let place : number_written (decimal (p + 1)) - 1 ≡ p = omega (arith, value) in
    ap (λ b. if b then Some (number_written (decimal (p + 1)) - 1) else None) is ∙ ap Some place

numbered_nowhere : (w : Word) (p : ℕ) → numbered_place w ≡ None → keyword_in Numbered p ≡ Some w → ⊥
numbered_nowhere w p e f =
    let is = numbered_is p w f in
    none-some p (sym e ∙ ap numbered_place is.spelled ∙ numbered_at p is.below)

-- ---- and_parts

stands : (a : Arguments) (w : Word) (p : ℕ) → keyword_place_in a w ≡ Some p → keyword_in a p ≡ Some w
stands (Takes needed optional) w p e =
    let f = found w (needed ++ optional) 0 p e in
    let same : p - 0 ≡ p = omega arith in
    ap (λ n. slice_get (needed ++ optional) n) (sym same) ∙ f.stands
stands Numbered w p e = numbered_found w p e

stands_nowhere : (a : Arguments) (w : Word) (p : ℕ) → keyword_place_in a w ≡ None → keyword_in a p ≡ Some w → ⊥
stands_nowhere (Takes needed optional) w p e f = nowhere w (needed ++ optional) 0 p e f
stands_nowhere Numbered w p e f = numbered_nowhere w p e f

place_some : (which : Intrinsic) (w : Word) (p : ℕ) (r : Option ℕ) → keyword_place which w ≡ r → keyword_at which p ≡ Some w →
    Some p ≡ r
place_some which w p (Some q) e f = ap Some (keywords_differ which p q w f (stands (row_of which).arguments w q e))
place_some which w p None e f = absurd (stands_nowhere (row_of which).arguments w p e f)

place_none : (which : Intrinsic) (w : Word) (r : Option ℕ) → keyword_place which w ≡ r → ((p : ℕ) → keyword_at which p ≢ Some w) →
    None ≡ r
place_none which w (Some q) e h = absurd (h q (stands (row_of which).arguments w q e))
place_none which w None e h = refl

-- what the table answers is the place
pub place_is : (which : Intrinsic) (w : Word) (r : Option ℕ) → IfSome r (λ p. keyword_at which p ≡ Some w)
    → IfNone r ((p : ℕ) → keyword_at which p ≢ Some w) → r ≡ keyword_place which w
place_is which w (Some p) some none = place_some which w p (keyword_place which w) refl some
place_is which w None some none = place_none which w (keyword_place which w) refl none

-- ---- how many places there are

is_some_by : (o : Option Word) (b : Bool) → (IsSome o → b ≡ true) → (b ≡ true → IsSome o) → b ≡ is_some o
is_some_by (Some x) b f g = f refl
is_some_by None true f g = absurd (true≢false (sym (g refl)))
is_some_by None false f g = refl

pub counted : (which : Intrinsic) (p : ℕ) → nat_lt p (argument_count which) ≡ is_some (keyword_at which p)
counted which p = is_some_by (keyword_at which p) (nat_lt p (argument_count which))
    (λ h. (Decides-ltb p (argument_count which)).1 ((places_are_counted which p).0 h))
    (λ h. (places_are_counted which p).1 ((Decides-ltb p (argument_count which)).0 h))
