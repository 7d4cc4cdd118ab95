-- Which numbers bytes write.
use Rattle.std.proofs.Common.{◌≡◌, ℕ, ◌<◌, ◌≤◌, ◌^◌, true, false, ◌&&◌, List, [], ◌∷◌, length, get_or, Some, None}
use Rattle.std.proofs.Common.{Result, Ok, Err, sym, ap, subst, ◌∙◌, arith}
use Rattle.std.specs.Prelude.{nat_le, decimal}
use Rattle.std.specs.Str.{IsUtf8}
use Rattle.std.specs.Str.Parse.{AllDigits, digits_value, ParsesUnsigned}
use Rattle.std.specs.Result.{OkIff}
use Rattle.std.proofs.lemmas.Bool.Decides.{nat_tests}
use Rattle.std.proofs.lemmas.Fmt.{decimal_nonempty, first_decimal, digits_decimal, parse-decimal}
use Rattle.std.proofs.lemmas.Fmt.{decimal-digits_value, IsAscii-decimal}
use Rattle.std.proofs.lemmas.Str.{IsUtf8-from_ascii}
use Rattle.std.proofs.lemmas.Str.Parse.{IsNumeralModel, numerals_by_value, tells_digits, digit_at, parse_plain}
use Rattle.std.specs.Int.{IsInRange}
use Rattle.a95_base.proofs.Texts.{some_number}
use Rattle.intrinsic_table.specs.Standing.{begins_number, Writes}

numerals : IsNumeralModel (AllDigits 10) (digits_value 10)
numerals = numerals_by_value (AllDigits 10) tells_digits

wide : (n : ℕ) → n < 2 ^ 32 → n < 2 ^ 64
wide n h = omega arith

-- ---- the first byte

within : (byte : ℕ) → (nat_le 49 byte && nat_le byte 57) ≡ true → (49 ≤ byte) × (byte ≤ 57)
within byte h = grind (arith, nat_tests)

is_within : (byte : ℕ) → 49 ≤ byte → byte ≤ 57 → (nat_le 49 byte && nat_le byte 57) ≡ true
is_within byte low high = grind (arith, nat_tests)

begun : (bytes : List ℕ) → begins_number bytes ≡ true → (49 ≤ get_or bytes 0 0) × (get_or bytes 0 0 ≤ 57) × (0 < length bytes)
begun [] h = absurd (let z : ⊥ = cc in z)
begun (byte ∷ more) h = let b = within byte h in (b.0, b.1, omega arith)

begins : (bytes : List ℕ) → 49 ≤ get_or bytes 0 0 → get_or bytes 0 0 ≤ 57 → 0 < length bytes → begins_number bytes ≡ true
begins [] low high some = absurd (omega arith)
begins (byte ∷ more) low high some = is_within byte low high

-- a number from 1 on begins so
pub decimal_begins : (n : ℕ) → 0 < n → n < 2 ^ 32 → begins_number (decimal n) ≡ true
decimal_begins n some small =
    let digit : IsInRange 48 57 (get_or (decimal n) 0 0) =
    digit_at (decimal n) 0 (digits_decimal numerals n (wide n small)) (decimal_nonempty n (wide n small)) in
    let first : 48 < get_or (decimal n) 0 0 = first_decimal n some (wide n small) in
    begins (decimal n) (omega arith) (omega (arith, digit)) (decimal_nonempty n (wide n small))

pub not_begun : (bytes : List ℕ) → begins_number bytes ≡ false → Writes bytes None
not_begun bytes h n some small e =
    let is : begins_number bytes ≡ true = ap begins_number e ∙ decimal_begins n some small in
    cc

pub not_utf8 : (bytes : List ℕ) → (IsUtf8 bytes → ⊥) → Writes bytes None
not_utf8 bytes h n some small e = let P : List ℕ → Type 0 = λ xs. IsUtf8 xs in
    h (subst P (sym e) (IsUtf8-from_ascii (decimal n) (IsAscii-decimal n (wide n small))))

-- ---- what is parsed

pub parsed_some : {E : Type 0} (bytes : List ℕ) (r : Result ℕ E) (n : ℕ) → begins_number bytes ≡ true
    → ParsesUnsigned 32 10 bytes r → r ≡ Ok n → Writes bytes (Some n)
parsed_some {E = E} bytes r n h parses is =
    let b = begun bytes h in
    let P : Result ℕ E → Type 0 =
    λ o. OkIff o (AllDigits 10 bytes × (0 < length bytes) × (digits_value 10 bytes < 2 ^ 32)) (digits_value 10 bytes) in
    let ok : (AllDigits 10 bytes × (0 < length bytes) × (digits_value 10 bytes < 2 ^ 32)) × (n ≡ digits_value 10 bytes) =
    subst P is (parse_plain numerals 32 bytes r parses (λ plus. absurd (omega (arith, plus, b.0)))) in
    let writes : decimal (digits_value 10 bytes) ≡ bytes =
    decimal-digits_value numerals bytes ok.0.0 b.2 (λ nought. absurd (omega (arith, nought, b.0)))
    (wide (digits_value 10 bytes) ok.0.2) in
    let same : decimal n ≡ bytes = ap decimal ok.1 ∙ writes in
    let Q : ℕ → Type 0 = λ m. m < 2 ^ 32 in
    (some_number n bytes same b.0, subst Q (sym ok.1) ok.0.2, sym same)

pub parsed_none : {E : Type 0} (bytes : List ℕ) (r : Result ℕ E) (x : E) → ParsesUnsigned 32 10 bytes r → r ≡ Err x
    → Writes bytes None
parsed_none bytes r x parses is n some small e = let ok : r ≡ Ok n = parse-decimal 32 n bytes r small (wide n small) e parses in cc
