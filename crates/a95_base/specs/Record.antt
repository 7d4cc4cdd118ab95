-- What PRINT makes of the values of one record, without the line feed.
use Rattle.std.specs.Prelude.{ℕ, Bool, true, false, List, [], ◌∷◌, ◌++◌}
use Rattle.std.specs.Fmt.{signed_decimal}
use Rattle.a95_base.specs.declared.scalar.Scalar.{Scalar}
use Rattle.a95_base.specs.declared.scalar.Scalar.TheVariants as scalar

-- a value's own text: the shortest decimal, T or F, the bytes
abbrev pub value_text : Scalar → List ℕ
value_text (scalar.Int z) = signed_decimal z
value_text (scalar.Log true) = 84 ∷ []
value_text (scalar.Log false) = 70 ∷ []
value_text (scalar.Text bytes) = bytes

-- one blank stands before a value, but none between two texts
abbrev pub blank_before : Bool → Scalar → List ℕ
blank_before true (scalar.Text _) = []
blank_before after_text value = 32 ∷ []

abbrev pub is_text : Scalar → Bool
is_text (scalar.Text _) = true
is_text _ = false

-- the values that follow a text, or that follow none
abbrev pub values_text : Bool → List Scalar → List ℕ
values_text after_text [] = []
values_text after_text (value ∷ more) = blank_before after_text value ++ (value_text value ++ values_text (is_text value) more)

abbrev pub record_text : List Scalar → List ℕ
record_text values = values_text false values
