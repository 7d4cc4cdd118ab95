-- How an INTEGER stands in the input, as a grammar. The law `input_rule` says that the input rule finds exactly these.
use Rattle.std.specs.Prelude.{◌≡◌, ◌⊎◌, ℕ, ℤ, pos, neg_ℤ, ◌+◌, ◌^◌, ◌<◌, ◌≤◌, Bool, List, [], ◌∷◌, ◌++◌, length, IsTrue}
use Rattle.std.specs.List.{list_all}
use Rattle.a95_base.specs.Input.{is_whitespace, is_separator, is_number, number_of}

-- what parts two values: whitespace, and where one may stand, a comma in it
abbrev pub IsGap : Bool → List ℕ → Type 0
IsGap comma gap =
    IsTrue (list_all is_whitespace gap)
    ⊎ (IsTrue comma
    × ((before after : List ℕ) × IsTrue (list_all is_whitespace before) × IsTrue (list_all is_whitespace after)
    × (gap ≡ before ++ 44 ∷ after)))

-- the value of a number behind a sign or none, where it has 32 bits
abbrev pub HasSign : List ℕ → ℕ → ℤ → Type 0
HasSign sign number value =
    (((sign ≡ []) ⊎ (sign ≡ 43 ∷ [])) × (number < 2 ^ 31) × (value ≡ pos number))
    ⊎ ((sign ≡ 45 ∷ []) × (number ≤ 2 ^ 31) × (value ≡ neg_ℤ (pos number)))

-- a word writes a value: a sign or none, and digits
pub record Writes (word : List ℕ) (value : ℤ) : Type 0 where
  pub sign : List ℕ
  pub digits : List ℕ
  pub text : word ≡ sign ++ digits
  pub number : IsTrue (is_number digits)
  pub signed : HasSign sign (number_of digits) value

-- nothing stands behind a value, or a separator
abbrev pub EndsValue : List ℕ → Type 0
EndsValue [] = Unit {0}
EndsValue (c ∷ cs) = IsTrue (is_separator c)

-- a gap, and then a word that writes the value
pub record IsNext (comma : Bool) (rest : List ℕ) (value : ℤ) (used : ℕ) : Type 0 where
  pub gap : List ℕ
  pub word : List ℕ
  pub more : List ℕ
  pub text : rest ≡ gap ++ (word ++ more)
  pub parts : IsGap comma gap
  pub writes : Writes word value
  pub ends : EndsValue more
  pub count : used ≡ length gap + length word
