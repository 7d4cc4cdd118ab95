-- What a statement does that the rules on calls speak of: it references procedures, and it does input, output or STOP.
use Rattle.std.specs.Prelude.{ℕ, Bool, List}
use Rattle.f95_unit.specs.Plain.{Call}

-- a reference on a line, with the variables of the DOs around it, as a function or by a CALL statement
pub record Reference : Type 0 where
  pub line : ℕ
  pub dos : List ℕ
  pub as_function : Bool
  pub of : Call

pub data Act : Type 0 where
  References : Reference → Act
  -- input, output or STOP
  Transfers : (line : ℕ) → Act

abbrev pub reference_to : ℕ → List ℕ → Bool → Call → Reference
reference_to line dos as_function c = record { line = line; dos = dos; as_function = as_function; of = c }

abbrev pub reference : ℕ → List ℕ → Bool → Call → Act
reference line dos as_function c = References (reference_to line dos as_function c)
