-- What a source says at one point, put as a question to the rules: operands that meet, arguments that a function gets, a variable
-- that is stored into. Each part has its type already, so that an expression with a part that breaks a rule asks nothing.
use Rattle.std.specs.Prelude.{ℕ, Bool, List, Option}
use Rattle.a95_base.specs.declared.scalar.Kind.{Kind}
use Rattle.constant_operators.specs.declared.value.Worth.{Worth}
use Rattle.f95_tree.specs.Forms.{Word}
use Rattle.f95_tree.specs.declared.terminal.Operator.{Operator}
use Rattle.f95_tree.specs.declared.terminal.Sign.{Sign}
use Rattle.f95_unit.specs.declared.facts.Facts.{Facts}
use Rattle.f95_unit.specs.Plain.{Access, Part}
use Rattle.well_typed.specs.Shapes.{Extents}
use Rattle.well_typed.specs.declared.known.Given.{Given}
use Rattle.well_typed.specs.declared.known.Variable.{Variable}
use Rattle.well_typed.specs.declared.family.Family.{Family}
use Rattle.well_typed.specs.declared.asked.Listed.{Listed}
use Rattle.well_typed.specs.declared.asked.Range.{Range}

-- a variable is absent where a name means something else
pub data Question : Type 0 where
  -- in expressions: an operator and its operands
  Operates : Operator → (left right : Facts) → Question
  Signs : Sign → Facts → Question
  -- a bound of a triplet, a substring, a declaration, ALLOCATE, a DO, an implied DO, a FORALL
  Bounds : Facts → Question
  -- the name of an index, or of the variable of a DO or an implied DO
  Counts : Option Variable → Question
  -- a name of that rank with items in brackets
  Subscripts : (rank : ℕ) → List Listed → Question
  -- a substring of a variable of that kind, or of something else
  Cuts : Option Kind → Question
  -- a constructor with these values
  Gathers : List Facts → Question
  -- an intrinsic with its arguments in their places, and one that has no such arguments at all
  Refers : Family → (dim : Option ℕ) → List Given → Question
  Misrefers : Question
  -- a reference to an ELEMENTAL function whose arguments match
  Spreads : List Extents → Question
  -- in statements: a target and its value
  Assigns : (target value : Facts) → Question
  -- a condition, a selector
  Decides : Facts → Question
  Selects : Facts → Question
  -- a store into a variable, which may be that of a DO around
  Stores : Option Variable → (of_do : Bool) → Question
  Allocates : Option Variable → (bounds : ℕ) → Question
  Frees : Option Variable → Question
  -- a CASE value or range, for a selector of that kind
  Matches : Kind → (colon : Bool) → Kind → Worth → Question
  -- the ranges of a CASE, behind those of earlier ones
  Shares : (earlier now : List Range) → Question
  -- a mask, and a target under masks; `around` is what is known of the masks around
  Masks : (around : Option Extents) → Facts → Question
  Fills : (around : Option Extents) → Facts → Question
  -- the names of the indices of a FORALL; the numbers of indices that triplets name, where the FORALL has so many; a target
  Heads : List Word → Question
  Ranges : (named : List ℕ) → (indices : ℕ) → Question
  Targets : (indices : ℕ) → Facts → Access → Part → Question
  -- an item of READ
  Takes : Facts → Question

-- a question at a line
pub record Posed : Type 0 where
  pub line : ℕ
  pub question : Question
