-- What a name means where an expression stands: a variable, a named constant, a procedure, an intrinsic, or an index.
use Rattle.std.specs.Prelude.{ℕ, length, Bool, false, if◌then◌else◌, List, [], ◌∷◌, Option, Some, None, slice_get, ◌==◌}
use Rattle.std.specs.List.{find, list_any}
use Rattle.a95_base.specs.declared.scalar.Scalar.{Scalar}
use Rattle.f95_tree.specs.Forms.{Word}
use Rattle.intrinsic_table.specs.declared.intrinsic.Intrinsic.{Intrinsic}
use Rattle.intrinsic_table.specs.Finding.{is_word}
use Rattle.names_types.specs.Keywords.{intrinsic_named}
use Rattle.names_types.specs.Constants.{then_option}
use Rattle.well_typed.specs.declared.known.Callee.{Callee}
use Rattle.well_typed.specs.declared.known.Variable.{Variable}

-- variables, constants and procedures by their numbers; a procedure with the names of its dummies; an index by the number of such
-- that stand around its own
pub data Sense : Type 0 where
  IsVariable : ℕ → Sense
  IsConstant : ℕ → Sense
  IsProcedure : ℕ → (dummies : List Word) → Sense
  IsIntrinsic : Intrinsic → Sense
  IsIndex : ℕ → Sense
  -- a name without declaration, or of a variable of the host
  IsNothing : Sense

-- what a declaration says of a name
pub data Meaning : Type 0 where
  AVariable : ℕ → Meaning
  AConstant : ℕ → Meaning
  AProcedure : ℕ → (dummies : List Word) → Meaning

pub record Meant : Type 0 where
  pub name : Word
  pub meaning : Meaning

abbrev pub sense_as : Meaning → Sense
sense_as (AVariable n) = IsVariable n
sense_as (AConstant n) = IsConstant n
sense_as (AProcedure n dummies) = IsProcedure n dummies

-- the declared names of a scope and of its host, what is known of all variables, constants and procedures, the indices around (the
-- inner ones first), and the variables of the DOs around
pub record Names : Type 0 where
  pub meant : List Meant
  pub variables : List Variable
  pub constants : List Scalar
  pub callees : List Callee
  pub indices : List Word
  pub dos : List ℕ

abbrev pub with_indices : List Word → Names → Names
with_indices indices c = record c { indices = indices }

-- in a DO with that variable, where its name is one
abbrev pub inside_do : Option ℕ → Names → Names
inside_do None c = c
inside_do (Some n) c = record c { dos = n ∷ c.dos }

abbrev pub index_level : List Word → Word → Option ℕ
index_level [] name = None
index_level (i ∷ outer) name = if is_word i name then Some (length outer) else index_level outer name

abbrev pub intrinsic_or_nothing : Option Intrinsic → Sense
intrinsic_or_nothing None = IsNothing
intrinsic_or_nothing (Some which) = IsIntrinsic which

abbrev pub meant_or_intrinsic : Option Meant → Word → Sense
meant_or_intrinsic None name = intrinsic_or_nothing (intrinsic_named name)
meant_or_intrinsic (Some m) name = sense_as m.meaning

-- a declaration hides an intrinsic
abbrev pub declared_sense : Names → Word → Sense
declared_sense c name = meant_or_intrinsic (find (λ (m : Meant). is_word name m.name) c.meant) name

abbrev pub index_or_declared : Option ℕ → Sense → Sense
index_or_declared None s = s
index_or_declared (Some level) s = IsIndex level

-- an index hides a declaration
abbrev pub sense_of : Names → Word → Sense
sense_of c name = index_or_declared (index_level c.indices name) (declared_sense c name)

abbrev pub number_in : Sense → Option ℕ
number_in (IsVariable n) = Some n
number_in other = None

abbrev pub variable_of : Names → Sense → Option Variable
variable_of c s = then_option (number_in s) (slice_get c.variables)

-- the variable of a DO around
abbrev pub is_of_do : Names → Option ℕ → Bool
is_of_do c None = false
is_of_do c (Some n) = list_any (λ k. k == n) c.dos
