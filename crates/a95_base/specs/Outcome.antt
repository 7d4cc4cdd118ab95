-- How a run comes out: that of a source, and that of a program which follows it.
use Rattle.std.specs.Prelude.{◌≡◌, ℕ, List, ◌++◌}
use Rattle.a95_base.specs.declared.fault.FaultKind.{FaultKind}

-- what ends a source: its last statement or STOP, or a fault at a line
pub data Stop : Type 0 where
  Ended : Stop
  Faulted : (kind : FaultKind) (line : ℕ) → Stop

-- what a run within a number of turns comes to: an end, or the turn that it may not begin
pub data Outcome (E : Type 0) : Type 0 where
  Finished : (how : E) → Outcome E
  Going : Outcome E

-- all that was written, and the outcome
pub record Run (E : Type 0) : Type 0 where
  pub written : List ℕ
  pub outcome : Outcome E

-- the first list begins the second
pub record IsPrefix {A : Type 0} (prefix whole : List A) : Type 0 where
  pub more : List A
  pub is : whole ≡ prefix ++ more
