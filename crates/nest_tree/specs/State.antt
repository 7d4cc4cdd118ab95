-- The state of a running nest unit, and the steps that everything is made of. The state of the source is one field; beside it
-- stand what the lowering holds for the procedure that runs, the record that is being made, and the count of entries.
use Rattle.std.specs.Prelude.{ℕ, suc, ℤ, Bool, true, false, nat_eq, if◌then◌else◌, Option, Some, None, List, [], ◌∷◌, ◌++◌}
use Rattle.std.specs.Prelude.{slice_index_or, slice_set, Result, Ok, Err}
use Rattle.a95_base.specs.declared.fault.FaultKind.{FaultKind}
use Rattle.a95_base.specs.declared.scalar.Scalar.{Scalar}
use Rattle.a95_base.specs.Steps.{Ran}
use Rattle.array_meaning.specs.State as source
use Rattle.array_meaning.specs.State.{Variable, State}
use Rattle.array_meaning.specs.InputOutput.{record_of}
use Rattle.nest_tree.specs.declared.access.Name.{Name}
use Rattle.nest_tree.specs.declared.access.Name.TheVariants as name

-- What places and extents are computed from: the scalars of the lowering, and its lists of subscripts. No store into an array
-- changes it
pub record Setting : Type 0 where
  pub kept : ℕ → Scalar
  pub lists : ℕ → Option (List ℤ)

-- what the lowering holds; a block is what the source calls a variable
pub record Temps : Type 0 where
  pub setting : Setting
  pub blocks : ℕ → Variable

-- the state of the source, and what the lowering holds beside
pub record Cells : Type 0 where
  pub plain : State
  pub temps : Temps

pub record NestState : Type 0 where
  pub cells : Cells
  pub pending : List Scalar
  pub entries : ℕ

-- all that an expression reads of the state: neither input nor output nor turns
pub record Memory : Type 0 where
  pub variables : List Variable
  pub temps : Temps

abbrev pub memory_of : Cells → Memory
memory_of c = record { variables = c.plain.variables; temps = c.temps }

abbrev pub cells_of : NestState → Cells
cells_of n = n.cells

abbrev pub with_memory : NestState → Memory → NestState
with_memory n m = record n { cells = record { plain = record n.cells.plain { variables = m.variables }; temps = m.temps } }

-- what ends a run early: what ends the source's, or that a step has no meaning
pub data Halt : Type 0 where
  By : (halt : source.Halt) → Halt
  Stray : Halt

abbrev pub StepOn : Type 0 → Type 0 → Type 0
StepOn S A = S → Ran Halt S A

abbrev pub Step : Type 0 → Type 0
Step A = StepOn NestState A

-- ---- what is read

abbrev pub or_stray : {A : Type 0} → Option A → Result A Halt
or_stray None = Err Stray
or_stray (Some a) = Ok a

-- the fault stands at a line
abbrev pub at_line : {A : Type 0} → ℕ → Result A FaultKind → Result A Halt
at_line line (Ok a) = Ok a
at_line line (Err kind) = Err (By (source.Faults kind line))

-- what goes on with something that is there
abbrev pub on : {A B : Type 0} → Option A → (A → Option B) → Option B
on None next = None
on (Some a) next = next a

abbrev pub held_if : Bool → Option (Unit {0})
held_if true = Some tt
held_if false = None

abbrev pub where_holds : {A : Type 0} → Bool → Option A → Option A
where_holds true a = a
where_holds false a = None

-- ---- steps on any state

module _ {S : Type 0} where
  -- what has to be there
  unfoldable pub found : {A : Type 0} → Option A → StepOn S A
  found a s = record { came = or_stray a; after = s }

  -- a value, or the fault that stands in its place
  unfoldable pub given : {A : Type 0} → ℕ → Result A FaultKind → StepOn S A
  given line r s = record { came = at_line line r; after = s }

  -- what the memory gives
  unfoldable pub sees : {A : Type 0} → (S → Cells) → (Memory → Option A) → StepOn S A
  sees cells f s = record { came = or_stray (f (memory_of (cells s))); after = s }

  -- one step where the test holds, else the other
  unfoldable pub pick : {A : Type 0} → Bool → StepOn S A → StepOn S A → StepOn S A
  pick true one other s = one s
  pick false one other s = other s

-- ---- steps on the state of a unit

abbrev pub reads : {A : Type 0} → (Memory → Option A) → Step A
reads f = sees cells_of f

-- the memory changes, unless that has no meaning
abbrev pub changed_to : Option Memory → NestState → Ran Halt NestState (Unit {0})
changed_to (Some m) n = record { came = Ok tt; after = with_memory n m }
changed_to None n = record { came = Err Stray; after = n }

unfoldable pub changes : (Memory → Option Memory) → Step (Unit {0})
changes f n = changed_to (f (memory_of n.cells)) n

-- a step of the source
abbrev pub by_source : {A : Type 0} → Result A source.Halt → Result A Halt
by_source (Ok a) = Ok a
by_source (Err halt) = Err (By halt)

abbrev pub lifted : {A : Type 0} → NestState → Ran source.Halt State A → Ran Halt NestState A
lifted n r = record { came = by_source r.came; after = record n { cells = record n.cells { plain = r.after } } }

unfoldable pub within : {A : Type 0} → source.Step A → Step A
within m n = lifted n (m n.cells.plain)

-- one more entry into the body of a loop, or into a procedure
unfoldable pub enter : Step (Unit {0})
enter n = record { came = Ok tt; after = record n { entries = suc n.entries } }

-- what is done with as many rounds at most as turns are left
unfoldable pub turns_left : {A : Type 0} → (ℕ → Step A) → Step A
turns_left f n = f n.cells.plain.left n

-- a value joins the record that is being made; the record is written
unfoldable pub joins : Scalar → Step (Unit {0})
joins x n = record { came = Ok tt; after = record n { pending = n.pending ++ x ∷ [] } }

abbrev pub with_written : Cells → List ℕ → Cells
with_written c bytes = record c { plain = record c.plain { written = c.plain.written ++ bytes } }

unfoldable pub writes : Step (Unit {0})
writes n = record { came = Ok tt; after = record n { cells = with_written n.cells (record_of n.pending); pending = [] } }

-- a callee's step on a memory of its own: the caller's stays, and what the callee's variables hold last is the value
abbrev pub own_of : Result (Unit {0}) Halt → List Variable → Result (List Variable) Halt
own_of (Ok done) own = Ok own
own_of (Err halt) own = Err halt

abbrev pub back_to : Memory → Ran Halt NestState (Unit {0}) → Ran Halt NestState (List Variable)
back_to callers r = record { came = own_of r.came r.after.cells.plain.variables; after = with_memory r.after callers }

unfoldable pub inside : Memory → Step (Unit {0}) → Step (List Variable)
inside own body n = back_to (memory_of n.cells) (body (with_memory n own))

-- ---- changes of the memory

abbrev pub block_in : Memory → Name → Variable
block_in m (name.Own n) = slice_index_or m.variables n source.no_variable
block_in m (name.Temp t) = m.temps.blocks t

abbrev pub set_at : {A : Type 0} → (ℕ → A) → ℕ → A → ℕ → A
set_at f k a n = if nat_eq n k then a else f n

abbrev pub with_block : Memory → Name → Variable → Memory
with_block m (name.Own n) v = record m { variables = slice_set m.variables n v }
with_block m (name.Temp t) v = record m { temps = record m.temps { blocks = set_at m.temps.blocks t v } }

abbrev pub with_kept : Memory → ℕ → Scalar → Memory
with_kept m k x = record m {
  temps = record m.temps {
    setting = record m.temps.setting {
      kept =
          set_at m.temps.setting.kept k x;
    };
  };
}

abbrev pub with_list : Memory → ℕ → Option (List ℤ) → Memory
with_list m l zs = record m {
  temps = record m.temps {
    setting = record m.temps.setting {
      lists =
          set_at m.temps.setting.lists l zs;
    };
  };
}
