-- The state of a running source, and the steps that everything is made of. The state has the variables of the innermost call
-- alone: those of its callers stand in what a call means, out of reach for the callee.
use Rattle.std.specs.Prelude.{ℕ, ℤ, pos, zero, suc, ◌+ℤ◌, ◌-ℤ◌, Bool, true, false, unsigned_abs, int_lt, if◌then◌else◌, Option}
use Rattle.std.specs.Prelude.{Some, None, List, [], ◌∷◌, ◌++◌, map, drop, fold, length, replicate, slice_index_or, slice_set}
use Rattle.std.specs.Prelude.{Result, Ok, Err}
use Rattle.a95_base.specs.declared.fault.FaultKind.{FaultKind}
use Rattle.a95_base.specs.declared.fault.FaultKind.TheVariants as fault
use Rattle.a95_base.specs.declared.scalar.Scalar.{Scalar}
use Rattle.a95_base.specs.declared.scalar.Scalar.TheVariants as scalar
use Rattle.a95_base.specs.Steps.{Ran, pure, stop}
use Rattle.a95_base.specs.Text.{fit, part_of, over}
use Rattle.array_meaning.specs.Values.{nothing, text_of, size_of}

-- the declared bounds of a dimension
pub record Dimension : Type 0 where
  pub lower : ℤ
  pub upper : ℤ

abbrev pub dimension : ℤ → ℤ → Dimension
dimension lower upper = record { lower = lower; upper = upper }

-- MAX(upper - lower + 1, 0)
abbrev pub extent_of : Dimension → ℕ
extent_of d = if int_lt d.upper d.lower then 0 else unsigned_abs (d.upper -ℤ d.lower +ℤ pos 1)

abbrev pub extents_of : List Dimension → List ℕ
extents_of bounds = map extent_of bounds

-- from 1 to each extent
abbrev pub counted_from_one : List ℕ → List Dimension
counted_from_one extents = map (λ n. dimension (pos 1) (pos n)) extents

-- what a variable holds: its bounds, none for a scalar, and its elements in array element order
pub record Array : Type 0 where
  pub bounds : List Dimension
  pub elements : List Scalar

-- `blank` is what an element starts with, and so has its kind and length. An array that isn't allocated holds nothing
pub record Variable : Type 0 where
  pub blank : Scalar
  pub held : Option Array

pub record State : Type 0 where
  pub variables : List Variable
  pub input : List ℕ
  pub written : List ℕ
  pub left : ℕ

-- what ends a run before its last statement: STOP, a fault, or a turn that would begin where none is left
pub data Halt : Type 0 where
  Stopped : Halt
  Faults : (kind : FaultKind) (line : ℕ) → Halt
  OutOfTurns : Halt

abbrev pub Step : Type 0 → Type 0
Step A = State → Ran Halt State A

-- ---- steps

unfoldable pub fault_at : {A : Type 0} → FaultKind → ℕ → Step A
fault_at kind line s = stop (Faults kind line) s

-- a fault unless the test holds
unfoldable pub unless : Bool → FaultKind → ℕ → Step (Unit {0})
unless true kind line s = pure tt s
unless false kind line s = stop (Faults kind line) s

-- one step where the test holds, else the other
unfoldable pub choose : {A : Type 0} → Bool → Step A → Step A → Step A
choose true one other s = one s
choose false one other s = other s

-- a value, or the fault that stands in its place
unfoldable pub given : {A : Type 0} → ℕ → Result A FaultKind → Step A
given line (Ok a) s = pure a s
given line (Err kind) s = stop (Faults kind line) s

-- the array that a variable holds
unfoldable pub allocated_array : ℕ → Option Array → Step Array
allocated_array line (Some a) s = pure a s
allocated_array line None s = stop (Faults fault.NotAllocated line) s

-- a turn begins, if one is left
unfoldable pub turn_from : ℕ → Step (Unit {0})
turn_from zero s = stop OutOfTurns s
turn_from (suc n) s = pure tt (record s { left = n })

unfoldable pub turn : Step (Unit {0})
turn s = turn_from s.left s

-- what is done with as many rounds at most as turns are left
unfoldable pub turns_left : {A : Type 0} → (ℕ → Step A) → Step A
turns_left f s = f s.left s

-- ---- variables

abbrev pub no_variable : Variable
no_variable = record { blank = nothing; held = None }

unfoldable pub variable : ℕ → Step Variable
variable n s = pure (slice_index_or s.variables n no_variable) s

unfoldable pub set_variable : ℕ → Variable → Step (Unit {0})
set_variable n v s = pure tt (record s { variables = slice_set s.variables n v })

-- the bytes of each element that are named: from one place to another, or all
abbrev pub Substring : Type 0
Substring = Option (ℕ × ℕ)

abbrev pub bytes_of : Substring → Scalar → Scalar
bytes_of None x = x
bytes_of (Some part) x = scalar.Text (part_of (text_of x) part.0 part.1)

-- an element after a store: a text is cut or padded to the length of what is named
abbrev pub changed : Scalar → Substring → Scalar → Scalar → Scalar
changed (scalar.Text blank) None old new = scalar.Text (fit (length blank) (text_of new))
changed (scalar.Text blank) (Some part) old new =
    scalar.Text (over (text_of old) part.0 (fit (length (part_of (text_of old) part.0 part.1)) (text_of new)))
changed blank bytes old new = new

-- elements after stores at numbered places, one after the other
abbrev pub with_stored : Scalar → Substring → List (ℕ × Scalar) → List Scalar → List Scalar
with_stored blank bytes stores xs = fold
    (λ ys p. slice_set ys p.0 (changed blank bytes (slice_index_or ys p.0 blank) p.1)) xs stores

abbrev pub held_after : Scalar → Substring → List (ℕ × Scalar) → Option Array → Option Array
held_after blank bytes stores None = None
held_after blank bytes stores (Some a) = Some (record a { elements = with_stored blank bytes stores a.elements })

abbrev pub stored_in : Variable → Substring → List (ℕ × Scalar) → Variable
stored_in v bytes stores = record v { held = held_after v.blank bytes stores v.held }

unfoldable pub store_all : ℕ → Substring → List (ℕ × Scalar) → Step (Unit {0})
store_all n bytes stores s = set_variable n (stored_in (slice_index_or s.variables n no_variable) bytes stores) s

-- a scalar variable takes a value
abbrev pub store_one : ℕ → Scalar → Step (Unit {0})
store_one n x = store_all n None ((0, x) ∷ [])

-- an array with these bounds and the elements that a variable starts with
abbrev pub fresh : Scalar → List Dimension → Variable
fresh blank bounds = record {
  blank = blank;
  held = Some
      (record { bounds = bounds; elements = replicate (size_of (extents_of bounds)) blank });
}

-- ---- input and output

unfoldable pub put : List ℕ → Step (Unit {0})
put bytes s = pure tt (record s { written = s.written ++ bytes })

unfoldable pub unread : Step (List ℕ)
unread s = pure s.input s

unfoldable pub pass : ℕ → Step (Unit {0})
pass n s = pure tt (record s { input = drop n s.input })

-- ---- calls

-- a callee's step on variables of its own: the caller's stay, and the callee's last ones are the value
abbrev pub own_of : Result (Unit {0}) Halt → List Variable → Result (List Variable) Halt
own_of (Ok done) own = Ok own
own_of (Err halt) own = Err halt

abbrev pub back_to : List Variable → Ran Halt State (Unit {0}) → Ran Halt State (List Variable)
back_to callers r = record { came = own_of r.came r.after.variables; after = record r.after { variables = callers } }

unfoldable pub inside : List Variable → Step (Unit {0}) → Step (List Variable)
inside own body s = back_to s.variables (body (record s { variables = own }))
