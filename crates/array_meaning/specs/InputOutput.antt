-- PRINT and READ.
use Rattle.std.specs.Prelude.{ℕ, ℤ, Bool, true, false, not, ◌||◌, nat_eq, List, [], ◌∷◌, ◌++◌, length}
use Rattle.a95_base.specs.declared.fault.FaultKind.TheVariants as fault
use Rattle.a95_base.specs.declared.scalar.Scalar.{Scalar}
use Rattle.a95_base.specs.declared.scalar.Scalar.TheVariants as scalar
use Rattle.a95_base.specs.Steps.{pure, ◌>>=◌, ◌>>◌}
use Rattle.a95_base.specs.Record.{record_text}
use Rattle.a95_base.specs.Input.{Reading, Integer, NoMore, NoInteger, next_value, record_length}
use Rattle.f95_unit.specs.Plain.{Expr, Target, Program}
use Rattle.array_meaning.specs.State.{Step, unless, fault_at, store_all, put, unread, pass, Substring}
use Rattle.array_meaning.specs.Sections.{is_one_one}
use Rattle.array_meaning.specs.Trees.{Caller}
use Rattle.array_meaning.specs.Expressions.{evaluate, designate}

-- a record's bytes, and its line feed
abbrev pub record_of : List Scalar → List ℕ
record_of values = record_text values ++ 10 ∷ []

-- an integer that was found, its bytes passed; or a fault
abbrev pub taken : ℕ → Reading → Step ℤ
taken line (Integer z used) = pass used >> pure z
taken line NoMore = fault_at fault.EndOfInput line
taken line NoInteger = fault_at fault.BadInput line

-- the next integer; a comma may stand before it where it isn't the first of its READ
abbrev pub next_integer : ℕ → Bool → Step ℤ
next_integer line behind = do
  rest ← unread
  taken line (next_value behind rest)

-- integers into the places of one item; tells whether any value was read so far
unfoldable pub read_places : ℕ → ℕ → Substring → Bool → List ℕ → Step Bool
read_places line n bytes behind [] = pure behind
read_places line n bytes behind (k ∷ ks) = do
  z ← next_integer line behind
  store_all n bytes ((k, scalar.Int z) ∷ [])
  read_places line n bytes true ks

-- the rest of the record; a READ without values needs a record
abbrev pub skip_record : ℕ → Bool → Step (Unit {0})
skip_record line behind = do
  rest ← unread
  unless (behind || not (nat_eq (length rest) 0)) fault.EndOfInput line
  pass (record_length rest)

module _ (unit : Program) (calls : Caller) (line : ℕ) where
  -- all items, one after the other
  unfoldable pub printed : List Expr → Step (List Scalar)
  printed [] = pure []
  printed (e ∷ more) = do
    v ← evaluate unit calls line [] e
    xs ← printed more
    pure (v.elements ++ xs)

  abbrev pub prints : List Expr → Step (Unit {0})
  prints es = do
    values ← printed es
    put (record_of values)

  -- an item is tested as a left side is when it is reached
  unfoldable pub read_items : Bool → List Target → Step Bool
  read_items behind [] = pure behind
  read_items behind (t ∷ more) = do
    s ← designate unit calls line [] t.designator
    unless (is_one_one s.places) fault.ManyOne line
    now ← read_places line s.variable s.bytes behind s.places
    read_items now more

  abbrev pub reads : List Target → Step (Unit {0})
  reads targets = do
    behind ← read_items false targets
    skip_record line behind
