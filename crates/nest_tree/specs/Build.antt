-- Short words for small nest units, and for how a run comes out.
use Rattle.std.specs.Prelude.{◌≡◌, ℕ, pos, true, false, Some, None, List, [], ◌∷◌, ◌++◌, fold}
use Rattle.a95_base.specs.declared.fault.FaultKind.{FaultKind}
use Rattle.a95_base.specs.declared.scalar.Scalar.{Scalar}
use Rattle.a95_base.specs.declared.scalar.Scalar.TheVariants as scalar
use Rattle.a95_base.specs.Outcome.{Ended, Faulted, Finished, Going, Run}
use Rattle.f95_unit.specs.declared.unit.DeclaredType.TheVariants as declared
use Rattle.f95_unit.specs.declared.unit.Length.TheVariants as long
use Rattle.rank_shape.specs.Order.{element_order_of}
use Rattle.array_meaning.specs.InputOutput.{record_of}
use Rattle.nest_tree.specs.declared.access.Access.{Access}
use Rattle.nest_tree.specs.declared.access.Along.{Along}
use Rattle.nest_tree.specs.declared.access.Along.TheVariants as along
use Rattle.nest_tree.specs.declared.access.Amount.{Amount}
use Rattle.nest_tree.specs.declared.access.Amount.TheVariants as amounts
use Rattle.nest_tree.specs.declared.access.Dimension.{Dimension}
use Rattle.nest_tree.specs.declared.access.Name.{Name}
use Rattle.nest_tree.specs.declared.statement.Made.{Made}
use Rattle.nest_tree.specs.declared.statement.Span.{Span}
use Rattle.nest_tree.specs.declared.tree.Blank.{Blank}
use Rattle.nest_tree.specs.declared.unit.Declared.{Declared}
use Rattle.nest_tree.specs.declared.unit.Role.{Role}
use Rattle.nest_tree.specs.declared.unit.Sort.{Sort}
use Rattle.nest_tree.specs.Plain.{Tree, Literal, Read, Frame, Statement, Store, Make, Nest, Put, Statements, no_statement}
use Rattle.nest_tree.specs.Plain.{statement, Procedure, NestUnit}
use Rattle.nest_tree.specs.Run.{End, Comes, Strayed, nest_run, entries}

-- ---- values and accesses

abbrev pub num : ℕ → Scalar
num n = scalar.Int (pos n)

abbrev pub int : ℕ → Tree
int n = Literal (num n)

abbrev pub amount : ℕ → Amount
amount n = amounts.Number (pos n)

-- a subscript from a first one on, in steps of one, by a loop
abbrev pub from : ℕ → ℕ → Along
from start loop = along.Steps loop (amount start) (amount 1)

abbrev pub dimension_of : Along → Dimension
dimension_of a = record { along = a; stride = None; start = None }

abbrev pub dimensions_of : List Along → List Dimension
dimensions_of [] = []
dimensions_of (a ∷ more) = dimension_of a ∷ dimensions_of more

abbrev pub access : Name → List Along → Access
access n alongs = record { name = n; dimensions = dimensions_of alongs; portion = None }

-- ---- frames, pieces, nests

abbrev pub row : ℕ → Frame
row n = record { extents = amount n ∷ []; order = element_order_of 1 }

abbrev pub backwards : ℕ → Frame
backwards n = record { extents = amount n ∷ []; order = record { number = 1; down = true } ∷ [] }

abbrev pub all_of : List Statement → Statements
all_of [] = no_statement
all_of (s ∷ more) = statement s (all_of more)

abbrev pub piece : ℕ → Access → Tree → Statement
piece line target value = Store (record { line = line; target = target; guard = None; value = value })

abbrev pub piece_where : ℕ → Access → Tree → Tree → Statement
piece_where line target test value =
    Store (record { line = line; target = target; guard = Some (record { line = line; test = test }); value = value })

abbrev pub nest : Frame → List Statement → Statement
nest frame body = Nest true frame [] no_statement (all_of body)

-- all elements of a row, printed
abbrev pub shown : ℕ → ℕ → Access → Statement
shown line n a = Nest false (row n) [] no_statement (statement (Put line (Read a)) no_statement)

-- ---- declarations

abbrev pub span : ℕ → ℕ → Span
span lower upper = record { lower = amount lower; upper = amount upper }

abbrev pub make : ℕ → Made → Name → Blank → List Span → Statement
make line made n blank bounds = Make line (record { made = made; name = n; blank = blank; bounds = bounds })

abbrev pub integers : ℕ → Role → Declared
integers rank role = record { of = declared.Integer; rank = rank; role = role }

abbrev pub text_of_length : ℕ → Role → Declared
text_of_length n role = record { of = declared.Character (long.Fixed n); rank = 0; role = role }

abbrev pub procedure : List Declared → List Sort → List Sort → ℕ → List Statement → Procedure
procedure variables scalars blocks lists body =
    record { line = 1; variables = variables; scalars = scalars; blocks = blocks; lists = lists; body = all_of body }

abbrev pub unit_of : Procedure → List Procedure → NestUnit
unit_of main procedures = record { constants = []; main = main; procedures = procedures }

-- ---- how a run comes out, with the values of the records that it wrote

abbrev pub output : List (List Scalar) → List ℕ
output records = fold (λ bytes values. bytes ++ record_of values) [] records

abbrev pub ended : List (List Scalar) → Run End
ended records = record { written = output records; outcome = Finished (Comes Ended) }

abbrev pub faulted : FaultKind → ℕ → List (List Scalar) → Run End
faulted kind line records = record { written = output records; outcome = Finished (Comes (Faulted kind line)) }

abbrev pub going : List (List Scalar) → Run End
going records = record { written = output records; outcome = Going }

abbrev pub strayed : List (List Scalar) → Run End
strayed records = record { written = output records; outcome = Finished Strayed }

-- a unit on an input within so many turns: how it runs, and how many entries it counts
pub record Gives (unit : NestUnit) (input : List ℕ) (turns : ℕ) (run : Run End) (count : ℕ) : Type 0 where
  pub runs : nest_run unit input turns ≡ run
  pub counts : entries unit input turns ≡ count
