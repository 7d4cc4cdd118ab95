-- Short words for small units, and for how a run comes out. Facts tell the rank alone: the meaning asks for no extent
-- that a reader knows.
use Rattle.std.specs.Prelude.{◌≡◌, ℕ, pos, neg_ℤ, Bool, Option, Some, None, List, [], ◌++◌, fold, replicate}
use Rattle.a95_base.specs.declared.fault.FaultKind.{FaultKind}
use Rattle.a95_base.specs.declared.scalar.Scalar.{Scalar}
use Rattle.a95_base.specs.declared.scalar.Scalar.TheVariants as scalar
use Rattle.a95_base.specs.declared.scalar.Kind.TheVariants as kind
use Rattle.a95_base.specs.Outcome.{Stop, Ended, Faulted, Finished, Going, Run}
use Rattle.f95_unit.specs.declared.facts.Facts.{Facts}
use Rattle.f95_unit.specs.declared.unit.DeclaredType.{DeclaredType}
use Rattle.f95_unit.specs.declared.unit.Role.{Role}
use Rattle.f95_unit.specs.Plain.{Expr, typed, Literal, Constant, Index, Bound, Bounds, Designator, Target, Assign, Triplet, Forall}
use Rattle.f95_unit.specs.Plain.{Span, Allocation, Stmts, Entity, Procedure, Program}
use Rattle.array_meaning.specs.InputOutput.{record_of}
use Rattle.array_meaning.specs.Run.{source_run}

-- ---- facts

abbrev pub ints : ℕ → Facts
ints rank = record { kind = kind.Int; length = None; extents = replicate rank None }

abbrev pub logs : ℕ → Facts
logs rank = record { kind = kind.Log; length = None; extents = replicate rank None }

abbrev pub texts : ℕ → ℕ → Facts
texts len rank = record { kind = kind.Text; length = Some len; extents = replicate rank None }

abbrev pub some_texts : ℕ → Facts
some_texts rank = record { kind = kind.Text; length = None; extents = replicate rank None }

-- ---- expressions

abbrev pub int : ℕ → Expr
int n = typed (ints 0) (Literal (scalar.Int (pos n)))

abbrev pub log : Bool → Expr
log b = typed (logs 0) (Literal (scalar.Log b))

abbrev pub text : ℕ → List ℕ → Expr
text len bytes = typed (texts len 0) (Literal (scalar.Text bytes))

abbrev pub index_at : ℕ → Expr
index_at level = typed (ints 0) (Index level)

abbrev pub constant_at : ℕ → Facts → Expr
constant_at number facts = typed facts (Constant number)

-- ---- what statements have

abbrev pub target : Facts → Designator → Target
target facts designator = record { facts = facts; designator = designator }

abbrev pub assign : ℕ → Target → Expr → Assign
assign line left right = record { line = line; target = left; value = right }

abbrev pub triplet : Expr → Expr → Bound → Triplet
triplet first last stride = record { first = first; last = last; stride = stride }

abbrev pub forall_over : ℕ → List Triplet → Option Expr → List Assign → Forall
forall_over line triplets mask body = record { line = line; triplets = triplets; mask = mask; body = body }

abbrev pub span : Bound → Expr → Span
span lower upper = record { lower = lower; upper = upper }

abbrev pub allocation : ℕ → List Span → Allocation
allocation variable spans = record { variable = variable; spans = spans }

-- ---- declarations

abbrev pub entity : ℕ → DeclaredType → Bounds → Role → Option Expr → Entity
entity line of bounds role initial = record { line = line; of = of; bounds = bounds; role = role; initial = initial }

abbrev pub procedure : ℕ → Bool → Bool → Bool → List Entity → Option ℕ → Stmts → Procedure
procedure line recursive pure elemental entities result body =
    record {
      line = line;
      recursive = recursive;
      pure = pure;
      elemental = elemental;
      entities = entities;
      result = result;
      body =
          body;
    }

abbrev pub program : List Scalar → Procedure → List Procedure → Program
program constants main procedures = record { constants = constants; main = main; procedures = procedures }

-- ---- values

abbrev pub num : ℕ → Scalar
num n = scalar.Int (pos n)

abbrev pub neg : ℕ → Scalar
neg n = scalar.Int (neg_ℤ (pos n))

abbrev pub chars : List ℕ → Scalar
chars bytes = scalar.Text bytes

abbrev pub truth : Bool → Scalar
truth b = scalar.Log b

-- ---- how a run comes out, with the values of the records that it wrote

abbrev pub output : List (List Scalar) → List ℕ
output records = fold (λ bytes values. bytes ++ record_of values) [] records

abbrev pub ended : List (List Scalar) → Run Stop
ended records = record { written = output records; outcome = Finished Ended }

abbrev pub faulted : FaultKind → ℕ → List (List Scalar) → Run Stop
faulted kind line records = record { written = output records; outcome = Finished (Faulted kind line) }

abbrev pub going : List (List Scalar) → Run Stop
going records = record { written = output records; outcome = Going }

-- a source on an input within so many turns
pub record Comes (unit : Program) (input : List ℕ) (turns : ℕ) (run : Run Stop) : Type 0 where
  pub is : source_run unit input turns ≡ run
